-- How code goes over rows, which no promise speaks of: a row by the index of its first number, and ordinals by counting indicators. What the ordinals are
-- is `ordinals_of` (Message), and `ordinals_counted_lem` (proofs/Ordinals) says that counting comes to them.
use Rattle.std.specs.Prelude.{ℕ, suc, ◌+◌, cond, List, [], ◌∷◌, map, get_or, leb}
use Rattle.label.specs.Layout.{Item, Row}
use Rattle.label.specs.Written.{indicator_row}

-- the row whose numbers, all but the ordinal, stand from an index on
abbrev pub row_from : List ℕ → ℕ → Row
row_from ns at = record { kind = get_or ns at 0; format = get_or ns (at + 1) 0; start = get_or ns (at + 2) 0; length = get_or ns (at + 3) 0 }

-- the kinds of rows, and of items
abbrev pub kinds_of : List Row → List ℕ
kinds_of rs = map (λ (r : Row). r.kind) rs

abbrev pub item_kinds : List Item → List ℕ
item_kinds is = map (λ (i : Item). i.kind) is

-- the ordinal at a row of a kind, behind a row with ordinal n; no kind is below that of an indicator
abbrev pub raised : ℕ → ℕ → ℕ
raised n k = cond (leb k indicator_row) (suc n) n

abbrev pub counting_on : ℕ → List ℕ → List ℕ
counting_on n [] = []
counting_on n (k ∷ ks) = raised n k ∷ counting_on (raised n k) ks

-- the ordinals of rows of these kinds: the first row is in the first envelope
abbrev pub by_counting : List ℕ → List ℕ
by_counting [] = []
by_counting (k ∷ ks) = 0 ∷ counting_on 0 ks
