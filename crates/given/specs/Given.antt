-- The rows that are given, by the index of their first number, and when two rows are alike.
use Rattle.std.specs.Prelude.{ℕ, ◌+◌, ◌%◌, ◌≡◌, Bool, true, false, ◌&&◌, cond, List, [], ◌∷◌, length, leb, eqb, Option, Some, None}
use Rattle.std.specs.Option.{unwrap_or}
use Rattle.label.specs.Limits.{row_width}
use Rattle.label.specs.Layout.{Row}
use Rattle.label.specs.Writing.{rows_in, ordinals_in, same_ordinals}
use Rattle.label.specs.Counting.{row_from, kinds_of, by_counting}
use Rattle.given.specs.declared.Given.{Given}

-- whole rows
abbrev pub Whole : List ℕ → Type 0
Whole ns = length ns % row_width ≡ 0

-- the row of zeros
abbrev pub no_row : Row
no_row = record { kind = 0; format = 0; start = 0; length = 0 }

-- the row from an index on, where its numbers stand there
abbrev pub row_at : List ℕ → ℕ → Option Row
row_at ns at = cond (leb (at + row_width) (length ns)) (Some (row_from ns at)) None

-- and else the row of zeros
abbrev pub row_or_none : List ℕ → ℕ → Row
row_or_none ns at = unwrap_or (row_at ns at) no_row

-- the row of these numbers
abbrev pub as_row : Given → Row
as_row g = record { kind = g.kind; format = g.format; start = g.start; length = g.length }

-- whether the ordinals given are those that counting the rows' indicators comes to
abbrev pub ordinals_counted : List ℕ → Bool
ordinals_counted ns = same_ordinals (by_counting (kinds_of (rows_in ns))) (ordinals_in ns)

-- alike in all but the start: the same kind, format and length
unfoldable pub alike_row : Row → Row → Bool
alike_row r s = eqb r.kind s.kind && eqb r.format s.format && eqb r.length s.length

abbrev pub alike : List Row → List Row → Bool
alike [] [] = true
alike [] (s ∷ ss) = false
alike (r ∷ rs) [] = false
alike (r ∷ rs) (s ∷ ss) = alike_row r s && alike rs ss
