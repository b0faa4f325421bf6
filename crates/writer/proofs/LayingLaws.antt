-- Rows laid one behind the other behind the message's header: one turn, and the end.
use Prim.Native.Nat.{ℕ, ◌+◌, ◌<◌, ◌≤◌}
use mathlib.Core.Path.{◌≡◌, refl, sym, ap, ◌∙◌}
use mathlib.Core.Bool.{Bool, true, false, false≢true}
use mathlib.Core.List.{List, [], ◌∷◌, ◌++◌, map, append_assoc, append-nil}
use native.Mathlib.Omega.{arith}
use borrow.Author.Tests.{leb-true, leb-false}
use lib.Dec.{leb}
use lib.ListN.{length, length-append}
use Rattle.std.specs.Prelude.{Option, Some, None, Result, Ok, Err, IsOk, OnOk, OnErr}
use Rattle.std.proofs.lemmas.Bool.{and_parts}
use Rattle.label.specs.Bytes.{Bytes, every}
use Rattle.label.specs.Limits.{longest, row_width}
use Rattle.label.specs.Formats.{widest, rule_of}
use Rattle.label.specs.Layout.{Row}
use Rattle.label.specs.Message.{header}
use Rattle.label.specs.Rendered.{ending, rendered_after, rendered}
use Rattle.label.specs.Writing.{rows_in, inside, item_in, items_in}
use Rattle.label.specs.Counting.{row_from}
use Rattle.given.proofs.GivenLaws.{rows_cut, no_row_left}
use Rattle.writer.specs.Laying.{marks_before, laid}

-- an error, whatever the result, and one of a candidate that is full
pub on_err_so : {T E P : Type 0} (r : Result T E) → P → OnErr r P
on_err_so (Ok x) h = tt
on_err_so (Err e) h = h

pub on_err_full : {T E : Type 0} (r : Result T E) (n : ℕ) → (n ≤ longest → IsOk r) → OnErr r (longest < n)
on_err_full (Ok x) n fits = tt
on_err_full (Err e) n fits = by (leb n longest) refl
  where
    by : (t : Bool) → leb n longest ≡ t → longest < n
    by true is = absurd (false≢true (fits (leb-true n longest is)))
    by false is = leb-false n longest is

-- which of two a result is, by the test of it
pub of_ok : {T E P : Type 0} (r : Result T E) → IsOk r → OnOk r P → P
of_ok (Ok x) is h = h
of_ok (Err e) is h = absurd (false≢true is)

pub of_err : {T E P : Type 0} (r : Result T E) → (IsOk r → ⊥) → OnErr r P → P
of_err (Ok x) none h = absurd (none refl)
of_err (Err e) none h = h

module _ (held : Bytes) where
  -- what stands behind the header and a row, or behind the header alone, where these rows are left
  abbrev pub behind : Option Row → List Row → Bytes
  behind None [] = []
  behind None (r ∷ rs) = (item_in held r).content ++ rendered_after (item_in held r) (map (item_in held) rs)
  behind (Some p) rs = rendered_after (item_in held p) (map (item_in held) rs)

  pub behind_header : (rs : List Row) → header ++ behind None rs ≡ rendered (map (item_in held) rs)
  unfolding rendered
  behind_header [] = append-nil header
  behind_header (r ∷ rs) = refl

  behind_row : (before : Option Row) (r : Row) (rs : List Row) → behind before (r ∷ rs) ≡ laid held before r ++ behind (Some r) rs
  unfolding rendered_after
  behind_row None r rs = refl
  behind_row (Some p) r rs = sym (append_assoc (marks_before (Some p) r) (item_in held r).content (behind (Some r) rs))

  -- what the last row ends with
  pub behind_last : (p : Row) → behind (Some p) [] ≡ ending (rule_of widest p.format) p.kind
  unfolding rendered_after
  behind_last p = refl

-- the loop over the rows: these numbers are left, and what is laid already and they are the whole message
pub record Turn (held : Bytes) (ns : List ℕ) (out : Bytes) (before : Option Row) (left : List ℕ) : Type 0 where
  pub lie : every (inside held) (rows_in left) ≡ true
  pub whole : out ++ behind held before (rows_in left) ≡ rendered (items_in held ns)

module _ (held : Bytes) (ns out : Bytes) where
  pub turn_first : (left : List ℕ) → left ≡ ns → every (inside held) (rows_in ns) ≡ true → out ≡ header → Turn held ns out None left
  turn_first left is lie starts = record {
    lie = ap (λ l. every (inside held) (rows_in l)) is ∙ lie;
    whole = (λ j. starts j ++ behind held None (rows_in (is j))) ∙ behind_header held (rows_in ns);
  }

  module _ (before : Option Row) (left x rest : List ℕ) (row : Row) (turn : Turn held ns out before left) (cut : left ≡ x ++ rest) (five : length x ≡ row_width) (is : row ≡ row_from x 0) where
    split : rows_in left ≡ row ∷ rows_in rest
    split = ap rows_in cut ∙ rows_cut x rest five ∙ ap (λ r. r ∷ rows_in rest) (sym is)

    here : (inside held row ≡ true) × (every (inside held) (rows_in rest) ≡ true)
    here = and_parts _ _ (sym (ap (every (inside held)) split) ∙ turn.lie)

    pub turn_inside : inside held row ≡ true
    turn_inside = here.0

    whole_here : out ++ (laid held before row ++ behind held (Some row) (rows_in rest)) ≡ rendered (items_in held ns)
    whole_here = ap (λ b. out ++ b) (sym (ap (behind held before) split ∙ behind_row held before row (rows_in rest))) ∙ turn.whole

    pub turn_next : (out' : Bytes) → out' ≡ out ++ laid held before row → Turn held ns out' (Some row) rest
    turn_next out' put = record {
      lie = here.1;
      whole = ap (λ o. o ++ behind held (Some row) (rows_in rest)) put ∙ append_assoc out (laid held before row) (behind held (Some row) (rows_in rest)) ∙ whole_here;
    }

    pub turn_long : longest < length out + length (laid held before row) → longest < length (rendered (items_in held ns))
    turn_long long =
        omega (arith, ap length whole_here, length-append out (laid held before row ++ behind held (Some row) (rows_in rest)), length-append (laid held before row) (behind held (Some row) (rows_in rest)))

  -- behind the last row
  module _ (left : List ℕ) (short : length left < row_width) where
    module _ (p : Row) (turn : Turn held ns out (Some p) left) where
      whole_last : out ++ ending (rule_of widest p.format) p.kind ≡ rendered (items_in held ns)
      whole_last = ap (λ b. out ++ b) (sym (ap (behind held (Some p)) (no_row_left left short) ∙ behind_last held p)) ∙ turn.whole

      pub ends_some : (new out' : Bytes) → new ≡ ending (rule_of widest p.format) p.kind → out' ≡ out ++ new → out' ≡ rendered (items_in held ns)
      ends_some new out' is put = put ∙ ap (λ b. out ++ b) is ∙ whole_last

      pub ends_long : (new : Bytes) → new ≡ ending (rule_of widest p.format) p.kind → longest < length out + length new → longest < length (rendered (items_in held ns))
      ends_long new is long = omega (arith, ap length whole_last, length-append out (ending (rule_of widest p.format) p.kind), ap length is)
