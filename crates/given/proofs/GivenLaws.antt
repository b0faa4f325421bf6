-- The rows that are given: one turn of a loop over them, whether a row stands at an index, and what it says that they stand.
use Prim.Native.Nat.{ℕ, ◌+◌, ◌%◌, ◌/◌, ◌≤◌, ◌<◌}
use mathlib.Core.Path.{◌≡◌, refl, sym, ap, ◌∙◌}
use mathlib.Core.Bool.{Bool, true, false, ◌&&◌}
use mathlib.Core.List.{List, [], ◌∷◌, ◌++◌}
use native.Mathlib.Omega.{arith}
use borrow.Author.Tests.{leb-true, le-leb, lt-leb, eqb-true, eq-eqb, ne_eqb}
use lib.ListN.{length, get_or}
use lib.Dec.{leb, ltb, eqb}
use Rattle.std.proofs.lemmas.Bool.{and_parts, cond-true}
use Rattle.label.specs.Bytes.{Bytes, every}
use Rattle.label.specs.Limits.{most_rows, row_width}
use Rattle.label.specs.Layout.{Row}
use Rattle.label.specs.Writing.{rows_in, ordinals_in, inside, rows_stand, same_ordinals}
use Rattle.label.specs.Counting.{row_from, kinds_of, raised, counting_on, by_counting}
use Rattle.label.proofs.Ordinals.{raised_by_test}
use Rattle.std.specs.Prelude.{Option, Some}
use Rattle.std.specs.Int.{from_bool}
use Rattle.std.specs.Option.{unwrap_or, option_map}
use Rattle.walk.specs.declared.Cursor.{Cursor}
use Rattle.walk.specs.declared.Stage.{Stage}
use Rattle.walk.specs.declared.Stage.TheVariants.{Indicator, VersionValue, ReleaseValue, TypeValue, CompressionValue, CountValue, Piece, Tag, LaterElement, FurtherSubElement, Body}
use Rattle.walk.specs.Cursors.{kind_of, row_of}
use Rattle.given.specs.declared.Given.{Given}
use Rattle.given.specs.Given.{Whole, no_row, row_at, row_or_none, as_row, ordinals_counted, alike_row}

-- five numbers in front of others are a row and its ordinal
pub rows_cut : (x rest : List ℕ) → length x ≡ row_width → rows_in (x ++ rest) ≡ row_from x 0 ∷ rows_in rest
rows_cut [] rest five = absurd (omega arith)
rows_cut (k ∷ []) rest five = absurd (omega arith)
rows_cut (k ∷ (f ∷ [])) rest five = absurd (omega arith)
rows_cut (k ∷ (f ∷ (s ∷ []))) rest five = absurd (omega arith)
rows_cut (k ∷ (f ∷ (s ∷ (l ∷ [])))) rest five = absurd (omega arith)
rows_cut (k ∷ (f ∷ (s ∷ (l ∷ (o ∷ []))))) rest five = refl
rows_cut (k ∷ (f ∷ (s ∷ (l ∷ (o ∷ (n ∷ ns)))))) rest five = absurd (omega arith)

ordinals_cut : (x rest : List ℕ) → length x ≡ row_width → ordinals_in (x ++ rest) ≡ get_or x 4 0 ∷ ordinals_in rest
ordinals_cut [] rest five = absurd (omega arith)
ordinals_cut (k ∷ []) rest five = absurd (omega arith)
ordinals_cut (k ∷ (f ∷ [])) rest five = absurd (omega arith)
ordinals_cut (k ∷ (f ∷ (s ∷ []))) rest five = absurd (omega arith)
ordinals_cut (k ∷ (f ∷ (s ∷ (l ∷ [])))) rest five = absurd (omega arith)
ordinals_cut (k ∷ (f ∷ (s ∷ (l ∷ (o ∷ []))))) rest five = refl
ordinals_cut (k ∷ (f ∷ (s ∷ (l ∷ (o ∷ (n ∷ ns)))))) rest five = absurd (omega arith)

-- fewer are none
pub no_row_left : (ns : List ℕ) → length ns < row_width → rows_in ns ≡ []
no_row_left [] short = refl
no_row_left (k ∷ []) short = refl
no_row_left (k ∷ (f ∷ [])) short = refl
no_row_left (k ∷ (f ∷ (s ∷ []))) short = refl
no_row_left (k ∷ (f ∷ (s ∷ (l ∷ [])))) short = refl
no_row_left (k ∷ (f ∷ (s ∷ (l ∷ (o ∷ ns))))) short = absurd (omega arith)

no_ordinal_left : (ns : List ℕ) → length ns < row_width → ordinals_in ns ≡ []
no_ordinal_left [] short = refl
no_ordinal_left (k ∷ []) short = refl
no_ordinal_left (k ∷ (f ∷ [])) short = refl
no_ordinal_left (k ∷ (f ∷ (s ∷ []))) short = refl
no_ordinal_left (k ∷ (f ∷ (s ∷ (l ∷ [])))) short = refl
no_ordinal_left (k ∷ (f ∷ (s ∷ (l ∷ (o ∷ ns))))) short = absurd (omega arith)

-- a row at an index, or none; and a row of numbers that are just one
module _ (ns : List ℕ) (at : ℕ) where
  pub row_at_some : at + row_width ≤ length ns → row_at ns at ≡ Some (row_from ns at)
  row_at_some room = cond-true _ _ _ (le-leb (at + row_width) (length ns) room)

pub row_there : (ns : List ℕ) (at : ℕ) → at + row_width ≤ length ns → row_or_none ns at ≡ row_from ns at
row_there ns at room = ap (λ (o : Option Row). unwrap_or o no_row) (row_at_some ns at room)

pub row_here : (x : List ℕ) (o : Option Given) (row : Given) → length x ≡ row_width → option_map as_row o ≡ row_at x 0 → o ≡ Some row → as_row row ≡ row_from x 0
row_here x o row five is some =
    let same : Some (as_row row) ≡ Some (row_from x 0) = sym (ap (option_map as_row) some) ∙ is ∙ row_at_some x 0 (omega arith) in
    ap (λ (o : Option Row). unwrap_or o no_row) same

-- no cursor's row is like none
pub unlike_none : (c : Cursor) → false ≡ alike_row (row_of c) no_row
unfolding alike_row
unlike_none c = ap (λ t. t && eqb c.format 0 && eqb c.length 0) (some_kind c.stage)
  where
    some_kind : (s : Stage) → false ≡ eqb (kind_of s) 0
    some_kind Indicator = refl
    some_kind VersionValue = refl
    some_kind ReleaseValue = refl
    some_kind TypeValue = refl
    some_kind CompressionValue = refl
    some_kind CountValue = refl
    some_kind Piece = refl
    some_kind Tag = refl
    some_kind LaterElement = refl
    some_kind FurtherSubElement = refl
    some_kind Body = refl

-- Ordinals

-- what counting on says of rows, behind a row with an ordinal
abbrev pub counted_from : List ℕ → ℕ → Bool
counted_from ns ordinal = same_ordinals (counting_on ordinal (kinds_of (rows_in ns))) (ordinals_in ns)

module _ (x rest : List ℕ) (five : length x ≡ row_width) where
  pub counted_first : ordinals_counted (x ++ rest) ≡ (eqb 0 (get_or x 4 0) && counted_from rest 0)
  counted_first = λ j. same_ordinals (by_counting (kinds_of (rows_cut x rest five j))) (ordinals_cut x rest five j)

  module _ (ordinal now test : ℕ) (by : test ≡ from_bool (ltb (get_or x 0 0) 2)) (is : now ≡ ordinal + test) where
    pub counted_next : counted_from (x ++ rest) ordinal ≡ (eqb now (get_or x 4 0) && counted_from rest now)
    counted_next =
        let same : now ≡ raised ordinal (get_or x 0 0) = is ∙ ap (λ n. ordinal + n) by ∙ raised_by_test ordinal (get_or x 0 0) in
        (λ j. same_ordinals (counting_on ordinal (kinds_of (rows_cut x rest five j))) (ordinals_cut x rest five j))
        ∙ ap (λ n. eqb n (get_or x 4 0) && counted_from rest n) (sym same)

pub counted_none : (ns : List ℕ) → length ns < row_width → ordinals_counted ns ≡ true
counted_none ns short = λ j. same_ordinals (by_counting (kinds_of (no_row_left ns short j))) (no_ordinal_left ns short j)

pub counted_end : (ns : List ℕ) (ordinal : ℕ) → length ns < row_width → counted_from ns ordinal ≡ true
counted_end ns ordinal short = λ j. same_ordinals (counting_on ordinal (kinds_of (no_row_left ns short j))) (no_ordinal_left ns short j)

-- what it says of rows that they stand
pub record StandsSo (held : Bytes) (ns : List ℕ) : Type 0 where
  pub whole : Whole ns
  pub few : length ns / row_width ≤ most_rows
  pub lie : every (inside held) (rows_in ns) ≡ true

module _ (held : Bytes) (ns : List ℕ) where
  pub stands_so : rows_stand held ns ≡ true → StandsSo held ns
  unfolding rows_stand
  stands_so h =
      let k = and_parts _ _ h in
      let l = and_parts _ _ k.0 in
      record { whole = eqb-true (length ns % row_width) 0 l.0; few = leb-true (length ns / row_width) most_rows l.1; lie = k.1 }

  pub not_whole : (length ns % row_width ≡ 0 → ⊥) → false ≡ rows_stand held ns
  unfolding rows_stand
  not_whole odd = sym (ap (λ t. t && leb (length ns / row_width) most_rows && every (inside held) (rows_in ns)) (ne_eqb (length ns % row_width) 0 odd))

  pub too_many_lem : Whole ns → most_rows < length ns / row_width → false ≡ rows_stand held ns
  unfolding rows_stand
  too_many_lem whole many = sym (λ j. eq-eqb (length ns % row_width) 0 whole j && lt-leb (length ns / row_width) most_rows many j && every (inside held) (rows_in ns))

  pub as_they_lie : Whole ns → length ns / row_width ≤ most_rows → every (inside held) (rows_in ns) ≡ rows_stand held ns
  unfolding rows_stand
  as_they_lie whole few = sym (λ j. eq-eqb (length ns % row_width) 0 whole j && le-leb (length ns / row_width) most_rows few j && every (inside held) (rows_in ns))
