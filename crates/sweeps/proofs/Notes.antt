-- One row more is noted: it stands where it belongs if it is wanted and there is room, and the rows noted before stand as they did.
use Prim.Native.Nat.{ℕ, ◌+◌, ◌-◌, ◌*◌, ◌≤◌, ◌<◌}
use mathlib.Core.Path.{◌≡◌, refl, sym, ap, ◌∙◌, subst}
use mathlib.Core.Bool.{Bool, true, false}
use mathlib.Core.List.{List}
use native.Mathlib.Omega.{arith}
use native.Mathlib.Numerals.{add-one}
use borrow.Author.Tests.{eqb-true, eqb-false}
use lib.ListN.{length, get_or, set, length-set}
use lib.Seq.{get_or-set_same, get_or-set_other}
use lib.Dec.{eqb}
use Rattle.label.specs.Bytes.{Bytes}
use Rattle.label.specs.Layout.{Row}
use Rattle.noted.specs.Noted.{note_width}
use Rattle.walk.specs.declared.Stage.{Stage}
use Rattle.walk.specs.declared.Stage.TheVariants.{Indicator, VersionValue, ReleaseValue, TypeValue, CompressionValue, CountValue, Piece, Tag, LaterElement, FurtherSubElement, Body}
use Rattle.walk.specs.declared.Cursor.{Cursor}
use Rattle.walk.specs.Cursors.{kind_of, row_of, next_cursor}
use Rattle.sweeps.specs.Quick.{cursor_after, Holds, NotedOne}

-- kinds are small numbers
pub kind_small : (s : Stage) → kind_of s ≤ 7
kind_small Indicator = omega arith
kind_small VersionValue = omega arith
kind_small ReleaseValue = omega arith
kind_small TypeValue = omega arith
kind_small CompressionValue = omega arith
kind_small CountValue = omega arith
kind_small Piece = omega arith
kind_small Tag = omega arith
kind_small LaterElement = omega arith
kind_small FurtherSubElement = omega arith
kind_small Body = omega arith

-- one step further
cursor_next : (m : Bytes) (rows : ℕ) (c : Cursor) → cursor_after m rows ≡ c → cursor_after m (rows + 1) ≡ next_cursor m c
cursor_next m rows c is = ap (cursor_after m) (add-one rows) ∙ ap (next_cursor m) is

module _ (ns : List ℕ) (at : ℕ) (r : Row) where
  -- the notes after one store, two, three and four
  abbrev stored₁ : List ℕ
  stored₁ = set ns at r.kind

  abbrev stored₂ : List ℕ
  stored₂ = set stored₁ (at + 1) r.format

  abbrev stored₃ : List ℕ
  stored₃ = set stored₂ (at + 2) r.start

  abbrev stored : List ℕ
  stored = set stored₃ (at + 3) r.length

  stored_long : length stored ≡ length ns
  stored_long = length-set stored₃ (at + 3) r.length ∙ length-set stored₂ (at + 2) r.start ∙ length-set stored₁ (at + 1) r.format ∙ length-set ns at r.kind

  -- an index outside keeps its number
  stored_other : (i : ℕ) → (at ≤ i → i < at + note_width → ⊥) → get_or stored i 0 ≡ get_or ns i 0
  stored_other i outside =
      get_or-set_other stored₃ (at + 3) i r.length 0 (λ is. outside (omega arith) (omega arith))
      ∙ get_or-set_other stored₂ (at + 2) i r.start 0 (λ is. outside (omega arith) (omega arith))
      ∙ get_or-set_other stored₁ (at + 1) i r.format 0 (λ is. outside (omega arith) (omega arith))
      ∙ get_or-set_other ns at i r.kind 0 (λ is. outside (omega arith) (omega arith))

  stored_here : at + note_width ≤ length ns → Holds stored at r
  stored_here fits =
      let l₁ = length-set ns at r.kind in
      let l₂ = length-set stored₁ (at + 1) r.format in
      let l₃ = length-set stored₂ (at + 2) r.start in
      record {
        kind =
            get_or-set_other stored₃ (at + 3) at r.length 0 (λ is. omega arith)
            ∙ get_or-set_other stored₂ (at + 2) at r.start 0 (λ is. omega arith)
            ∙ get_or-set_other stored₁ (at + 1) at r.format 0 (λ is. omega arith)
            ∙ get_or-set_same ns at r.kind 0 (omega arith);
        format =
            get_or-set_other stored₃ (at + 3) (at + 1) r.length 0 (λ is. omega arith)
            ∙ get_or-set_other stored₂ (at + 2) (at + 1) r.start 0 (λ is. omega arith)
            ∙ get_or-set_same stored₁ (at + 1) r.format 0 (omega (arith, l₁));
        start = get_or-set_other stored₃ (at + 3) (at + 2) r.length 0 (λ is. omega arith) ∙ get_or-set_same stored₂ (at + 2) r.start 0 (omega (arith, l₁, l₂));
        length = get_or-set_same stored₃ (at + 3) r.length 0 (omega (arith, l₁, l₂, l₃));
      }

-- a row that lies elsewhere stays
stored_elsewhere : (ns : List ℕ) (at other : ℕ) (r r' : Row) → ((i : ℕ) → other ≤ i → i < other + note_width → at ≤ i → i < at + note_width → ⊥) → Holds ns other r' → Holds (stored ns at r) other r'
stored_elsewhere ns at other r r' apart holds = record {
  kind = stored_other ns at r other (apart other (omega arith) (omega arith)) ∙ holds.kind;
  format = stored_other ns at r (other + 1) (apart (other + 1) (omega arith) (omega arith)) ∙ holds.format;
  start = stored_other ns at r (other + 2) (apart (other + 2) (omega arith) (omega arith)) ∙ holds.start;
  length = stored_other ns at r (other + 3) (apart (other + 3) (omega arith) (omega arith)) ∙ holds.length;
}

module _ (from : ℕ) (old : List ℕ) (row : ℕ) (c : Cursor) where
  -- a row before those that are wanted
  pub noted_before : row < from → NotedOne from old old row c
  noted_before early m noted = record { stands = cursor_next m row c noted.stands; kept = λ k fits less. absurd (omega arith) }

  -- a row for which there is no room
  pub noted_behind : from ≤ row → length old < note_width * (row - from) + note_width → NotedOne from old old row c
  noted_behind late full m noted = record {
    stands = cursor_next m row c noted.stands;
    kept = λ k fits less. noted.kept k fits (omega arith);
  }

  -- a row that is put
  pub noted_put : (new : List ℕ) → from ≤ row → note_width * (row - from) + note_width ≤ length old → new ≡ stored old (note_width * (row - from)) (row_of c) → NotedOne from old new row c
  noted_put new late roomy is m noted = record { stands = cursor_next m row c noted.stands; kept = λ k fits less. by k (eqb k (row - from)) refl (subst (λ (ns : List ℕ). note_width * k + note_width ≤ length ns) is fits) less }
    where
      at : ℕ
      at = note_width * (row - from)

      long : length (stored old at (row_of c)) ≡ length old
      long = stored_long old at (row_of c)

      by : (k : ℕ) (t : Bool) → eqb k (row - from) ≡ t → note_width * k + note_width ≤ length (stored old at (row_of c)) → from + k < row + 1 → Holds new (note_width * k) (row_of (cursor_after m (from + k)))
      by k true here fits less =
          let same = eqb-true k (row - from) here in
          let there : row ≡ from + k = omega arith in
          subst (λ (ns : List ℕ). Holds ns (note_width * k) (row_of (cursor_after m (from + k)))) (sym is)
          (subst (λ (n : ℕ). Holds (stored old at (row_of c)) (note_width * n) (row_of (cursor_after m (from + k)))) (sym same)
          (subst (λ (r : Row). Holds (stored old at (row_of c)) at r) (ap row_of (sym noted.stands) ∙ ap (λ n. row_of (cursor_after m n)) there) (stored_here old at (row_of c) roomy)))
      by k false other fits less =
          let differs = eqb-false k (row - from) other in
          let below : k < row - from = omega (arith, differs) in
          subst (λ (ns : List ℕ). Holds ns (note_width * k) (row_of (cursor_after m (from + k)))) (sym is)
          (stored_elsewhere old at (note_width * k) (row_of c) (row_of (cursor_after m (from + k))) (λ i a b e f. omega arith) (noted.kept k (omega (arith, long)) (omega arith)))
