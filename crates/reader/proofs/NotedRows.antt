-- Rows that stand in the notes: as the walk goes over the rows that are read, its cursor after so many steps yields those from that number on, and the notes have the
-- numbers of the row that it stands at.
use Rattle.std.specs.Prelude.{Ok}
use Prim.Native.Nat.{ℕ, zero, suc, ◌+◌, ◌*◌, ◌≤◌, ◌<◌}
use mathlib.Core.Path.{◌≡◌, refl, sym, ap, ◌∙◌, subst}
use mathlib.Core.Bool.{Bool, true, false, cond}
use mathlib.Core.List.{List, [], ◌∷◌, ◌++◌, map}
use native.Mathlib.Omega.{arith}
use native.Mathlib.Numerals.{add-one}
use borrow.Author.Tests.{ltb-true, ltb-false, le-ltb}
use lib.ListN.{length, get_or, take, drop}
use lib.Seq.{take-add, take_all}
use lib.Dec.{ltb}
use Rattle.std.proofs.lemmas.Bool.{and_right, cond-false}
use Rattle.label.specs.declared.Counts.{Counts}
use Rattle.label.specs.declared.Reason.TheVariants.{TooManyRows, NoRoom}
use Rattle.label.specs.declared.Stretch.{Stretch}
use Rattle.label.specs.declared.Edition.{Edition}
use Rattle.label.specs.Bytes.{Bytes}
use Rattle.label.specs.Limits.{most_rows}
use Rattle.label.specs.Layout.{Row, all_numbers}
use Rattle.label.specs.Message.{rows_of, ordinals_of}
use Rattle.label.specs.ReadMessage.{Outcome, read, refused, reading}
use Rattle.label.specs.Answer.{accepted, refusal, room_of, overlaid, rows_read, ordinals_read}
use Rattle.label.specs.Counting.{kinds_of, by_counting}
use Rattle.label.proofs.Ordinals.{ordinals_counted_lem, ordinals_of_one}
use Rattle.label.proofs.Answers.{rows_few}
use Rattle.leaves.proofs.Turns.{four_there}
use Rattle.noted.specs.Noted.{note_width, rows_noted, ordinals_noted, too_many, answer_from, table_from, stretch_from}
use Rattle.walk.specs.Cursors.{row_of}
use Rattle.stretches.specs.Stretches.{Lies}
use Rattle.sweeps.specs.Quick.{cursor_after, Holds, Kept, GoodSwept, Handed, OneKept}
use Rattle.walk.proofs.Walks.{Yields}
use Rattle.walk.proofs.Promises.{walked}
use Rattle.walk.proofs.Standing.{rows_here, yields_next}
use Rattle.judge.specs.Shown.{judged_as}
use Rattle.judge.proofs.Judged.{rows_judged}
use Rattle.stretches.proofs.Lying.{lies_here, lies_nowhere}
use Rattle.exact.proofs.ReadLaws.{Told, is_accepted}

-- the rows of notes, and back
abbrev note_numbers : List Row → List ℕ
note_numbers [] = []
note_numbers (r ∷ rs) = r.kind ∷ r.format ∷ r.start ∷ r.length ∷ note_numbers rs

noted_back : (rs : List Row) → rows_noted (note_numbers rs) ≡ rs
noted_back [] = refl
noted_back (r ∷ rs) = ap (λ rest. r ∷ rest) (noted_back rs)

note_append : (rs rs' : List Row) → note_numbers (rs ++ rs') ≡ note_numbers rs ++ note_numbers rs'
note_append [] rs' = refl
note_append (r ∷ rs) rs' = ap (λ ns. r.kind ∷ r.format ∷ r.start ∷ r.length ∷ ns) (note_append rs rs')

-- a row's numbers, read off
held_numbers : (ns : List ℕ) (at : ℕ) (r : Row) → at + note_width ≤ length ns → Holds ns at r → take note_width (drop at ns) ≡ note_numbers (r ∷ [])
held_numbers ns at r fits holds = ap (take note_width) (four_there ns at fits) ∙ (λ i. holds.kind i ∷ holds.format i ∷ holds.start i ∷ holds.length i ∷ [])

module _ (edition : Edition) (m : Bytes) where
  abbrev all : List Row
  all = rows_read (reading edition m)

  pub yields_after : (i : ℕ) → i ≤ length all → Yields m (cursor_after m i) (drop i all)
  yields_after zero within = (walked edition m).yields
  yields_after (suc i) within =
      subst (λ (n : ℕ). Yields m (cursor_after m (suc i)) (drop n all)) (add-one i) (yields_next m all (cursor_after m i) i (yields_after i (omega arith)) (omega arith))

  noted_numbers : (notes : List ℕ) (rows i : ℕ) → Kept m 0 notes rows → note_width * i + note_width ≤ length notes → i < rows
      → take note_width (drop (note_width * i) notes) ≡ note_numbers (row_of (cursor_after m i) ∷ [])
  noted_numbers notes rows i kept fits less =
      let same : 0 + i ≡ i = omega arith in
      held_numbers notes (note_width * i) (row_of (cursor_after m i)) fits (subst (λ (n : ℕ). Holds notes (note_width * i) (row_of (cursor_after m n))) same (kept i fits (omega arith)))

  -- and so the numbers of the first rows, one behind the other
  module _ (notes : List ℕ) (rows : ℕ) (kept : Kept m 0 notes rows) (fits : note_width * rows ≤ length notes) (counted : rows ≡ length all) where
    one_more : (i : ℕ) → i < rows → take (i + 1) all ≡ take i all ++ (row_of (cursor_after m i) ∷ [])
    one_more i less = take-add i 1 all ∙ ap (λ rs. take i all ++ take 1 rs) (rows_here m all (cursor_after m i) i (yields_after i (omega (arith, counted))) (omega (arith, counted)))

    noted_up_to : (i : ℕ) → i ≤ rows → take (note_width * i) notes ≡ note_numbers (take i all)
    noted_up_to zero within = refl
    noted_up_to (suc i) within =
        let further : note_width * suc i ≡ note_width * i + note_width = omega arith in
        ap (λ n. take n notes) further
        ∙ take-add (note_width * i) note_width notes
        ∙ (λ j. noted_up_to i (omega arith) j ++ noted_numbers notes rows i kept (omega arith) (omega arith) j)
        ∙ sym (note_append (take i all) (row_of (cursor_after m i) ∷ []))
        ∙ ap note_numbers (sym (one_more i (omega arith)) ∙ ap (λ n. take n all) (add-one i))

    pub all_noted : rows_noted (take (note_width * rows) notes) ≡ all
    all_noted = ap rows_noted (noted_up_to rows (omega arith)) ∙ noted_back (take rows all) ∙ take_all rows all (omega (arith, counted))

  -- the only row that is noted
  pub noted_lies : (notes : List ℕ) (rows row : ℕ) → Kept m row notes rows → note_width ≤ length notes → row < rows → rows ≡ length all → Lies edition m row (get_or notes 2 0) (get_or notes 3 0)
  noted_lies notes rows row kept fits less counted =
      let here : row + 0 ≡ row = omega arith in
      let holds : Holds notes 0 (row_of (cursor_after m row)) = subst (λ (n : ℕ). Holds notes 0 (row_of (cursor_after m n))) here (kept 0 (omega arith) (omega arith)) in
      let lies = lies_here edition m (cursor_after m row) row (yields_after row (omega (arith, counted))) (omega (arith, counted)) in
      subst (λ (s : ℕ). Lies edition m row s (get_or notes 3 0)) (sym holds.start) (subst (λ (l : ℕ). Lies edition m row (cursor_after m row).start l) (sym holds.length) lies)

-- the ordinals of rows that are noted, by the envelopes that were counted, are those of the reading
ordinals_noted_lem : (o : Outcome) (counts : Counts) → judged_as o ≡ Ok counts → ordinals_noted counts.envelopes (rows_read o) ≡ ordinals_read o
ordinals_noted_lem (read es) counts says =
    let is : counts ≡ record { envelopes = length es; rows = length (rows_of es) } = cc in
    ap (λ (c : Counts). ordinals_noted c.envelopes (rows_of es)) is ∙ by (ltb 1 (length es)) refl
  where
    by : (several : Bool) → ltb 1 (length es) ≡ several → cond several (by_counting (kinds_of (rows_of es))) (map (λ (r : Row). 0) (rows_of es)) ≡ ordinals_of es
    by true more = sym (ordinals_counted_lem es)
    by false few = sym (ordinals_of_one es (ltb-false 1 (length es) few))
ordinals_noted_lem (refused r p) counts says = let z : ◌≡◌ {A = ℕ} 0 1 = cc in absurd (omega arith)

-- what becomes of the notes of a swept message is what becomes of its rows
pub handed_so : (edition : Edition) (m : Bytes) (counts : Counts) (notes table : List ℕ) → Handed edition m counts notes
    → Told edition m table (table_from counts.envelopes (take (note_width * counts.rows) notes) table) (answer_from counts.envelopes (take (note_width * counts.rows) notes) (room_of table))
handed_so edition m counts notes table handed =
    let all = rows_read (reading edition m) in
    let many = rows_judged edition m counts handed.judged in
    let rows = all_noted edition m notes counts.rows handed.kept handed.roomy many in
    let few = and_right (ltb 1 counts.envelopes) _ (le-ltb most_rows (length all) (rows_few edition m)) in
    let os = ordinals_noted_lem (reading edition m) counts handed.judged in
    let so = is_accepted edition m table counts handed.judged in
    record {
      answered_so =
          (λ j. cond (ltb (room_of table) (length (rows j))) (refusal NoRoom 0) (cond (too_many counts.envelopes (rows j)) (refusal TooManyRows 0) (accepted counts.envelopes (length (rows j)))))
          ∙ ap (cond (ltb (room_of table) (length all)) (refusal NoRoom 0)) (cond-false _ _ _ few) ∙ (λ j. cond (ltb (room_of table) (sym many j)) (refusal NoRoom 0) (accepted counts.envelopes (sym many j))) ∙ so.answered_so;
      filled_so =
          (λ j. cond (ltb (room_of table) (length (rows j))) table (cond (too_many counts.envelopes (rows j)) table (overlaid (all_numbers (rows j) (ordinals_noted counts.envelopes (rows j))) table)))
          ∙ ap (cond (ltb (room_of table) (length all)) table) (cond-false _ _ _ few) ∙ (λ j. cond (ltb (room_of table) (sym many j)) table (overlaid (all_numbers all (os j)) table)) ∙ so.filled_so;
    }

-- likewise of the note of its only row
pub lies_as_noted : (edition : Edition) (m : Bytes) (row rows : ℕ) (note : List ℕ) → OneKept edition m row rows note → Lies edition m row (stretch_from row rows note).start (stretch_from row rows note).length
lies_as_noted edition m row rows note kept = by (ltb row rows) refl where
  by : (less : Bool) → ltb row rows ≡ less
      → (let s = cond {A = Stretch} less (record { start = get_or note 2 0; length = get_or note 3 0 }) (record { start = 0; length = 0 }) in Lies edition m row s.start s.length)
  by true is = noted_lies edition m note rows row kept.kept kept.one (ltb-true row rows is) kept.counted
  by false is = lies_nowhere edition m row (omega (arith, kept.counted, ltb-false row rows is))

-- a swept message is handed over, if the notes have room for all rows that were asked for
pub handed : (edition : Edition) (m : Bytes) (most : ℕ) (notes : List ℕ) (counts : Counts) → GoodSwept edition m (record { from = 0; most = most }) notes counts → note_width * most ≤ length notes → Handed edition m counts notes
handed edition m most notes counts good roomy = record { judged = good.judged; roomy = omega (arith, good.few); kept = good.kept }

-- likewise the only row that was asked for
pub one_kept : (edition : Edition) (m : Bytes) (row most : ℕ) (note : List ℕ) (counts : Counts) → GoodSwept edition m (record { from = row; most = most }) note counts → note_width ≤ length note → OneKept edition m row counts.rows note
one_kept edition m row most note counts good roomy = record { counted = rows_judged edition m counts good.judged; one = roomy; kept = good.kept }
