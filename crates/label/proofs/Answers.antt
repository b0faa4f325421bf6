-- From what reading answers to what a caller is answered: numbers, values and the table.
use Prim.Native.Nat.{ℕ, ◌*◌, ◌≤◌, ◌<◌}
use mathlib.Core.Path.{◌≡◌, refl, sym, ap, ◌∙◌, subst}
use mathlib.Core.Bool.{Bool, true, false, cond}
use mathlib.Core.Logic.{inl, inr}
use mathlib.Core.List.{List, [], ◌∷◌}
use native.Mathlib.Omega.{arith}
use borrow.Author.Tests.{le-ltb, lt-ltb, ltb-true, ltb-false}
use lib.ListN.{length}
use lib.Dec.{ltb}
use Rattle.label.specs.declared.Reason.{Reason}
use Rattle.label.specs.declared.Reason.TheVariants.{NoRoom}
use Rattle.label.specs.Bytes.{Bytes}
use Rattle.label.specs.Limits.{most_rows, row_width}
use Rattle.label.specs.declared.Edition.{Edition}
use Rattle.label.specs.Layout.{Row, all_numbers}
use Rattle.label.specs.Envelope.{Envelope}
use Rattle.label.specs.Message.{rows_of, ordinals_of, numbers_of}
use Rattle.label.specs.ReadMessage.{Outcome, read, refused, reading}
use Rattle.label.specs.Answer.{accepted, refusal, room_of, answered, read_answer, overlaid, filled, table_after, rows_read}
use Rattle.label.specs.Place.{PlaceFor}
use Rattle.label.specs.Promised.{NoneGood, IsRefused, RefusedForAnyRoom, AcceptedAs, RefusedSo, Alike}
use Rattle.label.proofs.Numbers.{reasons_by_number}
use Rattle.label.proofs.Ordinals.{ordinals_long}
use Rattle.label.proofs.ReadingSound.{ReadingSo, reading_so}
use Rattle.label.proofs.ReadingComplete.{reading_pass}
use Rattle.label.proofs.Places.{place_inside}
use Rattle.label.proofs.PlaceOnce.{place_answered}

pub refused_or_good : (edition : Edition) (m : Bytes) → NoneGood edition m → IsRefused edition m
refused_or_good edition m none_good = by (reading edition m) refl (reading_so edition m)
  where
    by : (o : Outcome) → reading edition m ≡ o → ReadingSo edition m o → IsRefused edition m
    by (read es) says good = absurd (none_good es good)
    by (refused r p) says so = record { reason = r; place = p; says = says }

-- the rows that are read are no more than a message may have
pub rows_few : (edition : Edition) (m : Bytes) → length (rows_read (reading edition m)) ≤ most_rows
rows_few edition m = by (reading edition m) (reading_so edition m)
  where
    by : (o : Outcome) → ReadingSo edition m o → length (rows_read o) ≤ most_rows
    by (read es) good = good.not_too_many
    by (refused r p) so = omega arith

pub same_list : (es es' : List Envelope) → read es ≡ read es' → es ≡ es'
same_list es es' same = cc

-- a row with its ordinal is so many numbers
pub numbers_wide : (rs : List Row) (os : List ℕ) → length os ≡ length rs → length (all_numbers rs os) ≡ row_width * length rs
numbers_wide [] os same = refl
numbers_wide (r ∷ rs) [] same = absurd (omega (arith, same))
numbers_wide (r ∷ rs) (o ∷ os) same = omega (arith, numbers_wide rs os (omega (arith, same)))

pub numbers_of_wide : (es : List Envelope) → length (numbers_of es) ≡ row_width * length (rows_of es)
numbers_of_wide es = numbers_wide (rows_of es) (ordinals_of es) (ordinals_long es)

module _ (edition : Edition) (m : Bytes) (es : List Envelope) where
  pub answered_with_room : (room : ℕ) → reading edition m ≡ read es → length (rows_of es) ≤ room → read_answer edition m room ≡ accepted (length es) (length (rows_of es))
  unfolding read_answer
  answered_with_room room says enough =
      ap (answered room) says ∙ ap (λ t. cond t (refusal NoRoom 0) (accepted (length es) (length (rows_of es)))) (le-ltb room (length (rows_of es)) enough)

  pub answered_without : (room : ℕ) → reading edition m ≡ read es → room < length (rows_of es) → read_answer edition m room ≡ refusal NoRoom 0
  unfolding read_answer
  answered_without room says short =
      ap (answered room) says ∙ ap (λ t. cond t (refusal NoRoom 0) (accepted (length es) (length (rows_of es)))) (lt-ltb room (length (rows_of es)) short)

  pub filled_with_room : (table : List ℕ) → reading edition m ≡ read es → length (rows_of es) ≤ room_of table → table_after edition m table ≡ overlaid (numbers_of es) table
  unfolding table_after
  filled_with_room table says enough =
      ap (filled table) says ∙ ap (λ t. cond t table (overlaid (numbers_of es) table)) (le-ltb (room_of table) (length (rows_of es)) enough)

-- two messages whose lists have the same number of envelopes and the same rows with the same ordinals are answered alike
pub alike : (edition : Edition) (m m' : Bytes) (es es' : List Envelope) → reading edition m ≡ read es → reading edition m' ≡ read es' → length es' ≡ length es → rows_of es' ≡ rows_of es → ordinals_of es' ≡ ordinals_of es → Alike edition m m'
unfolding read_answer table_after
alike edition m m' es es' says says' envelopes rows ordinals = record {
  answers = λ room. ap (answered room) says' ∙ (λ i. cond (ltb room (length (rows i))) (refusal NoRoom 0) (accepted (envelopes i) (length (rows i)))) ∙ sym (ap (answered room) says);
  tables = λ table. ap (filled table) says' ∙ (λ i. cond (ltb (room_of table) (length (rows i))) table (overlaid (all_numbers (rows i) (ordinals i)) table)) ∙ sym (ap (filled table) says);
}

-- What the answer's numbers tell, for a table's room

-- a reading that is refused is so for any room
refused_for_any_room : (edition : Edition) (m : Bytes) (r : Reason) (p : ℕ) → reading edition m ≡ refused r p → (room : ℕ) → read_answer edition m room ≡ refusal r p
unfolding read_answer
refused_for_any_room edition m r p says room = ap (answered room) says

pub refused_whatever_room : (edition : Edition) (m : Bytes) → NoneGood edition m → RefusedForAnyRoom edition m
refused_whatever_room edition m none_good =
    let is = refused_or_good edition m none_good in
    record {
      reason = is.reason;
      place = is.place;
      so = subst (λ (o : Outcome). ReadingSo edition m o) is.says (reading_so edition m);
      says = refused_for_any_room edition m is.reason is.place is.says;
    }

module _ (edition : Edition) (m : Bytes) (room : ℕ) where
  accepted_by : (o : Outcome) → ReadingSo edition m o → (envelopes rows : ℕ) → answered room o ≡ accepted envelopes rows → AcceptedAs edition m room envelopes rows
  accepted_by (read es) good envelopes rows says = by (ltb room (length (rows_of es))) refl says
    where
      by : (t : Bool) → ltb room (length (rows_of es)) ≡ t → cond t (refusal NoRoom 0) (accepted (length es) (length (rows_of es))) ≡ accepted envelopes rows → AcceptedAs edition m room envelopes rows
      by true short says = let z : ◌≡◌ {A = ℕ} 0 1 = cc in absurd (omega arith)
      by false enough says =
          let its_rows : rows ≡ length (rows_of es) = cc in
          record { list = es; good = good; its_envelopes = cc; its_rows = its_rows; fits = omega (arith, ltb-false room (length (rows_of es)) enough) }
  accepted_by (refused r p) so envelopes rows says = let z : ◌≡◌ {A = ℕ} 0 1 = cc in absurd (omega arith)

  pub accepted_as : (envelopes rows : ℕ) → read_answer edition m room ≡ accepted envelopes rows → AcceptedAs edition m room envelopes rows
  unfolding read_answer
  accepted_as envelopes rows says = accepted_by (reading edition m) (reading_so edition m) envelopes rows says

  pub as_accepted : (envelopes rows : ℕ) → AcceptedAs edition m room envelopes rows → read_answer edition m room ≡ accepted envelopes rows
  as_accepted envelopes rows so =
      answered_with_room edition m so.list room (reading_pass edition m so.list so.good) (omega (arith, so.fits, so.its_rows))
      ∙ (λ i. accepted (sym so.its_envelopes i) (sym so.its_rows i))

  same_reason : (r r' : Reason) (p p' : ℕ) → refusal r' p' ≡ refusal r p → r ≡ r'
  same_reason r r' p p' says = reasons_by_number r r' (cc)

  refused_by : (o : Outcome) → ReadingSo edition m o → (r : Reason) (p : ℕ) → answered room o ≡ refusal r p → RefusedSo edition m room r p
  refused_by (read es) good r p says = by (ltb room (length (rows_of es))) refl says
    where
      by : (t : Bool) → ltb room (length (rows_of es)) ≡ t → cond t (refusal NoRoom 0) (accepted (length es) (length (rows_of es))) ≡ refusal r p → RefusedSo edition m room r p
      by true short says = inr (same_reason r NoRoom p 0 says, cc, record { list = es; good = good; too_few = ltb-true room (length (rows_of es)) short })
      by false enough says = let z : ◌≡◌ {A = ℕ} 0 1 = cc in absurd (omega arith)
  refused_by (refused r' p') so r p says =
      let place : p' ≡ p = cc in
      inl (subst (λ (x : ℕ). PlaceFor edition m r x) place (subst (λ (x : Reason). PlaceFor edition m x p') (sym (same_reason r r' p p' says)) so))

  pub refused_so : (r : Reason) (p : ℕ) → read_answer edition m room ≡ refusal r p → RefusedSo edition m room r p
  unfolding read_answer
  refused_so r p says = refused_by (reading edition m) (reading_so edition m) r p says

  pub so_refused : (r : Reason) (p : ℕ) → RefusedSo edition m room r p → read_answer edition m room ≡ refusal r p
  so_refused r p (inl so) = refused_for_any_room edition m r p (place_answered edition m r p so) room
  so_refused r p (inr (why, place, lacks)) =
      answered_without edition m lacks.list room (reading_pass edition m lacks.list lacks.good) lacks.too_few ∙ (λ i. refusal (sym why i) (sym place i))

  pub answer_inside : (r : Reason) (p : ℕ) → read_answer edition m room ≡ refusal r p → p ≤ length m
  answer_inside r p says = by (refused_so r p says)
    where
      by : RefusedSo edition m room r p → p ≤ length m
      by (inl so) = place_inside edition m r p so
      by (inr (why, place, lacks)) = omega arith
