-- From a judgement to the answer and the table: accepted with room, accepted without, and refused.
use Rattle.std.specs.Prelude.{Err, Ok}
use Prim.Native.Nat.{ℕ, ◌≤◌, ◌<◌}
use mathlib.Core.Path.{◌≡◌, refl, sym, ap, ◌∙◌}
use mathlib.Core.Bool.{cond}
use mathlib.Core.List.{List}
use native.Mathlib.Omega.{arith}
use borrow.Author.Tests.{lt-ltb, le-ltb}
use lib.ListN.{length}
use lib.Dec.{ltb}
use Rattle.std.proofs.lemmas.Bool.{cond-true, cond-false}
use Rattle.label.specs.declared.Counts.{Counts}
use Rattle.label.specs.declared.Refusal.{Refusal}
use Rattle.label.specs.declared.Reason.TheVariants.{NoRoom}
use Rattle.label.specs.declared.Edition.{Edition}
use Rattle.label.specs.Bytes.{Bytes}
use Rattle.label.specs.Message.{rows_of, numbers_of}
use Rattle.label.specs.ReadMessage.{Outcome, read, refused, reading}
use Rattle.label.specs.Answer.{accepted, refusal, room_of, answered, read_answer, overlaid, filled, table_after, numbers_read}
use Rattle.judge.specs.Shown.{judged_as}
use Rattle.judge.proofs.Judged.{rows_judged}
use Rattle.exact.specs.Tables.{Room}

-- what a caller has: an answer, and a table
pub record Told (edition : Edition) (m : Bytes) (table after answer : List ℕ) : Type 0 where
  pub answered_so : answer ≡ read_answer edition m (room_of table)
  pub filled_so : after ≡ table_after edition m table

record ToldBy (o : Outcome) (table after answer : List ℕ) : Type 0 where
  answered_so : answer ≡ answered (room_of table) o
  filled_so : after ≡ filled table o

told : (edition : Edition) (m : Bytes) (table after answer : List ℕ) → ToldBy (reading edition m) table after answer → Told edition m table after answer
unfolding read_answer table_after
told edition m table after answer by = record { answered_so = by.answered_so; filled_so = by.filled_so }

accepted_by : (o : Outcome) (counts : Counts) (table : List ℕ) → judged_as o ≡ Ok counts
    → ToldBy o table (cond (ltb (room_of table) counts.rows) table (overlaid (numbers_read o) table)) (cond (ltb (room_of table) counts.rows) (refusal NoRoom 0) (accepted counts.envelopes counts.rows))
accepted_by (read es) counts table says =
    let is : counts ≡ record { envelopes = length es; rows = length (rows_of es) } = cc in
    record {
      answered_so = ap (λ (c : Counts). cond (ltb (room_of table) c.rows) (refusal NoRoom 0) (accepted c.envelopes c.rows)) is;
      filled_so = ap (λ (c : Counts). cond (ltb (room_of table) c.rows) table (overlaid (numbers_of es) table)) is;
    }
accepted_by (refused r p) counts table says = let z : ◌≡◌ {A = ℕ} 0 1 = cc in record { answered_so = absurd (omega arith); filled_so = absurd (omega arith) }

refused_by : (o : Outcome) (r : Refusal) (table : List ℕ) → judged_as o ≡ Err r → ToldBy o table table (refusal r.reason r.place)
refused_by (read es) r table says = let z : ◌≡◌ {A = ℕ} 0 1 = cc in record { answered_so = absurd (omega arith); filled_so = absurd (omega arith) }
refused_by (refused reason place) r table says =
    let is : record { reason = reason; place = place } ≡ r = cc in
    record { answered_so = sym (ap (λ (f : Refusal). refusal f.reason f.place) is); filled_so = refl }

module _ (edition : Edition) (m : Bytes) (table : List ℕ) where
  pub room_for : (counts : Counts) → judged_as (reading edition m) ≡ Ok counts → counts.rows ≤ room_of table → Room m counts.rows table
  room_for counts says enough = record { edition = edition; counted = rows_judged edition m counts says; roomy = omega arith }

  module _ (counts : Counts) (says : judged_as (reading edition m) ≡ Ok counts) where
    -- accepted with room, refused for lack of it
    pub is_accepted : Told edition m table (cond (ltb (room_of table) counts.rows) table (overlaid (numbers_read (reading edition m)) table)) (cond (ltb (room_of table) counts.rows) (refusal NoRoom 0) (accepted counts.envelopes counts.rows))
    is_accepted = told edition m table _ _ (accepted_by (reading edition m) counts table says)

    pub lacks_room : room_of table < counts.rows → Told edition m table table (refusal NoRoom 0)
    lacks_room short =
        let less = lt-ltb (room_of table) counts.rows short in
        record { answered_so = sym (cond-true _ _ _ less) ∙ is_accepted.answered_so; filled_so = sym (cond-true _ _ _ less) ∙ is_accepted.filled_so }

    pub has_room : counts.rows ≤ room_of table → Told edition m table (overlaid (numbers_read (reading edition m)) table) (accepted counts.envelopes counts.rows)
    has_room enough =
        let fits = le-ltb (room_of table) counts.rows enough in
        record { answered_so = sym (cond-false _ _ _ fits) ∙ is_accepted.answered_so; filled_so = sym (cond-false _ _ _ fits) ∙ is_accepted.filled_so }

  pub is_refused : (r : Refusal) → judged_as (reading edition m) ≡ Err r → Told edition m table table (refusal r.reason r.place)
  is_refused r says = told edition m table table _ (refused_by (reading edition m) r table says)
