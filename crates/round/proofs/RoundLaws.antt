-- What a table with room for every message holds after reading, and that what is written from it is the message.
use Rattle.std.specs.Prelude.{Err, Ok}
use Prim.Native.Nat.{ℕ, ◌*◌, ◌≤◌}
use mathlib.Core.Path.{◌≡◌, refl, sym, ap, ◌∙◌}
use mathlib.Core.List.{List}
use native.Mathlib.Omega.{arith}
use lib.ListN.{length, get_or, take}
use Rattle.label.specs.declared.Edition.{Edition}
use Rattle.label.specs.declared.Counts.{Counts}
use Rattle.label.specs.declared.Refusal.{Refusal}
use Rattle.label.specs.Bytes.{Bytes}
use Rattle.label.specs.Limits.{most_rows, row_width}
use Rattle.label.specs.Message.{rows_of, numbers_of}
use Rattle.label.specs.ReadMessage.{Outcome, read, refused, reading}
use Rattle.label.specs.Answer.{answer_of, room_of, answered, read_answer, table_after, numbers_read}
use Rattle.label.specs.Writing.{write_answer_of, write_answer, output_after, Writing}
use Rattle.label.proofs.Promises.{accepted_is_good, good_is_read, good_is_accepted}
use Rattle.label.proofs.RowItems.{table_numbers}
use Rattle.label.proofs.WriterPromises.{written_back_counted, written_back_there}
use Rattle.round.specs.Round.{HoldsRead, GoesRound}

module _ (edition : Edition) (m : Bytes) (table after : List ℕ) (ample : row_width * most_rows ≤ length table) (long : length after ≡ length table) (is : after ≡ table_after edition m table) where
  -- accepted: as many rows as are read, and the table's first numbers are theirs
  pub holds_accepted : (counts : Counts) → answer_of (Ok counts) ≡ read_answer edition m (room_of table) → HoldsRead edition m (row_width * counts.rows) after
  unfolding read_answer
  holds_accepted counts says = by (reading edition m) refl
    where
      by : (o : Outcome) → reading edition m ≡ o → HoldsRead edition m (row_width * counts.rows) after
      by (read es) reads =
          let good = accepted_is_good edition m es reads in
          let room : length (rows_of es) ≤ room_of table = omega (arith, good.not_too_many) in
          let counted : counts.rows ≡ length (rows_of es) = ap (λ l. get_or l 2 0) (says ∙ good_is_accepted edition m es good (room_of table) room) in
          record {
            inside = omega (arith, counted, good.not_too_many);
            numbers = (λ i. take (row_width * counted i) (is i)) ∙ table_numbers edition m es good table room ∙ ap numbers_read (sym reads);
          }
      by (refused r p) reads = absurd (omega (arith, ap length (says ∙ ap (answered (room_of table)) reads)))

  -- refused: no row is read
  pub holds_refused : (r : Refusal) → answer_of (Err r) ≡ read_answer edition m (room_of table) → HoldsRead edition m 0 after
  holds_refused r says = by (reading edition m) refl
    where
      by : (o : Outcome) → reading edition m ≡ o → HoldsRead edition m 0 after
      by (read es) reads =
          let good = accepted_is_good edition m es reads in
          absurd (omega (arith, ap length (says ∙ good_is_accepted edition m es good (room_of table) (omega (arith, good.not_too_many)))))
      by (refused r p) reads = record { inside = omega arith; numbers = ap numbers_read (sym reads) }

-- an answer and an output as the definitions have them for the numbers read: a good message has gone round
pub goes_round : (edition : Edition) (m output out : Bytes) (a : Writing) → write_answer_of a ≡ write_answer edition m (numbers_read (reading edition m)) (length output) → out ≡ output_after edition m (numbers_read (reading edition m)) output
    → GoesRound edition m output out a
goes_round edition m output out a answer bytes es good room =
    let numbers : numbers_read (reading edition m) ≡ numbers_of es = ap numbers_read (good_is_read edition m es good) in (
      answer ∙ ap (λ ns. write_answer edition m ns (length output)) numbers ∙ written_back_counted edition m es good (length output) room,
      bytes ∙ ap (λ ns. output_after edition m ns output) numbers ∙ written_back_there edition m es good output room,
    )
