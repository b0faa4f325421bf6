-- A refusal leaves lent memory as it was: said of the definitions that contracts cite, for every message, table, row numbers and output.
use Prim.Native.Nat.{ℕ}
use mathlib.Core.Path.{◌≡◌, refl}
use mathlib.Core.Bool.{Bool, true, false, cond}
use mathlib.Core.List.{List, [], ◌∷◌}
use lib.ListN.{length}
use lib.Dec.{ltb}
use Rattle.label.specs.declared.Reason.{Reason}
use Rattle.label.specs.declared.Reason.TheVariants.{NoRoom}
use Rattle.label.specs.declared.WriteReason.{WriteReason}
use Rattle.label.specs.Bytes.{Bytes}
use Rattle.label.specs.declared.Edition.{Edition}
use Rattle.label.specs.Message.{rows_of, numbers_of}
use Rattle.label.specs.ReadMessage.{Outcome, read, refused, reading}
use Rattle.label.specs.Answer.{accepted, refusal, room_of, answered, read_answer, overlaid, filled, table_after}
use Rattle.label.specs.Writing.{Composition, written, declined, write_number, writing, composed_answer, write_answer, composed_over, output_after}

-- with no room the table stays; with room there is no refusal
kept_or_accepted : (full : Bool) (table new : List ℕ) (es rows : ℕ) (reason : Reason) (place : ℕ) → cond full (refusal NoRoom 0) (accepted es rows) ≡ refusal reason place → cond full table new ≡ table
kept_or_accepted true table new es rows reason place says = refl
kept_or_accepted false table new es rows reason place says = cc

kept : (table : List ℕ) (outcome : Outcome) (reason : Reason) (place : ℕ) → answered (room_of table) outcome ≡ refusal reason place → filled table outcome ≡ table
kept table (read es) reason place says =
    kept_or_accepted (ltb (room_of table) (length (rows_of es))) table (overlaid (numbers_of es) table) (length es) (length (rows_of es)) reason place says
kept table (refused r p) reason place says = refl

pub refusal_leaves_table : (edition : Edition) (m : Bytes) (table : List ℕ) (reason : Reason) (place : ℕ) → read_answer edition m (room_of table) ≡ refusal reason place → table_after edition m table ≡ table
unfolding read_answer table_after
refusal_leaves_table edition m table reason place says = kept table (reading edition m) reason place says

kept_output : (output : Bytes) (composition : Composition) (reason : WriteReason) → composed_answer composition ≡ write_number reason ∷ [] → composed_over output composition ≡ output
kept_output output (written m) reason says = cc
kept_output output (declined r) reason says = refl

pub refusal_leaves_output : (edition : Edition) (held : Bytes) (ns : List ℕ) (output : Bytes) (reason : WriteReason) → write_answer edition held ns (length output) ≡ write_number reason ∷ [] → output_after edition held ns output ≡ output
unfolding write_answer output_after
refusal_leaves_output edition held ns output reason says = kept_output output (writing edition held ns (length output)) reason says
