-- How many rows are read in a message that is judged: as many as were counted.
use Rattle.std.specs.Prelude.{Ok}
use Prim.Native.Nat.{ℕ}
use mathlib.Core.Path.{◌≡◌, sym, ap}
use native.Mathlib.Omega.{arith}
use lib.ListN.{length}
use Rattle.label.specs.declared.Counts.{Counts}
use Rattle.label.specs.declared.Edition.{Edition}
use Rattle.label.specs.Bytes.{Bytes}
use Rattle.label.specs.Message.{rows_of}
use Rattle.label.specs.ReadMessage.{Outcome, read, refused, reading}
use Rattle.label.specs.Answer.{rows_read}
use Rattle.judge.specs.Shown.{judged_as}

rows_by : (o : Outcome) (counts : Counts) → judged_as o ≡ Ok counts → counts.rows ≡ length (rows_read o)
rows_by (read es) counts says = let is : record { envelopes = length es; rows = length (rows_of es) } ≡ counts = cc in sym (ap (λ (c : Counts). c.rows) is)
rows_by (refused r p) counts says = let z : ◌≡◌ {A = ℕ} 0 1 = cc in absurd (omega arith)

pub rows_judged : (edition : Edition) (m : Bytes) (counts : Counts) → judged_as (reading edition m) ≡ Ok counts → counts.rows ≡ length (rows_read (reading edition m))
rows_judged edition m counts says = rows_by (reading edition m) counts says
