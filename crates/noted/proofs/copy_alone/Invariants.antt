-- `copy_alone` copies a row a turn, with ordinal 0.
use Rattle.noted.specs.Noted.{rows_by}
use Rattle.noted.proofs.Copying.{Put, zeros_of}
use Rattle.noted.proofs.copy_alone.Given as goal

abbrev pub invariant-loop-i : goal.invariant-loop-i
invariant-loop-i l = Put (rows_by l.notes) (zeros_of (rows_by l.notes)) l.fn.table l.table l.i
