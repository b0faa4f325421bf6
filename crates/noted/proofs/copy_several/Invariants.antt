-- `copy_several` copies the first row, and a later row a turn. The loop's invariant: these rows are put, and the ordinal is that of the last of them.
use Prim.Native.Nat.{◌+◌}
use mathlib.Core.Path.{◌≡◌}
use lib.ListN.{get_or}
use Rattle.noted.specs.Noted.{rows_by}
use Rattle.noted.proofs.Copying.{Put, counted_of}
use Rattle.noted.proofs.copy_several.Given as goal

abbrev pub invariant-loop-i : goal.invariant-loop-i
invariant-loop-i l = record {
  own : l.ordinal ≡ get_or (counted_of l.fn.notes) l.i 0;
  put : Put (rows_by l.fn.notes) (counted_of l.fn.notes) l.fn.table l.table (l.i + 1);
}
