-- The marks before the index are put.
use Rattle.std.proofs.Common.{◌≡◌, ◌++◌, take}
use Rattle.writer.proofs.laying.put_marks.Given as goal

abbrev pub invariant-loop-mark : goal.invariant-loop-mark
invariant-loop-mark l = l.out.items ≡ l.initial.out.items ++ take l.mark-index l.marks
