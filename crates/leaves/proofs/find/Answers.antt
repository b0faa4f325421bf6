-- The index stands: the bytes from `from` on are no more than there are.
use Rattle.std.proofs.Common.{arith, length-drop, ap, length, ◌∙◌}
use Rattle.leaves.proofs.Turns.{seek_within}
use Rattle.leaves.proofs.find.Goals as goal

pub overflow_add-result : goal.overflow_add-result
overflow_add-result c =
    let s = c.args.s.now in
    let long = ap length c.from_on.ensures ∙ length-drop c.args.from s in
    omega (arith, long, seek_within c.args.c c.from_on.result.now, c.before-2.ensures)
