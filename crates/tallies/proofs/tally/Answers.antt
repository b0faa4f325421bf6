-- A turn counts a block of 64 bytes; the bytes that are left are fewer.
use Rattle.std.proofs.Common.{arith, ap}
use Rattle.leaves.specs.Seek.{tally_of}
use Rattle.leaves.proofs.Turns.{tally_inside}
use Rattle.tallies.proofs.TallyTurns.{tally_cut}
use Rattle.tallies.proofs.tally.Goals as goal

pub overflow_add-n : goal.overflow_add-n
overflow_add-n c =
    let cut = c.in-Some.ensures.cases in
    omega (arith, tally_cut c.args.c 64 c.loop-block.rest.now, c.from-n.ensures, c.tally_few.ensures, ap (tally_of c.args.c) cut.1, c.loop-block.invariant, tally_inside c.args.c c.args.s.now)

pub loop-block-preserved : goal.loop-block-preserved
loop-block-preserved c =
    let cut = c.in-Some.ensures.cases in
    omega (arith, tally_cut c.args.c 64 c.loop-block.rest.now, c.from-n.ensures, c.tally_few.ensures, ap (tally_of c.args.c) cut.1, ap (tally_of c.args.c) cut.2, c.loop-block.invariant)

pub overflow_add-result : goal.overflow_add-result
overflow_add-result c = omega (arith, c.from.ensures, c.tally_few-2.ensures, c.loop-block.invariant, tally_inside c.args.c c.args.s.now)
