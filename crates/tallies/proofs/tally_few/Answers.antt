use Rattle.std.proofs.Common.{suc, ◌≡◌, ◌+◌, ◌∙◌, take, ap, arith}
use Rattle.leaves.specs.Seek.{tally_of}
use lib.Dec.{eqb}
use lib.ListN.{get_or}
use Rattle.tallies.proofs.TallyTurns.{tally_next, bool_small}
use Rattle.tallies.proofs.tally_few.Goals as goal

pub loop-b-preserved : goal.loop-b-preserved
loop-b-preserved c =
    let i = c.loop-b.b-index in
    let behind : i + 1 ≡ suc i = omega arith in
    let next = ap (λ k. tally_of c.args.c (take k c.args.s.now)) behind ∙ tally_next c.args.c c.args.s.now i c.loop-b-test.true in
    (omega (arith, c.from-n.ensures, c.loop-b.invariant.0, bool_small (eqb (get_or c.args.s.now i 0) c.args.c)), omega (arith, c.from-n.ensures, next, c.loop-b.invariant.1))
