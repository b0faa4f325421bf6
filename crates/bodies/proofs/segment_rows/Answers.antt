-- `segment_rows` adds three tallies, which count no byte twice, so that the sum fits.
use Prim.Native.Nat.{◌+◌}
use Rattle.bodies.proofs.RuleLaws.{rows_inside}
use borrow.Author.Rules.{rules}
use Rattle.bodies.proofs.segment_rows.Goals as goal

pub overflow_add-result : goal.overflow_add-result
overflow_add-result c = let f = c.tally-fs.ensures in
    let g = c.tally-gs.ensures in
    let u = c.tally-us.ensures in
    let inside = rows_inside c.args.body.now in
    search rules

pub overflow_add-result-2 : goal.overflow_add-result-2
overflow_add-result-2 c = let f = c.tally-fs.ensures in
    let g = c.tally-gs.ensures in
    let u = c.tally-us.ensures in
    let inside = rows_inside c.args.body.now in
    search rules

pub returns : goal.returns
returns c = λ i. c.tally-fs.ensures i + c.tally-gs.ensures i + c.tally-us.ensures i
