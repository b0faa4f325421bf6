-- `piece_rows` counts the separators; there are fewer than bytes, so one more fits.
use Prim.Native.Nat.{◌+◌}
use mathlib.Core.Path.{ap}
use Rattle.label.specs.Bytes.{GS}
use Rattle.leaves.proofs.Turns.{tally_inside}
use borrow.Author.Rules.{rules}
use Rattle.bodies.proofs.piece_rows.Goals as goal

pub overflow_add-result : goal.overflow_add-result
overflow_add-result c = let is = c.tally.ensures in
    let inside = tally_inside GS c.args.body.now in
    search rules

pub returns : goal.returns
returns c = ap (λ n. n + 1) c.tally.ensures
