-- A turn leaves what the message comes to as it is where an envelope is closed: on to the boundary.
use Rattle.std.specs.Prelude.{Ok}
use mathlib.Core.Path.{sym, ap, ◌∙◌, subst}
use Rattle.judge.specs.Turns.{TurnSo}
use Rattle.judge.proofs.WalkLaws.{turn_closed, closed_so}
use Rattle.judge.proofs.envelopes.turn.Goals as goal

pub returns-in-Closed : goal.returns-in-Closed
returns-in-Closed c = subst (TurnSo c.args.edition c.args.m.now c.args.s) (sym (rw c.with_envelope-in-Closed.ensures at c.boundary.ensures))
    (closed_so c.args.edition c.args.m.now c.args.s c.requires c.in-Closed.next c.in-Closed.n (turn_closed c.args.edition c.args.m.now c.args.s c.requires c.in-Closed.next c.in-Closed.n (sym c.in_ok-n.ensures ∙ ap Ok c.in-Closed.is)))
