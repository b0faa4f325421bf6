-- `piece_fault` is `piece_fault`: no fault where the piece is as asked, else its reason.
use Rattle.std.specs.Prelude.{Some}
use mathlib.Core.Path.{sym, ap, ◌∙◌}
use Rattle.std.proofs.lemmas.Bool.{cond-true, cond-false}
use Rattle.faults.proofs.piece_fault.Goals as goal

pub returns-then-piece_holds : goal.returns-then-piece_holds
returns-then-piece_holds c = sym (cond-true _ _ _ (sym c.piece_holds.ensures ∙ c.if-piece_holds.true))

pub returns : goal.returns
returns c = ap Some c.reason_of.ensures ∙ sym (cond-false _ _ _ (sym c.piece_holds.ensures ∙ c.if-piece_holds.false))
