-- `element_05` is `element05`: too short, or two digits in front.
use Rattle.std.proofs.Common.{◌∙◌, ◌&&◌, arith}
use Rattle.pieces.proofs.ElementLaws.{element05_short, element05_long}
use Rattle.pieces.proofs.elements.element_05.Goals as goal

pub returns-in_default : goal.returns-in_default
returns-in_default c = element05_short c.args.s.now (omega arith)

pub returns-in-len3-up : goal.returns-in-len3-up
returns-in-len3-up c = (λ i. c.in_class.ensures i && c.in_class-in-len3-up.ensures i) ∙ element05_long c.args.s.now (omega arith)
