-- `element_12` is `element12`: too short, or three capitals or digits and a space in front.
use Rattle.std.proofs.Common.{◌∙◌, ◌&&◌, arith}
use Rattle.pieces.proofs.ElementLaws.{element12_short, spaced, no_space}
use Rattle.pieces.proofs.elements.element_12.Goals as goal

pub returns-in_default : goal.returns-in_default
returns-in_default c = element12_short c.args.s.now c.in_default.len_below

pub returns-in_default-2 : goal.returns-in_default-2
returns-in_default-2 c = no_space c.args.s.now c.in_default.len_at_least (λ is. omega arith)

pub returns-in-32 : goal.returns-in-32
returns-in-32 c =
    (λ i. (c.in_class.ensures i && c.in_class-in-32.ensures i) && c.in_class-in-32-2.ensures i)
    ∙ spaced c.args.s.now c.in-32.len_at_least (omega arith)
