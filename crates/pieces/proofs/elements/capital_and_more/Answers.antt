-- The pattern asks for a capital and a byte behind it.
use Rattle.std.proofs.Common.{arith}
use Rattle.pieces.proofs.ElementLaws.{capital_front, no_capital}
use Rattle.pieces.proofs.elements.capital_and_more.Goals as goal

pub returns-in-65-to-90 : goal.returns-in-65-to-90
returns-in-65-to-90 c = capital_front c.args.s.now (omega arith) (omega arith) (omega arith)

pub returns-in_default : goal.returns-in_default
returns-in_default c = no_capital c.args.s.now (λ long from to. omega arith)

pub returns-in_default-2 : goal.returns-in_default-2
returns-in_default-2 c = no_capital c.args.s.now (λ long from to. omega arith)

pub returns-in_default-3 : goal.returns-in_default-3
returns-in_default-3 c = no_capital c.args.s.now (λ long from to. omega arith)
