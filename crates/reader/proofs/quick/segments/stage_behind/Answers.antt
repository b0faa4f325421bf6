-- `stage_behind`: US stands before a further sub-element, any other byte before a later element.
use mathlib.Core.Path.{sym, ap}
use mathlib.Core.Bool.{cond}
use borrow.Author.Tests.{eq-eqb, ne_eqb}
use Rattle.label.specs.Bytes.{US}
use Rattle.walk.specs.declared.Stage.TheVariants.{LaterElement, FurtherSubElement}
use Rattle.reader.proofs.quick.segments.stage_behind.Goals as goal

pub returns-then-b-eq-US : goal.returns-then-b-eq-US
returns-then-b-eq-US c = sym (ap (λ t. cond t FurtherSubElement LaterElement) (eq-eqb c.args.b US c.if-b-eq-US.true))

pub returns-else-b-eq-US : goal.returns-else-b-eq-US
returns-else-b-eq-US c = sym (ap (λ t. cond t FurtherSubElement LaterElement) (ne_eqb c.args.b US c.if-b-eq-US.false))
