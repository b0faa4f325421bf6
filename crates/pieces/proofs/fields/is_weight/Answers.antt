-- `is_weight` is `weight`, by the version.
use mathlib.Core.Path.{sym, ap, ◌∙◌}
use Rattle.label.specs.Fields.{weight}
use Rattle.pieces.proofs.fields.is_weight.Goals as goal

pub returns-in-Version02 : goal.returns-in-Version02
returns-in-Version02 c = c.amount_and_unit.ensures ∙ sym (ap (λ v. weight v c.args.s.now) c.in-Version02.is)

pub returns-in-Version96 : goal.returns-in-Version96
unfolding weight
returns-in-Version96 c = c.is_amount.ensures ∙ sym (ap (λ v. weight v c.args.s.now) c.in-Version96.is)
