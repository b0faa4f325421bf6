-- `format_at` is the number that two digits make, the first of them 0 or 1.
use mathlib.Core.Path.{sym, ◌∙◌}
use native.Mathlib.Omega.{arith}
use Rattle.sweeps.proofs.EnvelopeSweeps.{indicates}
use Rattle.reader.proofs.quick.sweep.Sweep.format_at.Goals as goal

pub returns-in-48 : goal.returns-in-48
returns-in-48 c = let s = c.args.self.now in
    indicates s.message.now s.framed c.args.at 0 c.in_ok-digit.field-0 _ c.requires c.in-48.is (omega arith) (sym c.digit.ensures ∙ c.in_ok-digit.was) (omega (arith, c.from-unit.ensures))

pub returns-in-49 : goal.returns-in-49
returns-in-49 c = let s = c.args.self.now in
    indicates s.message.now s.framed c.args.at 1 c.in_ok-digit.field-0 _ c.requires c.in-49.is (omega arith) (sym c.digit.ensures ∙ c.in_ok-digit.was) (omega (arith, c.from-unit.ensures))
