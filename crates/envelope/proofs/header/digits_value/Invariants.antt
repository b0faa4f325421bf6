-- `digits_value` is `value`. The loop's invariant: the digits to come, behind the number so far, make the number of all; and the number so far is small.
use mathlib.Core.Path.{◌≡◌}
use lib.ListN.{drop}
use Rattle.label.specs.Values.{value_after, value}
use Rattle.envelope.proofs.ValueLaws.{Bounded}
use Rattle.envelope.proofs.header.digits_value.Given as goal

abbrev pub invariant-loop-b : goal.invariant-loop-b
invariant-loop-b l = Bounded l.n l.b-index × (value_after l.n (drop l.b-index l.s) ≡ value l.s)
