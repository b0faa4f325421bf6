-- `amount_and_unit` is `weight` of version 02: bytes without room for a unit are none, and of others the last two are tested as the unit.
use mathlib.Core.Path.{sym, ap, ◌∙◌}
use mathlib.Core.Bool.{◌&&◌}
use native.Mathlib.Omega.{arith}
use Prim.Native.Nat.{◌-◌}
use lib.ListN.{length, take}
use lib.Seq.{length-take-le}
use Rattle.std.proofs.lemmas.List.{take_rest}
use Rattle.label.specs.Fields.{amount, unit, unit_length, weight}
use Rattle.pieces.proofs.FieldLaws.{no_room_for_unit}
use Rattle.pieces.proofs.fields.amount_and_unit.Goals as goal

pub returns-then-s-lt-UNIT_LENGTH : goal.returns-then-s-lt-UNIT_LENGTH
returns-then-s-lt-UNIT_LENGTH c = no_room_for_unit c.args.s.now c.if-s-lt-UNIT_LENGTH.true

pub slice_bounds-is_amount-end : goal.slice_bounds-is_amount-end
slice_bounds-is_amount-end c = let s = c.args.s.now in
    sym (length-take-le (length s - unit_length) s (omega arith))

pub returns : goal.returns
unfolding weight
returns c = let s = c.args.s.now in
    (λ i. c.is_amount.ensures i && c.is_unit.ensures i)
    ∙ ap (λ l. amount (take (length s - unit_length) s) && unit l) (take_rest s (length s - unit_length))
