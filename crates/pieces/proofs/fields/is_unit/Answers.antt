-- Bytes of another length are no unit.
use Rattle.std.proofs.Common.{arith}
use Rattle.pieces.proofs.FieldLaws.{no_unit}
use Rattle.pieces.proofs.fields.is_unit.Goals as goal

pub returns-in_default : goal.returns-in_default
returns-in_default c = no_unit c.args.s.now (λ is. omega arith)

pub returns-in_default-5 : goal.returns-in_default-5
returns-in_default-5 c = no_unit c.args.s.now (λ is. omega arith)
