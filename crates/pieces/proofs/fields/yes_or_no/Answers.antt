-- Bytes of another length are neither.
use Rattle.std.proofs.Common.{arith}
use Rattle.pieces.proofs.FieldLaws.{no_letter}
use Rattle.pieces.proofs.fields.yes_or_no.Goals as goal

pub returns-in_default-3 : goal.returns-in_default-3
returns-in_default-3 c = no_letter c.args.s.now (λ is. omega arith)
