-- Bytes of another length differ.
use Rattle.std.proofs.Common.{arith}
use Rattle.label.specs.Bytes.{ascii}
use Rattle.pieces.proofs.TagLaws.{other_length}
use Rattle.pieces.proofs.segments.is_binary.Goals as goal

pub returns-in_default : goal.returns-in_default
returns-in_default c = other_length c.args.s.now (ascii "BIN") (λ is. omega arith)

pub returns-in_default-5 : goal.returns-in_default-5
returns-in_default-5 c = other_length c.args.s.now (ascii "BIN") (λ is. omega arith)
