-- `last_empty` is `last_is_empty` of the pieces: the last byte tells, if there is one.
use Rattle.std.proofs.Common.{arith}
use Rattle.bodies.proofs.PieceLaws.{last_is}
use Rattle.bodies.proofs.last_empty.Goals as goal

pub returns-in-len1-up : goal.returns-in-len1-up
returns-in-len1-up c = last_is c.args.c c.args.s.now (λ none. omega arith)
