-- `tag_04` is `tag`: of another length, or the tests of first byte and all bytes.
use Rattle.std.proofs.Common.{◌∙◌, ◌&&◌, arith}
use Rattle.pieces.proofs.TagLaws.{no_tag, tag_there}
use Rattle.pieces.proofs.segments.tag_04.Goals as goal

pub returns-in_default : goal.returns-in_default
returns-in_default c = no_tag c.args.s.now (λ is. omega arith) (λ is. omega arith)

pub returns-in_default-2 : goal.returns-in_default-2
returns-in_default-2 c = no_tag c.args.s.now (λ is. omega arith) (λ is. omega arith)

pub returns-in-len2 : goal.returns-in-len2
returns-in-len2 c = (λ i. c.is_ascii_uppercase.ensures.value i && c.all_in.ensures i) ∙ tag_there c.args.s.now c.in-len2.len_at_least c.in-len2.len_below
