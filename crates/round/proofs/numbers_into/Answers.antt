-- `numbers_into` reads with ample room.
use mathlib.Core.Path.{◌≡◌, sym, ap, ◌∙◌}
use native.Mathlib.Omega.{arith}
use lib.ListN.{length}
use Rattle.label.specs.Answer.{answer_of}
use Rattle.round.proofs.RoundLaws.{holds_accepted, holds_refused}
use Rattle.round.proofs.numbers_into.Goals as goal

pub overflow_mul-result : goal.overflow_mul-result
overflow_mul-result c = let args = c.args in
    let read = c.read in
    let long : length read.new.table ≡ length args.table.now = omega arith in
    let so = holds_accepted args.edition args.message.now args.table.now read.new.table c.requires long read.ensures.rows c.in-Ok.counts (sym (ap answer_of c.in-Ok.is) ∙ read.ensures.answer) in
    omega (arith, so.inside)

pub returns-in-Ok : goal.returns-in-Ok
returns-in-Ok c = let args = c.args in
    let read = c.read in
    let long : length read.new.table ≡ length args.table.now = omega arith in
    holds_accepted args.edition args.message.now args.table.now read.new.table c.requires long read.ensures.rows c.in-Ok.counts (sym (ap answer_of c.in-Ok.is) ∙ read.ensures.answer)

pub returns-in-Err : goal.returns-in-Err
returns-in-Err c = let args = c.args in
    let read = c.read in
    let long : length read.new.table ≡ length args.table.now = omega arith in
    holds_refused args.edition args.message.now args.table.now read.new.table c.requires long read.ensures.rows c.in-Err.field-0 (sym (ap answer_of c.in-Err.is) ∙ read.ensures.answer)
