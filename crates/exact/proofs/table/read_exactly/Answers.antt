-- `read_exactly` answers and fills as the definitions say: the judgement of the whole message decides before a number is written.
use Rattle.std.specs.Prelude.{Err}
use Rattle.std.proofs.lemmas.Result.{err_from_is_err_and}
use mathlib.Core.Path.{sym, ap, ◌∙◌}
use Rattle.label.specs.Answer.{answer_of}
use Rattle.judge.proofs.Judged.{rows_judged}
use Rattle.exact.proofs.ReadLaws.{room_for, lacks_room, has_room, is_refused}
use Rattle.exact.proofs.table.read_exactly.Goals as goal

pub returns-in_err-counts : goal.returns-in_err-counts
returns-in_err-counts c = let passed = err_from_is_err_and c.from_residual.result c.from_residual.ensures.1 in
    let so = is_refused c.args.edition c.args.message.now c.args.table.now c.in_err-counts.field-0.0 (sym c.in_err-counts.ensures) in
    record { answer = ap answer_of (passed.1 ∙ ap Err passed.2) ∙ so.answered_so; rows = so.filled_so }

pub returns-then-table-counts : goal.returns-then-table-counts
returns-then-table-counts c = let so = lacks_room c.args.edition c.args.message.now c.args.table.now c.in_ok-counts.counts (sym c.in_ok-counts.ensures) c.if-table-counts.true in
    record { answer = so.answered_so; rows = so.filled_so }

pub fill-requires : goal.fill-requires
fill-requires c = room_for c.args.edition c.args.message.now c.args.table.now c.in_ok-counts.counts (sym c.in_ok-counts.ensures) c.if-table-counts.false

pub returns : goal.returns
returns c = let args = c.args in
    let says = sym c.in_ok-counts.ensures in
    let so = has_room args.edition args.message.now args.table.now c.in_ok-counts.counts says c.if-table-counts.false in
    record { answer = so.answered_so; rows = c.fill.ensures args.edition (rows_judged args.edition args.message.now c.in_ok-counts.counts says) ∙ so.filled_so }
