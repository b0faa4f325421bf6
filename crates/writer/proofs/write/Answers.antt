-- `write` asks in the paper's order, 20, 21, 22, and copies last.
use mathlib.Core.Path.{sym, ap, ◌∙◌}
use mathlib.Core.List.{◌++◌}
use lib.ListN.{length, drop}
use Rattle.writer.proofs.Composed.{answers_bad_rows, answers_none, answers_no_room, answers_written}
use Rattle.writer.proofs.write.Goals as goal

pub returns-then-not-rows_stand : goal.returns-then-not-rows_stand
returns-then-not-rows_stand c = let args = c.args in
    let so = answers_bad_rows args.edition args.held.now args.rows.now args.output.now (sym c.rows_stand.ensures ∙ c.if-not-rows_stand.true) in
    record { answer = so.answer; bytes = so.bytes }

pub returns-in_default : goal.returns-in_default
returns-in_default c = let args = c.args in
    let so = answers_none args.edition args.held.now args.rows.now args.output.now (sym c.rows_stand.ensures ∙ c.if-not-rows_stand.false) c.in_default.ensures in
    record { answer = so.answer; bytes = so.bytes }

pub returns-then-output-count : goal.returns-then-output-count
returns-then-output-count c = let args = c.args in
    let so = answers_no_room args.edition args.held.now args.rows.now args.output.now (sym c.rows_stand.ensures ∙ c.if-not-rows_stand.false) c.in-Some.message.now c.in-Some.ensures c.if-output-count.true in
    record { answer = so.answer; bytes = so.bytes }

pub compose-requires : goal.compose-requires
compose-requires c = record { stand = sym c.rows_stand.ensures ∙ c.if-not-rows_stand.false; empty = c.new-candidate.ensures }

pub returns : goal.returns
returns c = let args = c.args in
    let message = c.in-Some.message.now in
    let copied = c.copy_from_slice in
    let rest = drop (length message) args.output.now in
    let so = answers_written args.edition args.held.now args.rows.now args.output.now (sym c.rows_stand.ensures ∙ c.if-not-rows_stand.false) message c.in-Some.ensures c.if-output-count.false
    (copied.new.self ++ rest) (ap (λ l. l ++ rest) copied.ensures.after) in
    record { answer = so.answer; bytes = so.bytes }
