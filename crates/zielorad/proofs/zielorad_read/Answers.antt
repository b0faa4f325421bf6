-- `zielorad_read` answers `read`'s numbers; they fit.
use mathlib.Core.Path.{◌≡◌, sym, ap, ◌∙◌}
use native.Mathlib.Omega.{arith}
use Rattle.label.specs.Answer.{answer_of, room_of, read_answer, table_after}
use Rattle.zielorad.specs.Crossing.{edition_in, reading_of}
use Rattle.zielorad.proofs.Bounds.{counts_small, place_small}
use Rattle.zielorad.proofs.zielorad_read.Goals as goal

pub overflow_cast-result : goal.overflow_cast-result
overflow_cast-result c = let args = c.args in
    let picked = c.edition_in.result in
    let small = counts_small picked args.message.now (room_of args.table.now) c.in-Ok.counts (sym (ap answer_of c.in-Ok.is) ∙ c.read.ensures.answer) in
    omega (arith, small.envelopes)

pub overflow_cast-result-in-Ok : goal.overflow_cast-result-in-Ok
overflow_cast-result-in-Ok c = let args = c.args in
    let picked = c.edition_in.result in
    let small = counts_small picked args.message.now (room_of args.table.now) c.in-Ok.counts (sym (ap answer_of c.in-Ok.is) ∙ c.read.ensures.answer) in
    omega (arith, small.rows)

pub overflow_cast-result-in-Err : goal.overflow_cast-result-in-Err
overflow_cast-result-in-Err c = let args = c.args in
    let picked = c.edition_in.result in
    let small = place_small picked args.message.now (room_of args.table.now) c.in-Err.refusal (sym (ap answer_of c.in-Err.is) ∙ c.read.ensures.answer) in
    omega (arith, small)

pub returns-in-Ok : goal.returns-in-Ok
returns-in-Ok c = let args = c.args in
    let read = c.read in
    let answer : answer_of read.result ≡ read_answer (edition_in args.edition) args.message.now (room_of args.table.now) = read.ensures.answer ∙ ap (λ e. read_answer e args.message.now (room_of args.table.now)) c.edition_in.ensures in
    record { answer = ap reading_of (sym (ap answer_of c.in-Ok.is) ∙ answer); rows = read.ensures.rows ∙ ap (λ e. table_after e args.message.now args.table.now) c.edition_in.ensures }

pub returns-in-Err : goal.returns-in-Err
returns-in-Err c = let args = c.args in
    let read = c.read in
    let answer : answer_of read.result ≡ read_answer (edition_in args.edition) args.message.now (room_of args.table.now) = read.ensures.answer ∙ ap (λ e. read_answer e args.message.now (room_of args.table.now)) c.edition_in.ensures in record { answer = ap (λ n. record { number = n; place = c.in-Err.refusal.place; envelopes = 0; rows = 0 }) c.number_of.ensures ∙ ap reading_of (sym (ap answer_of c.in-Err.is) ∙ answer); rows = read.ensures.rows ∙ ap (λ e. table_after e args.message.now args.table.now) c.edition_in.ensures }
