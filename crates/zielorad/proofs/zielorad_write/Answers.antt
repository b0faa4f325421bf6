-- `zielorad_write` answers `write`'s numbers; they fit.
use mathlib.Core.Path.{◌≡◌, sym, ap, ◌∙◌}
use native.Mathlib.Omega.{arith}
use lib.ListN.{length}
use Rattle.label.specs.Writing.{write_answer_of, write_answer, output_after}
use Rattle.zielorad.specs.Crossing.{edition_in, written_of}
use Rattle.zielorad.proofs.Bounds.{count_small}
use Rattle.zielorad.proofs.zielorad_write.Goals as goal

pub overflow_cast-result : goal.overflow_cast-result
overflow_cast-result c = let args = c.args in
    let small = count_small c.edition_in.result args.held.now args.rows.now (length args.output.now) c.in-Ok.count (sym (ap write_answer_of c.in-Ok.is) ∙ c.write.ensures.answer) in
    omega (arith, small)

pub returns-in-Ok : goal.returns-in-Ok
returns-in-Ok c = let args = c.args in
    let write = c.write in
    let picked = c.edition_in.ensures in
    let answer : write_answer_of write.result ≡ write_answer (edition_in args.edition) args.held.now args.rows.now (length args.output.now) = write.ensures.answer ∙ ap (λ e. write_answer e args.held.now args.rows.now (length args.output.now)) picked in
    record { answer = ap written_of (sym (ap write_answer_of c.in-Ok.is) ∙ answer); bytes = write.ensures.bytes ∙ ap (λ e. output_after e args.held.now args.rows.now args.output.now) picked }

pub returns-in-Err : goal.returns-in-Err
returns-in-Err c = let args = c.args in
    let write = c.write in
    let picked = c.edition_in.ensures in
    let answer : write_answer_of write.result ≡ write_answer (edition_in args.edition) args.held.now args.rows.now (length args.output.now) = write.ensures.answer ∙ ap (λ e. write_answer e args.held.now args.rows.now (length args.output.now)) picked in
    record { answer = ap (λ n. record { number = n; count = 0 }) c.write_number_of.ensures ∙ ap written_of (sym (ap write_answer_of c.in-Err.is) ∙ answer); bytes = write.ensures.bytes ∙ ap (λ e. output_after e args.held.now args.rows.now args.output.now) picked }
