-- `write_again` writes what was read.
use mathlib.Core.Path.{◌≡◌, ap, ◌∙◌}
use native.Mathlib.Omega.{arith}
use lib.ListN.{length, length-take}
use Rattle.label.specs.Writing.{write_answer_of, write_answer, output_after}
use Rattle.label.specs.ReadMessage.{reading}
use Rattle.label.specs.Answer.{numbers_read}
use Rattle.round.proofs.RoundLaws.{goes_round}
use Rattle.round.proofs.write_again.Goals as goal

pub slice_bounds-write-end : goal.slice_bounds-write-end
slice_bounds-write-end c = let into = c.numbers_into-count in
    omega (arith, length-take into.result into.new.table, into.ensures.inside)

pub returns : goal.returns
returns c = let args = c.args in
    let m = args.message.now in
    let output = args.output.now in
    let numbers = c.numbers_into-count.ensures.numbers in
    let write = c.write in
    let answer : write_answer_of write.result ≡ write_answer args.edition m (numbers_read (reading args.edition m)) (length output) = write.ensures.answer ∙ ap (λ ns. write_answer args.edition m ns (length output)) numbers in
    let bytes : write.new.output ≡ output_after args.edition m (numbers_read (reading args.edition m)) output = write.ensures.bytes ∙ ap (λ ns. output_after args.edition m ns output) numbers in
    record { answer = answer; bytes = bytes; round = goes_round args.edition m output write.new.output write.result answer bytes }
