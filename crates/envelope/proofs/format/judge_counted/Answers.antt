-- `judge_counted` is `counted_found`.
use Rattle.std.specs.Prelude.{◌+◌}
use mathlib.Core.Path.{sym, ◌∙◌}
use Rattle.std.proofs.lemmas.Bool.{cond-true}
use Rattle.label.specs.Bytes.{plain}
use Rattle.label.specs.Values.{type_length}
use Rattle.envelope.specs.Headers.{value_end}
use Rattle.envelope.specs.Formats.{compression_found}
use Rattle.envelope.proofs.ValueLaws.{found_after}
use Rattle.envelope.proofs.format.judge_counted.Goals as goal

pub returns : goal.returns
returns c = let m = c.args.due.message.now in
    let here = rw c.ahead.ensures.further at (rw c.ahead.ensures.same at c.in_ok-end.ensures) in
    let found = rw c.new.ensures.end at (rw c.new.ensures.start at here) in
    (rw c.behind.ensures.next at (rw c.behind.ensures.same at c.judge_compression.ensures))
    ∙ sym (cond-true _ _ _ (sym c.begins.ensures.tells ∙ c.if-not-begins.false)
    ∙ found_after m (value_end type_length.0 type_length.1 plain m (c.args.due.at + 1)) c.in_ok-end.end (compression_found m) found)
