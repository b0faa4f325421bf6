-- `same_rows` walks over the message's rows and those given. The loop's invariant: whether those left are alike is whether all are.
use mathlib.Core.Path.{◌≡◌}
use Rattle.std.specs.Slice.Iter.{chunks_exact_rest, chunks_exact_size}
use Rattle.label.specs.Limits.{row_width}
use Rattle.label.specs.declared.Edition.{Edition}
use Rattle.label.specs.ReadMessage.{reading}
use Rattle.label.specs.Answer.{rows_read}
use Rattle.writer.proofs.Comparing.{AsMany, Compared}
use Rattle.writer.proofs.same_rows.Given as goal

abbrev pub invariant-loop-numbers : goal.invariant-loop-numbers
invariant-loop-numbers l =
    (goal.iterator-loop-numbers).can_next l.numbers-iterator ×
    (goal.iterator-loop-numbers).is_finite l.numbers-iterator ×
    (chunks_exact_size l.numbers-iterator ≡ row_width) ×
    ((edition : Edition) → AsMany edition l.m l.rows → Compared l.m (rows_read (reading edition l.m)) l.rows l.c (chunks_exact_rest l.numbers-iterator))
