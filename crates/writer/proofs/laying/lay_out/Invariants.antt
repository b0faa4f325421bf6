-- `lay_out` lays row by row. The loop's invariant: what is laid, and what the rows left render to, is the whole message.
use mathlib.Core.Path.{◌≡◌}
use Rattle.std.specs.Option.{option_map}
use Rattle.std.specs.Slice.Iter.{chunks_exact_rest, chunks_exact_size}
use Rattle.label.specs.Limits.{row_width}
use Rattle.given.specs.Given.{as_row}
use Rattle.writer.proofs.LayingLaws.{Turn}
use Rattle.writer.proofs.laying.lay_out.Given as goal

abbrev pub invariant-loop-numbers : goal.invariant-loop-numbers
invariant-loop-numbers l =
    (goal.iterator-loop-numbers).can_next l.numbers-iterator ×
    (goal.iterator-loop-numbers).is_finite l.numbers-iterator ×
    (chunks_exact_size l.numbers-iterator ≡ row_width) ×
    Turn l.held l.rows l.out.items (option_map as_row l.before) (chunks_exact_rest l.numbers-iterator)
