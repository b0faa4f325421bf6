-- `ordinals_counted` goes over the rows behind the first. The loop's invariant: what counting on says of the rows left is what counting says of all.
use Prim.Native.Nat.{◌+◌, ◌≤◌}
use mathlib.Core.Path.{◌≡◌}
use lib.ListN.{length}
use Rattle.std.specs.Slice.Iter.{chunks_exact_rest, chunks_exact_size}
use Rattle.label.specs.Limits.{row_width}
use Rattle.given.specs.Given.{ordinals_counted}
use Rattle.given.proofs.GivenLaws.{counted_from}
use Rattle.given.proofs.ordinals_counted.Given as goal

abbrev pub invariant-loop-row : goal.invariant-loop-row
invariant-loop-row l =
    (goal.iterator-loop-row).can_next l.row-iterator ×
    (goal.iterator-loop-row).is_finite l.row-iterator ×
    (chunks_exact_size l.row-iterator ≡ row_width) ×
    (l.ordinal + length (chunks_exact_rest l.row-iterator) ≤ length l.rows) ×
    (counted_from (chunks_exact_rest l.row-iterator) l.ordinal ≡ ordinals_counted l.rows)
