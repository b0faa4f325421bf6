-- `put_row` appends marks, then content.
use native.Mathlib.Omega.{arith}
use borrow.Author.Tests.{leb-true}
use lib.ListN.{length}
use Prim.Native.Nat.{◌+◌}
use Rattle.label.specs.Writing.{inside}
use Rattle.writer.proofs.laying.put_row.Goals as goal

pub slice_bounds-try_extend_from_slice-end : goal.slice_bounds-try_extend_from_slice-end
unfolding inside
slice_bounds-try_extend_from_slice-end c = let row = c.args.row in
    omega (arith, leb-true (row.start + row.length) (length c.args.held.now) c.requires)
