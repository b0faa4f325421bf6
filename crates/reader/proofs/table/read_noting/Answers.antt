-- `read_noting` is the quick path's answer where that has one.
use Prim.Native.Nat.{◌/◌}
use native.Mathlib.Omega.{arith}
use Rattle.reader.proofs.NotedRows.{handed}
use Rattle.reader.proofs.table.read_noting.Goals as goal

pub hand_over-requires : goal.hand_over-requires
hand_over-requires g c = let args = c.args in
    handed args.edition args.message.now (g.row.NUMBERS / 4) c.sweep.new.notes.numbers c.in_ok-counts.counts c.in_ok-counts.ensures (omega arith)
