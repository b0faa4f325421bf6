-- `pieces` takes a piece a turn. The loop's invariant: what is found of the body from here on is what is found from its start on, and its rows are noted; and
-- one more is asked for.
use Prim.Native.Nat.{◌-◌, ◌<◌}
use lib.ListN.{length}
use Rattle.sweeps.proofs.PieceSweeps.{SweepingPieces}
use Rattle.reader.proofs.quick.sweep.Sweep.pieces.Given as goal

abbrev pub invariant-loop-end : goal.invariant-loop-end
invariant-loop-end g l = SweepingPieces l.self.message.now l.self.wanted.from l.k l.f l.start l.before l.notes.numbers l.at l.notes.rows × (l.notes.rows < l.self.wanted.most)

abbrev pub decreases-loop-end : goal.decreases-loop-end
decreases-loop-end g l = length l.self.message.now - l.at
