-- `body` takes a segment a turn. The loop's invariant: what is found of the body from here on is what is found from its start on, and its rows are noted.
use Prim.Native.Nat.{◌-◌}
use lib.ListN.{length}
use Rattle.sweeps.proofs.SegmentTurns.{Segmenting}
use Rattle.reader.proofs.quick.sweep.Sweep.body.Given as goal

abbrev pub invariant-loop-at : goal.invariant-loop-at
invariant-loop-at g l = Segmenting l.self.message.now l.self.wanted.from l.f l.start l.initial.notes.rows l.notes.numbers l.at l.notes.rows

abbrev pub decreases-loop-at : goal.decreases-loop-at
decreases-loop-at g l = length l.self.message.now - l.at
