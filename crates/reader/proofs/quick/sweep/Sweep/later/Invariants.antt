-- `later` takes a GS or a US and the row behind it a turn. The loop's invariant: the bytes gone over are a segment's, and their rows are noted.
use Prim.Native.Nat.{◌-◌}
use mathlib.Core.Path.{◌≡◌}
use lib.ListN.{length, get_or}
use Rattle.sweeps.proofs.SegmentRows.{Rowing}
use Rattle.reader.proofs.quick.sweep.Sweep.later.Given as goal

abbrev pub invariant-loop-b : goal.invariant-loop-b
invariant-loop-b g l = (l.b ≡ get_or l.self.message.now l.end 0) × Rowing l.self.message.now l.self.wanted.from l.f l.start l.initial.notes.rows l.notes.numbers l.end l.notes.rows

abbrev pub decreases-loop-b : goal.decreases-loop-b
decreases-loop-b g l = length l.self.message.now - l.end
