-- `run_end` stops at the first byte outside the class. The loop's invariant: from where it stands the run ends where it ends from the start, and the message goes on.
use Prim.Native.Nat.{◌+◌, ◌-◌, ◌<◌}
use mathlib.Core.Path.{◌≡◌}
use lib.ListN.{length, drop}
use Rattle.leaves.specs.Classes.{class_of}
use Rattle.walk.specs.Cursors.{run_of}
use Rattle.reader.proofs.quick.sweep.Sweep.run_end.Given as goal

abbrev pub invariant-loop-m : goal.invariant-loop-m
invariant-loop-m l = (l.i < length l.self.message.now) × (l.i + run_of (class_of l.k) (drop l.i l.self.message.now) ≡ l.at + run_of (class_of l.k) (drop l.at l.self.message.now))

abbrev pub decreases-loop-m : goal.decreases-loop-m
decreases-loop-m l = length l.self.message.now - l.i
