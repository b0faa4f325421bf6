-- The loop's invariant: from where the walk stands the message comes to what it comes to from the start.
use mathlib.Core.Path.{◌≡◌}
use Prim.Native.Nat.{◌-◌}
use mathlib.Core.Bool.{true}
use lib.ListN.{length, drop}
use Rattle.label.specs.ReadMessage.{unbounded_walk}
use Rattle.judge.specs.Shown.{tallied}
use Rattle.judge.specs.Turns.{result_of, Sound}
use Rattle.judge.proofs.envelopes.walk_envelopes.Given as goal

abbrev pub invariant-loop-counts : goal.invariant-loop-counts
invariant-loop-counts l = Sound l.m l.s × (result_of l.edition l.m l.s ≡ tallied 0 0 (unbounded_walk l.edition l.m true (drop 4 l.m)))

abbrev pub decreases-loop-counts : goal.decreases-loop-counts
decreases-loop-counts l = length l.m - l.s.at
