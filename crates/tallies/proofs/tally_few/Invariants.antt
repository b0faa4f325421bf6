-- `tally_few` counts. The loop's invariant: what was counted is the tally of the bytes so far.
use Rattle.std.proofs.Common.{◌≡◌, ◌≤◌, take}
use Rattle.leaves.specs.Seek.{tally_of}
use Rattle.tallies.proofs.tally_few.Given as goal

abbrev pub invariant-loop-b : goal.invariant-loop-b
invariant-loop-b l = (l.n ≤ l.b-index) × (l.n ≡ tally_of l.c (take l.b-index l.s))
