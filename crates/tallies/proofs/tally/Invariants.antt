-- `tally` counts block by block. The loop's invariant: what was counted so far and the tally of the bytes to come are together the tally of all.
use Rattle.std.proofs.Common.{◌≡◌, ◌+◌, length}
use Rattle.leaves.specs.Seek.{tally_of}
use Rattle.tallies.proofs.tally.Given as goal

abbrev pub invariant-loop-block : goal.invariant-loop-block
invariant-loop-block l = l.n + tally_of l.c l.rest ≡ tally_of l.c l.s

abbrev pub decreases-loop-block : goal.decreases-loop-block
decreases-loop-block l = length l.rest
