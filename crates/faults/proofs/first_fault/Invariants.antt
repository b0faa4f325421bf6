-- `first_fault` finds the first faulty piece. The loop's invariant: what is found from here on is what is found from the start.
use mathlib.Core.Path.{◌≡◌}
use Prim.Native.Nat.{◌+◌, ◌-◌, ◌≤◌}
use lib.ListN.{length}
use Rattle.label.specs.Bytes.{GS}
use Rattle.label.specs.Pieces.{pieces}
use Rattle.label.specs.Faults.{first_fault}
use Rattle.bodies.proofs.PieceLaws.{pieces_from}
use Rattle.faults.specs.PieceFaults.{piece_fault}
use Rattle.faults.proofs.first_fault.Given as goal

abbrev pub invariant-loop-at : goal.invariant-loop-at
invariant-loop-at l = (l.at ≤ length l.s + 1) × (l.i ≤ l.at) × (first_fault (piece_fault l.k) l.i l.at (pieces_from GS l.s l.at) ≡ first_fault (piece_fault l.k) 0 0 (pieces GS l.s))

abbrev pub decreases-loop-at : goal.decreases-loop-at
decreases-loop-at l = length l.s + 1 - l.at
