-- What is found of a body that keeps its rules; that a fault lies in its body; and how many rows a body has at most.
use Prim.Native.Nat.{ℕ, ◌+◌, ◌-◌, ◌≤◌, ◌<◌}
use mathlib.Core.Path.{◌≡◌, sym}
use mathlib.Core.Bool.{true}
use native.Mathlib.Omega.{arith}
use lib.ListN.{length, take, drop, length-take, length-drop}
use Rattle.std.specs.Prelude.{Some}
use Rattle.std.proofs.lemmas.Grind.{common_steps}
use Rattle.faults.proofs.FaultLaws.{fault_inside}
use Rattle.label.specs.declared.Refusal.{Refusal}
use Rattle.label.specs.Bytes.{Bytes, GS, RS, every}
use Rattle.leaves.specs.Seek.{seek}
use Rattle.pieces.specs.declared.Kind.{Kind}
use Rattle.pieces.specs.declared.Kind.TheVariants.{Fields, Segments03, Segments04, Elements05, Elements06, Text, Elements12}
use Rattle.bodies.specs.Kinds.{permitted_of, rules_of, rows_of_body}
use Rattle.leaves.proofs.Turns.{tally_inside}
use Rattle.bodies.proofs.RuleLaws.{rows_inside}
use Rattle.faults.specs.PieceFaults.{fault_of}
use Rattle.envelope.specs.Judged.{closed_at}
use Rattle.envelope.specs.Bodies.{body_found}

-- a body with an RS behind it that keeps its rules
pub body_closed : (k : Kind) (before : ℕ) (m : Bytes) (at end : ℕ) → at ≤ length m → end ≡ at + seek RS (drop at m) → end < length m → every (permitted_of k) (take (end - at) (drop at m)) ≡ true
    → rules_of k (take (end - at) (drop at m)) ≡ true → closed_at (end + 1) (before + rows_of_body k (take (end - at) (drop at m))) ≡ body_found k before m at
unfolding body_found
body_closed k before m at end inside is some permitted kept = grind (arith, common_steps)

-- where a body is at fault lies in it
pub fault_fits : (k : Kind) (body : Bytes) (fault : Refusal) → Some fault ≡ fault_of k body → fault.place ≤ length body
fault_fits k body fault found = fault_inside k body fault.reason fault.place (sym found)

-- a body has at most one row more than bytes
rows_few : (k : Kind) (body : Bytes) → rows_of_body k body ≤ length body + 1
rows_few (Fields v) body = omega (arith, tally_inside GS body)
rows_few Segments03 body = omega (arith, rows_inside body)
rows_few Segments04 body = omega (arith, rows_inside body)
rows_few Elements05 body = omega (arith, tally_inside GS body)
rows_few Elements12 body = omega (arith, tally_inside GS body)
rows_few Elements06 body = omega (arith, tally_inside GS body)
rows_few Text body = omega arith

pub rows_of_part : (k : Kind) (m : Bytes) (at n : ℕ) → rows_of_body k (take n (drop at m)) ≤ length m + 1
rows_of_part k m at n = omega (arith, rows_few k (take n (drop at m)), length-take n (drop at m), length-drop at m)
