-- What is found of a body that runs to the first RS, by where that RS is: 12, then 10, then the fault of a body that breaks its rules (01, Numbers for the
-- receiving desk; 02, No. 1).
use Rattle.std.specs.Prelude.{ℕ, ◌+◌, cond, length, take, drop, ltb, None, Some, Option}
use Rattle.label.specs.declared.Reason.TheVariants.{ByteNotPermitted, BodyBreaksRules, NoRecordSeparator}
use Rattle.label.specs.Bytes.{Bytes, RS, every}
use Rattle.leaves.specs.Seek.{seek}
use Rattle.pieces.specs.declared.Kind.{Kind}
use Rattle.bodies.specs.Kinds.{permitted_of, rules_of, rows_of_body}
use Rattle.faults.specs.PieceFaults.{fault_of}
use Rattle.envelope.specs.Judged.{Judged, closed_at, no_envelope, no_envelope_at}
use Rattle.label.specs.declared.Refusal.{Refusal}

-- a body that breaks its rules, which begins at an offset, by its fault
abbrev pub fault_found : ℕ → Option Refusal → Judged
fault_found at (Some fault) = no_envelope_at fault.reason (at + fault.place)
fault_found at None = no_envelope BodyBreaksRules

-- given how long the body is, if an RS ends it, in bytes that begin at an offset
abbrev pub body_found_by : Kind → ℕ → ℕ → Bytes → ℕ → Judged
body_found_by k before at bs n =
    cond (ltb n (length bs))
    (cond (every (permitted_of k) (take n bs))
    (cond (rules_of k (take n bs)) (closed_at (at + n + 1) (before + rows_of_body k (take n bs)))
    (fault_found at (fault_of k (take n bs))))
    (no_envelope ByteNotPermitted))
    (no_envelope NoRecordSeparator)

unfoldable pub body_found : Kind → ℕ → Bytes → ℕ → Judged
body_found k before m at = body_found_by k before at (drop at m) (seek RS (drop at m))
