-- What is found where an envelope is due, or why there is none, as the code has it.
use Rattle.std.specs.Prelude.{ℕ, Result, Ok, Err, Some, None}
use Rattle.label.specs.declared.Reason.{Reason}
use Rattle.envelope.specs.declared.Found.{Found}
use Rattle.envelope.specs.declared.Found.TheVariants.{Closed, Whole}
use Rattle.envelope.specs.declared.Fault.{Fault}

abbrev pub Judged : Type 0
Judged = Result Found Fault

-- an envelope with the offset behind its RS and its rows; one that takes all the rest
abbrev pub closed_at : ℕ → ℕ → Judged
closed_at next rows = Ok (Closed next rows)

abbrev pub whole_of : ℕ → Judged
whole_of rows = Ok (Whole rows)

-- refused where the envelope is due, and where a field or an element at fault starts
abbrev pub no_envelope : Reason → Judged
no_envelope reason = Err (record { reason = reason; place = None })

abbrev pub no_envelope_at : Reason → ℕ → Judged
no_envelope_at reason place = Err (record { reason = reason; place = Some place })
