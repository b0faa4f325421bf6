-- What the first pass keeps of what is read: of an envelope its end and rows, or a refusal with its place; of a message its counts.
use Rattle.std.specs.Prelude.{Result, unwrap_or, ℕ, ◌+◌, cond, List, [], ◌∷◌, length, ltb, Err, Ok}
use Rattle.label.specs.declared.Reason.TheVariants.{TooManyRows}
use Rattle.label.specs.Limits.{most_rows}
use Rattle.label.specs.Envelope.{Envelope}
use Rattle.label.specs.Message.{rows_of}
use Rattle.label.specs.ReadMessage.{Outcome, read, refused}
use Rattle.label.specs.declared.Refusal.{Refusal}
use Rattle.envelope.specs.declared.Found.{Found}
use Rattle.envelope.specs.Judged.{Judged}
use Rattle.envelope.specs.Shown.{row_count}
use Rattle.label.specs.Answer.{Reading}

-- what is found where an envelope is due at an offset, with the place of each refusal
abbrev pub placed : ℕ → Judged → Result Found Refusal
placed at (Ok found) = Ok found
placed at (Err fault) = Err (record { reason = fault.reason; place = unwrap_or fault.place at })

-- how many rows envelopes have
abbrev pub total_rows : List Envelope → ℕ
total_rows [] = 0
total_rows (e ∷ es) = row_count e + total_rows es

-- what is kept of a message
abbrev pub judged_as : Outcome → Reading
judged_as (read es) = Ok (record { envelopes = length es; rows = length (rows_of es) })
judged_as (refused reason place) = Err (record { reason = reason; place = place })

-- what is kept of a message behind envelopes and rows that are counted already
abbrev pub tallied : ℕ → ℕ → Outcome → Reading
tallied envelopes rows (read es) = Ok (record { envelopes = envelopes + length es; rows = rows + total_rows es })
tallied envelopes rows (refused reason place) = Err (record { reason = reason; place = place })

-- only when all envelopes stand: 13
abbrev pub limited : Reading → Reading
limited (Ok counts) = cond (ltb most_rows counts.rows) (Err (record { reason = TooManyRows; place = 0 })) (Ok counts)
limited (Err r) = Err r
