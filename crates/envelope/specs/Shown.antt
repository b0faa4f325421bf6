-- What is kept of an envelope that is read: where the next begins and how many rows it has, or why there is none.
use Rattle.std.specs.Prelude.{ℕ, ◌-◌, length}
use Rattle.label.specs.Bytes.{Bytes}
use Rattle.label.specs.Layout.{items_of}
use Rattle.label.specs.Envelope.{Envelope}
use Rattle.label.specs.Written.{parts}
use Rattle.label.specs.ReadEnvelope.{Step, closed, whole, refuse, refuse_at}
use Rattle.envelope.specs.Judged.{Judged, closed_at, whole_of, no_envelope, no_envelope_at}

-- how many rows an envelope has
abbrev pub row_count : Envelope → ℕ
row_count e = length (items_of (parts e))

-- what is kept of an envelope of a message
abbrev pub shown : Bytes → Step → Judged
shown m (closed e left) = closed_at (length m - length left) (row_count e)
shown m (whole e) = whole_of (row_count e)
shown m (refuse reason) = no_envelope reason
shown m (refuse_at reason from) = no_envelope_at reason (length m - length from)
