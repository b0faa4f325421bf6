-- What is found of each format behind its indicator, by offsets: the header, then the body (01, Envelope rules). That this is what reading the format
-- shows is proved (proofs/FormatLaws).
use Rattle.std.specs.Prelude.{ℕ, ◌+◌, ◌-◌, Bool, not, ◌&&◌, cond, [], ◌∷◌, length, get_or, take, drop, ltb, eqb}
use Rattle.label.specs.declared.Reason.TheVariants.{BadFormatHeader, PayloadDoesNotFit, ByteNotPermitted, BodyBreaksRules}
use Rattle.label.specs.declared.Version.TheVariants.{Version02, Version96}
use Rattle.label.specs.Bytes.{Bytes, ascii, FS, GS, RS, US, plain, digit, capital_or_digit, every}
use Rattle.label.specs.Formats.{rest_byte}
use Rattle.label.specs.Values.{release_length, value, type_length, compression_length, count_length}
use Rattle.label.specs.ReadMessage.{agreement}
use Rattle.pieces.specs.declared.Kind.{Kind}
use Rattle.pieces.specs.declared.Kind.TheVariants.{Fields}
use Rattle.envelope.specs.Judged.{Judged, closed_at, whole_of, no_envelope}
use Rattle.envelope.specs.Bodies.{body_found}
use Rattle.envelope.specs.Headers.{value_end}

-- the bytes from an offset on begin with a text
abbrev pub begins_at : Bytes → Bytes → ℕ → Bool
begins_at text m at = eqb (agreement text (drop at m)) (length text)

-- 01: GS and the version
abbrev pub transport_found : Bytes → ℕ → Judged
transport_found m at =
    cond (begins_at (GS ∷ ascii "02") m at) (body_found (Fields Version02) 2 m (at + 3))
    (cond (begins_at (GS ∷ ascii "96") m at) (body_found (Fields Version96) 2 m (at + 3))
    (no_envelope BadFormatHeader))

-- 02: all the rest
abbrev pub rest_found : Bytes → ℕ → Judged
rest_found m at =
    cond (ltb at (length m)) (cond (every rest_byte (drop at m)) (whole_of 2) (no_envelope ByteNotPermitted))
    (no_envelope BodyBreaksRules)

-- 03, 04: six bytes, FS GS US
abbrev pub segments_found : Kind → Bytes → ℕ → Judged
segments_found k m at =
    cond (not (ltb (length m) (at + release_length)) && every capital_or_digit (take release_length (drop at m)) && begins_at (FS ∷ GS ∷ US ∷ []) m (at + release_length))
    (body_found k 2 m (at + release_length + 3))
    (no_envelope BadFormatHeader)

-- 05, 06, 12: GS
abbrev pub elements_found : Kind → Bytes → ℕ → Judged
elements_found k m at = cond (begins_at (GS ∷ []) m at) (body_found k 1 m (at + 1)) (no_envelope BadFormatHeader)

-- 09, 15: the payload and its RS, given how many rows the envelope has
abbrev pub payload_found : ℕ → ℕ → Bytes → ℕ → Judged
payload_found rows n m at = cond (ltb n (length (drop at m)) && eqb (get_or (drop at m) n 0) RS) (closed_at (at + n + 1) rows) (no_envelope PayloadDoesNotFit)

-- 09, 15: a header value that ends before the message does, and then what follows its GS
abbrev pub after_value : Bytes → ℕ → (ℕ → Judged) → Judged
after_value m end next = cond (ltb end (length m)) (next (end + 1)) (no_envelope BadFormatHeader)

-- 09, 15: the count and what follows
abbrev pub count_found : ℕ → Bytes → ℕ → Judged
count_found rows m at = after_value m (value_end count_length.0 count_length.1 digit m at) (payload_found rows (value (take (value_end count_length.0 count_length.1 digit m at - at) (drop at m))) m)

-- 15: the indicator, the count and the payload are rows
abbrev pub count_only_found : Bytes → ℕ → Judged
count_only_found m at = count_found 3 m at

-- 09: so are type and compression, each and what follows
abbrev pub compression_found : Bytes → ℕ → Judged
compression_found m at = after_value m (value_end compression_length.0 compression_length.1 plain m at) (count_found 5 m)

abbrev pub counted_found : Bytes → ℕ → Judged
counted_found m at = cond (begins_at (GS ∷ []) m at) (after_value m (value_end type_length.0 type_length.1 plain m (at + 1)) (compression_found m)) (no_envelope BadFormatHeader)
