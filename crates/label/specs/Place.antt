-- The column Place of 01, Numbers for the receiving desk, and the places of 02, No. 1: which reason and place are so for a message. What stands in front
-- of the place, that nothing good can stand at it, and what is wrong with a field or an element there (Lacking) is said from the writing side; of the
-- reading side comes in only what a faulty envelope itself is answered with.
use Rattle.std.specs.Prelude.{ℕ, ◌+◌, ◌≤◌, ◌<◌, ◌≡◌, Bool, true, false, not, ◌||◌, ◌⊎◌, List, [], ◌∷◌, ◌++◌, map, length, eqb}
use Rattle.label.specs.declared.Reason.{Reason}
use Rattle.label.specs.declared.Reason.TheVariants.{TooLong, NoMessageHeader, NoIndicator, NoTrailer, BytesAfterTrailer, UnknownFormat, NotFirst, BadFormatHeader, PayloadDoesNotFit, ByteNotPermitted, BodyBreaksRules, NoRecordSeparator, TooManyRows, NoRoom, BadFieldCount, FieldTooShort, FieldTooLong, BadFieldBytes}
use Rattle.label.specs.Bytes.{Bytes, EOT, RS, every, is_empty}
use Rattle.label.specs.Limits.{longest, most_rows}
use Rattle.label.specs.declared.Edition.{Edition}
use Rattle.label.specs.Layout.{marks, bytes_of, ended}
use Rattle.label.specs.Envelope.{Envelope, Within}
use Rattle.label.specs.Written.{parts}
use Rattle.label.specs.Lacking.{FaultIn}
use Rattle.label.specs.Message.{header, is_transport, is_rest, transport_only_first, rest_only_alone, message, rows_of, Each}
use Rattle.label.specs.ReadEnvelope.{refuse, read_envelope}
use Rattle.label.specs.ReadMessage.{agreement}

-- What stands in front

-- the bytes in front of an offset where an envelope could follow: the header, and envelopes with an RS each
abbrev pub in_front : List Envelope → Bytes
in_front before = bytes_of (marks header ++ ended RS (map parts before))

-- a message begins with envelopes within the rules and in permitted places: 01 only first, and no 02, which stands alone; then come other bytes
pub record Front (edition : Edition) (m : Bytes) (before : List Envelope) (rest : Bytes) : Type 0 where
  pub within : Each (Within edition) before
  pub only_first : transport_only_first before ≡ true
  pub no_rest : every (λ e. not (is_rest e)) before ≡ true
  pub bytes : m ≡ in_front before ++ rest

-- What can stand there

-- an envelope within the rules and in a permitted place can stand behind others: it and its RS begin the bytes that are left; or, first of all, an 02 is
-- all of them
pub data CanStand (edition : Edition) (before : List Envelope) (rest : Bytes) : Type 0 where
  with_its_rs : (e : Envelope) (left : Bytes) → Within edition e → is_rest e ≡ false → (is_empty before || not (is_transport e)) ≡ true
      → rest ≡ bytes_of (parts e) ++ (RS ∷ left) → CanStand edition before rest
  as_all_the_rest : (e : Envelope) → Within edition e → is_rest e ≡ true → is_empty before ≡ true → rest ≡ bytes_of (parts e) → CanStand edition before rest

-- a byte other than EOT stands there
abbrev pub goes_on : Bytes → Bool
goes_on [] = false
goes_on (b ∷ bs) = not (eqb b EOT)

-- Places

-- 3, 6 to 10 and 12, and 11 in 02, 03 and 04: the offset where an envelope is due, first of all or where the message goes on behind an envelope; none can
-- stand there, and what stands there is itself refused with that reason
pub record AtEnvelope (edition : Edition) (m : Bytes) (r : Reason) (p : ℕ) : Type 0 where
  pub short : length m ≤ longest
  pub before : List Envelope
  pub rest : Bytes
  pub front : Front edition m before rest
  pub due : (is_empty before || goes_on rest) ≡ true
  pub none_stands : CanStand edition before rest → ⊥
  pub answer : read_envelope edition (is_empty before) rest ≡ refuse r
  pub offset : p ≡ length (in_front before)

-- 30 to 33, and 11 in 05, 06 and 12: where an envelope is due none can stand, but one with a fault does, with its RS, in a permitted place; the place is
-- where its faulty field or element starts, and in front of that stand the envelopes before it and its own bytes
pub record AtPiece (edition : Edition) (m : Bytes) (r : Reason) (p : ℕ) : Type 0 where
  pub short : length m ≤ longest
  pub before : List Envelope
  pub envelope : Envelope
  pub left : Bytes
  pub front : Front edition m before (bytes_of (parts envelope) ++ (RS ∷ left))
  pub in_place : (is_empty before || not (is_transport envelope)) ≡ true
  pub none_stands : CanStand edition before (bytes_of (parts envelope) ++ (RS ∷ left)) → ⊥
  pub ahead : Bytes
  pub fault : FaultIn edition envelope r ahead
  pub behind : Bytes
  pub bytes : m ≡ (in_front before ++ ahead) ++ behind
  pub offset : p ≡ length (in_front before ++ ahead)

-- 4: the message ends behind an envelope's RS, and the place is its length
pub record AtEnd (edition : Edition) (m : Bytes) (p : ℕ) : Type 0 where
  pub short : length m ≤ longest
  pub before : List Envelope
  pub one_or_more : is_empty before ≡ false
  pub front : Front edition m before []
  pub offset : p ≡ length m

-- 5: behind an envelope's RS stands EOT and behind that a byte or more, and the place is that of the first of them
pub record BehindTrailer (edition : Edition) (m : Bytes) (p : ℕ) : Type 0 where
  pub short : length m ≤ longest
  pub before : List Envelope
  pub one_or_more : is_empty before ≡ false
  pub more : Bytes
  pub some_more : is_empty more ≡ false
  pub front : Front edition m before (EOT ∷ more)
  pub offset : p ≡ length (in_front before) + 1

-- all that makes a message good with a list (specs/Message, Good), but for the number of its rows
pub record GoodButForRows (edition : Edition) (m : Bytes) (es : List Envelope) : Type 0 where
  pub one_or_more : is_empty es ≡ false
  pub within : Each (Within edition) es
  pub only_first : transport_only_first es ≡ true
  pub only_alone : rest_only_alone es ≡ true
  pub not_too_long : length m ≤ longest
  pub writes_out : message es ≡ m

-- 13: a list that is good but for its rows, which are too many; the whole message is meant
pub record TooManyFor (edition : Edition) (m : Bytes) (p : ℕ) : Type 0 where
  pub envelopes : List Envelope
  pub good : GoodButForRows edition m envelopes
  pub too_many : most_rows < length (rows_of envelopes)
  pub offset : p ≡ 0

-- the place of each reason; 14 is no message's own, as it depends on the table
abbrev pub PlaceFor : Edition → Bytes → Reason → ℕ → Type 0
PlaceFor edition m TooLong p = (longest < length m) × (p ≡ longest)
PlaceFor edition m NoMessageHeader p = (length m ≤ longest) × (p < length header) × (p ≡ agreement header m)
PlaceFor edition m NoIndicator p = AtEnvelope edition m NoIndicator p
PlaceFor edition m NoTrailer p = AtEnd edition m p
PlaceFor edition m BytesAfterTrailer p = BehindTrailer edition m p
PlaceFor edition m UnknownFormat p = AtEnvelope edition m UnknownFormat p
PlaceFor edition m NotFirst p = AtEnvelope edition m NotFirst p
PlaceFor edition m BadFormatHeader p = AtEnvelope edition m BadFormatHeader p
PlaceFor edition m PayloadDoesNotFit p = AtEnvelope edition m PayloadDoesNotFit p
PlaceFor edition m ByteNotPermitted p = AtEnvelope edition m ByteNotPermitted p
PlaceFor edition m BodyBreaksRules p = AtEnvelope edition m BodyBreaksRules p ⊎ AtPiece edition m BodyBreaksRules p
PlaceFor edition m NoRecordSeparator p = AtEnvelope edition m NoRecordSeparator p
PlaceFor edition m TooManyRows p = TooManyFor edition m p
PlaceFor edition m NoRoom p = ⊥
PlaceFor edition m BadFieldCount p = AtPiece edition m BadFieldCount p
PlaceFor edition m FieldTooShort p = AtPiece edition m FieldTooShort p
PlaceFor edition m FieldTooLong p = AtPiece edition m FieldTooLong p
PlaceFor edition m BadFieldBytes p = AtPiece edition m BadFieldBytes p
