-- Where a walk stops, the reason and the place are those that the paper's column says; and such a place lies in the message or at its end.
use Prim.Native.Nat.{ℕ, suc, ◌≤◌}
use mathlib.Core.Path.{◌≡◌, sym, ap, ◌∙◌, subst}
use mathlib.Core.Bool.{Bool, true, false, cond, true≢false}
use mathlib.Core.Logic.{inl, inr}
use mathlib.Core.List.{List, [], ◌∷◌, ◌++◌, append_assoc}
use native.Mathlib.Omega.{arith}
use lib.ListN.{length, length-append}
use lib.Dec.{eqb}
use Rattle.label.specs.declared.Reason.{Reason}
use Rattle.label.specs.declared.Reason.TheVariants.{TooLong, NoMessageHeader, NoIndicator, NoTrailer, BytesAfterTrailer, UnknownFormat, NotFirst, BadFormatHeader, PayloadDoesNotFit, ByteNotPermitted, BodyBreaksRules, NoRecordSeparator, TooManyRows, NoRoom, BadFieldCount, FieldTooShort, FieldTooLong, BadFieldBytes}
use Rattle.label.specs.Bytes.{Bytes, EOT, is_empty}
use Rattle.label.specs.Limits.{longest}
use Rattle.label.specs.declared.Version.{Version}
use Rattle.label.specs.declared.Edition.{Edition}
use Rattle.label.specs.Envelope.{Envelope, fields, whole_rest, segments, elements, text, counted}
use Rattle.label.specs.Message.{header}
use Rattle.label.specs.ReadEnvelope.{Step, closed, whole, refuse, refuse_at, read_envelope}
use Rattle.label.specs.ReadMessage.{place_of, agreement}
use Rattle.label.specs.Lacking.{FieldLacks, too_short, too_long, bad_bytes, FieldsLack, bad_count, empty_last, at_field, ElementsLack, at_element, FaultIn}
use Rattle.label.specs.Place.{in_front, Front, CanStand, with_its_rs, as_all_the_rest, AtEnvelope, AtPiece, PlaceFor}
use Rattle.label.proofs.EnvelopeSound.{BeforeRules, RefusedSo, before_rules, as_whole}
use Rattle.label.proofs.EnvelopeComplete.{step_pass, whole_pass}
use Rattle.label.proofs.MessageBytes.{front_bytes}
use Rattle.label.proofs.Placed.{only_first_lem, no_rest_lem}
use Rattle.label.proofs.WalkSound.{StopsAt, in_envelope, in_body, at_end, behind_end, Stopped}

-- the place of the last bytes is the length of what stands before them
pub place_of_rest : (m front rest : Bytes) → m ≡ front ++ rest → place_of m rest ≡ length front
place_of_rest m front rest is = omega (arith, ap length is, length-append front rest)

abbrev is_refusal : Step → Bool
is_refusal (closed e left) = false
is_refusal (whole e) = false
is_refusal (refuse r) = true
is_refusal (refuse_at r from) = true

-- where an envelope is refused none can stand: it would be read
none_can_stand : (edition : Edition) (before : List Envelope) (rest : Bytes) → is_refusal (read_envelope edition (is_empty before) rest) ≡ true → CanStand edition before rest → ⊥
none_can_stand edition before rest is (with_its_rs e left within not_rest in_place bytes) =
    true≢false (sym is ∙ ap (λ x. is_refusal (read_envelope edition (is_empty before) x)) bytes ∙ ap is_refusal (step_pass edition (is_empty before) e left within not_rest in_place))
none_can_stand edition before rest is (as_all_the_rest e within takes_rest first bytes) =
    true≢false (sym is ∙ (λ i. is_refusal (read_envelope edition (first i) (bytes i))) ∙ ap is_refusal (whole_pass edition e within takes_rest))

-- the place of a reason that stands before a body's rules
envelope_place : (edition : Edition) (m : Bytes) (r : Reason) (p : ℕ) → BeforeRules r → AtEnvelope edition m r p → PlaceFor edition m r p
envelope_place edition m TooLong p why at = absurd why
envelope_place edition m NoMessageHeader p why at = absurd why
envelope_place edition m NoIndicator p why at = at
envelope_place edition m NoTrailer p why at = absurd why
envelope_place edition m BytesAfterTrailer p why at = absurd why
envelope_place edition m UnknownFormat p why at = at
envelope_place edition m NotFirst p why at = at
envelope_place edition m BadFormatHeader p why at = at
envelope_place edition m PayloadDoesNotFit p why at = at
envelope_place edition m ByteNotPermitted p why at = at
envelope_place edition m BodyBreaksRules p why at = absurd why
envelope_place edition m NoRecordSeparator p why at = at
envelope_place edition m TooManyRows p why at = absurd why
envelope_place edition m NoRoom p why at = absurd why
envelope_place edition m BadFieldCount p why at = absurd why
envelope_place edition m FieldTooShort p why at = absurd why
envelope_place edition m FieldTooLong p why at = absurd why
envelope_place edition m BadFieldBytes p why at = absurd why

-- the reasons that a field or an element is refused for: 11 and 30 to 33
abbrev OfPiece : Reason → Type 0
OfPiece TooLong = ⊥
OfPiece NoMessageHeader = ⊥
OfPiece NoIndicator = ⊥
OfPiece NoTrailer = ⊥
OfPiece BytesAfterTrailer = ⊥
OfPiece UnknownFormat = ⊥
OfPiece NotFirst = ⊥
OfPiece BadFormatHeader = ⊥
OfPiece PayloadDoesNotFit = ⊥
OfPiece ByteNotPermitted = ⊥
OfPiece BodyBreaksRules = Unit {0}
OfPiece NoRecordSeparator = ⊥
OfPiece TooManyRows = ⊥
OfPiece NoRoom = ⊥
OfPiece BadFieldCount = Unit {0}
OfPiece FieldTooShort = Unit {0}
OfPiece FieldTooLong = Unit {0}
OfPiece BadFieldBytes = Unit {0}

field_reason_lem : (v : Version) (i : ℕ) (f : Bytes) (r : Reason) → FieldLacks v i f r → OfPiece r
field_reason_lem v i f r (too_short why short) = subst OfPiece (sym why) tt
field_reason_lem v i f r (too_long why long) = subst OfPiece (sym why) tt
field_reason_lem v i f r (bad_bytes why fits wrong) = subst OfPiece (sym why) tt

fields_reason : (v : Version) (fs front : List Bytes) (r : Reason) → FieldsLack v fs front r → OfPiece r
fields_reason v fs front r (bad_count why fits none) = subst OfPiece (sym why) tt
fields_reason v fs front r (empty_last why fits list past) = subst OfPiece (sym why) tt
fields_reason v fs front r (at_field fits full faultless f more list stands lacks) = field_reason_lem v (length front) f r lacks

fault_reason : (edition : Edition) (e : Envelope) (r : Reason) (ahead : Bytes) → FaultIn edition e r ahead → OfPiece r
fault_reason edition (fields f v fs) r ahead w = fields_reason v fs w.front r w.fault
fault_reason edition (whole_rest f body) r ahead w = absurd w
fault_reason edition (segments f header ss) r ahead w = absurd w
fault_reason edition (elements f es) r ahead w = by w.fault
  where
    by : ElementsLack w.is_element es w.front r → OfPiece r
    by (at_element why faultless e more list faulty) = subst OfPiece (sym why) tt
fault_reason edition (text f body) r ahead w = absurd w
fault_reason edition (counted f vs n payload) r ahead w = absurd w

piece_place : (edition : Edition) (m : Bytes) (r : Reason) (p : ℕ) → AtPiece edition m r p → PlaceFor edition m r p
piece_place edition m r p at = by r (fault_reason edition at.envelope r at.ahead at.fault) at
  where
    by : (r : Reason) → OfPiece r → AtPiece edition m r p → PlaceFor edition m r p
    by TooLong why at = absurd why
    by NoMessageHeader why at = absurd why
    by NoIndicator why at = absurd why
    by NoTrailer why at = absurd why
    by BytesAfterTrailer why at = absurd why
    by UnknownFormat why at = absurd why
    by NotFirst why at = absurd why
    by BadFormatHeader why at = absurd why
    by PayloadDoesNotFit why at = absurd why
    by ByteNotPermitted why at = absurd why
    by BodyBreaksRules why at = inr at
    by NoRecordSeparator why at = absurd why
    by TooManyRows why at = absurd why
    by NoRoom why at = absurd why
    by BadFieldCount why at = at
    by FieldTooShort why at = at
    by FieldTooLong why at = at
    by BadFieldBytes why at = at

module _ (edition : Edition) (m : Bytes) (bs : Bytes) (short : length m ≤ longest) (begun : m ≡ header ++ bs) where
  -- the claim for a reason, from the claim for the reason that it is
  for_reason : (r r' : Reason) (p : ℕ) → r ≡ r' → PlaceFor edition m r' p → PlaceFor edition m r p
  for_reason r r' p same h = subst (λ (x : Reason). PlaceFor edition m x p) (sym same) h

  by_stop : (before : List Envelope) (rest : Bytes) (r : Reason) (p : ℕ) → Front edition m before rest → StopsAt edition m true before rest r p → PlaceFor edition m r p
  by_stop before rest r p front (in_envelope why due is place) = by why record {
    short = short;
    before = before;
    rest = rest;
    front = front;
    due = due;
    none_stands = none_can_stand edition before rest (ap is_refusal is);
    answer = is;
    offset = place ∙ place_of_rest m (in_front before) rest front.bytes;
  }
    where
      by : RefusedSo edition rest r → AtEnvelope edition m r p → PlaceFor edition m r p
      by (before_rules why) at = envelope_place edition m r p why at
      by (as_whole why f after bytes judged) at = for_reason r BodyBreaksRules p why (inl (subst (λ (x : Reason). AtEnvelope edition m x p) why at))
  by_stop before rest r p front (in_body from so is place) =
      let bytes : m ≡ (in_front before ++ so.ahead) ++ from = front.bytes ∙ ap (λ x. in_front before ++ x) so.bytes ∙ sym (append_assoc (in_front before) so.ahead from) in
      piece_place edition m r p record {
        short = short;
        before = before;
        envelope = so.envelope;
        left = so.left;
        front = subst (Front edition m before) so.stands front;
        in_place = so.in_place;
        none_stands = subst (λ (x : Bytes). CanStand edition before x → ⊥) so.stands (none_can_stand edition before rest (ap is_refusal is));
        ahead = so.ahead;
        fault = so.fault;
        behind = from;
        bytes = bytes;
        offset = place ∙ place_of_rest m (in_front before ++ so.ahead) from bytes;
      }
  by_stop before rest r p front (at_end some none_left why place) =
      for_reason r NoTrailer p why
      record { short = short; before = before; one_or_more = some; front = subst (Front edition m before) none_left front; offset = place }
  by_stop before rest r p front (behind_end more some trailer more_left why place) =
      let there = subst (Front edition m before) trailer front in
      for_reason r BytesAfterTrailer p why record {
        short = short;
        before = before;
        one_or_more = some;
        more = more;
        some_more = more_left;
        front = there;
        offset = place ∙ omega (arith, ap length there.bytes, length-append (in_front before) (EOT ∷ more));
      }

  pub stop_place : (r : Reason) (p : ℕ) → Stopped edition m true bs r p → PlaceFor edition m r p
  stop_place r p stopped =
      by_stop stopped.before stopped.rest r p record {
        within = stopped.within;
        only_first = only_first_lem stopped.before stopped.in_place;
        no_rest = no_rest_lem true stopped.before stopped.in_place;
        bytes = begun ∙ ap (λ x. header ++ x) stopped.bytes ∙ sym (front_bytes stopped.before stopped.rest);
      } stopped.stops

-- A place lies in the message or at its end

pub agreement_inside : (h m : Bytes) → agreement h m ≤ length m
agreement_inside [] m = omega arith
agreement_inside (h ∷ hs) [] = omega arith
agreement_inside (h ∷ hs) (b ∷ bs) = by (eqb b h) (agreement_inside hs bs)
  where
    by : (t : Bool) → agreement hs bs ≤ length bs → cond t (suc (agreement hs bs)) 0 ≤ suc (length bs)
    by true inside = omega arith
    by false inside = omega arith

envelope_inside : (edition : Edition) (m : Bytes) (r : Reason) (p : ℕ) → AtEnvelope edition m r p → p ≤ length m
envelope_inside edition m r p at = omega (arith, ap length at.front.bytes, length-append (in_front at.before) at.rest, at.offset)

piece_inside : (edition : Edition) (m : Bytes) (r : Reason) (p : ℕ) → AtPiece edition m r p → p ≤ length m
piece_inside edition m r p at = omega (arith, ap length at.bytes, length-append (in_front at.before ++ at.ahead) at.behind, at.offset)

pub place_inside : (edition : Edition) (m : Bytes) (r : Reason) (p : ℕ) → PlaceFor edition m r p → p ≤ length m
place_inside edition m TooLong p h = omega (arith, h.0, h.1)
place_inside edition m NoMessageHeader p h = omega (arith, h.2, agreement_inside header m)
place_inside edition m NoIndicator p h = envelope_inside edition m _ p h
place_inside edition m NoTrailer p h = omega arith
place_inside edition m BytesAfterTrailer p h = omega (arith, ap length h.front.bytes, length-append (in_front h.before) (EOT ∷ h.more), h.offset)
place_inside edition m UnknownFormat p h = envelope_inside edition m _ p h
place_inside edition m NotFirst p h = envelope_inside edition m _ p h
place_inside edition m BadFormatHeader p h = envelope_inside edition m _ p h
place_inside edition m PayloadDoesNotFit p h = envelope_inside edition m _ p h
place_inside edition m ByteNotPermitted p h = envelope_inside edition m _ p h
place_inside edition m BodyBreaksRules p (inl h) = envelope_inside edition m _ p h
place_inside edition m BodyBreaksRules p (inr h) = piece_inside edition m _ p h
place_inside edition m NoRecordSeparator p h = envelope_inside edition m _ p h
place_inside edition m TooManyRows p h = omega arith
place_inside edition m NoRoom p h = absurd h
place_inside edition m BadFieldCount p h = piece_inside edition m _ p h
place_inside edition m FieldTooShort p h = piece_inside edition m _ p h
place_inside edition m FieldTooLong p h = piece_inside edition m _ p h
place_inside edition m BadFieldBytes p h = piece_inside edition m _ p h
