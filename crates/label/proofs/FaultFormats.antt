-- Which formats 11 and 30 to 33 are of: 11 is never format 01's, at the indicator it is 02's, 03's and 04's alone, and 30 to 33 are no other's than 01's
-- (02, No. 1).
use Prim.Native.Nat.{ℕ, ◌+◌, ◌/◌, ◌%◌}
use mathlib.Core.Path.{◌≡◌, refl, sym, ap, ◌∙◌, subst}
use mathlib.Core.Bool.{true, true≢false}
use mathlib.Core.Logic.{◌⊎◌, inl, inr}
use mathlib.Core.List.{List, ◌∷◌, ◌++◌}
use native.Mathlib.Omega.{arith}
use native.Mathlib.Nat.{div-add-mod'}
use lib.ListN.{get_or}
use Rattle.label.specs.declared.Reason.{Reason}
use Rattle.label.specs.declared.Reason.TheVariants.{BodyBreaksRules}
use Rattle.label.specs.Bytes.{Bytes, RS, is_empty}
use Rattle.label.specs.declared.Version.{Version}
use Rattle.label.specs.declared.Edition.{Edition}
use Rattle.label.specs.Formats.{rule_of, as_fields}
use Rattle.label.specs.Layout.{bytes_of}
use Rattle.label.specs.Envelope.{Envelope, fields, whole_rest, segments, elements, text, counted}
use Rattle.label.specs.Written.{two_digits, parts}
use Rattle.label.specs.Message.{is_transport}
use Rattle.label.specs.Lacking.{FieldLacks, too_short, too_long, bad_bytes, FieldsLack, bad_count, empty_last, at_field, ElementsLack, at_element, FaultIn}
use Rattle.label.specs.Place.{AtEnvelope, PlaceFor}
use Rattle.label.specs.Promised.{judged_whole, refused_from}
use Rattle.label.proofs.Laid.{bytes_envelope}
use Rattle.label.proofs.EnvelopeSound.{RefusedSo, before_rules, as_whole, StepSo, step_so}

-- a format is told by its two digits
same_format : (f g : ℕ) (bs cs : Bytes) → two_digits f ++ bs ≡ two_digits g ++ cs → f ≡ g
same_format f g bs cs same =
    let tens : 0x30 + f / 10 ≡ 0x30 + g / 10 = ap (λ x. get_or x 0 0) same in
    let ones : 0x30 + f % 10 ≡ 0x30 + g % 10 = ap (λ x. get_or x 1 0) same in
    omega (arith, div-add-mod' f 10, div-add-mod' g 10)

-- the fault of a field is another than 11
field_not_11 : (v : Version) (i : ℕ) (f : Bytes) (r : Reason) → FieldLacks v i f r → r ≡ BodyBreaksRules → ⊥
field_not_11 v i f r (too_short why short) is = let z : ◌≡◌ {A = ℕ} 0 1 = cc in omega arith
field_not_11 v i f r (too_long why long) is = let z : ◌≡◌ {A = ℕ} 0 1 = cc in omega arith
field_not_11 v i f r (bad_bytes why fits wrong) is = let z : ◌≡◌ {A = ℕ} 0 1 = cc in omega arith

fields_not_11 : (v : Version) (fs front : List Bytes) (r : Reason) → FieldsLack v fs front r → r ≡ BodyBreaksRules → ⊥
fields_not_11 v fs front r (bad_count why fits none) is = let z : ◌≡◌ {A = ℕ} 0 1 = cc in omega arith
fields_not_11 v fs front r (empty_last why fits list past) is = let z : ◌≡◌ {A = ℕ} 0 1 = cc in omega arith
fields_not_11 v fs front r (at_field fits full faultless f more list stands lacks) is = field_not_11 v _ f r lacks is

module _ (edition : Edition) where
  pub transport_or_11 : (e : Envelope) (r : Reason) (ahead : Bytes) → FaultIn edition e r ahead → (is_transport e ≡ true) ⊎ (r ≡ BodyBreaksRules)
  transport_or_11 (fields f v fs) r ahead w = inl refl
  transport_or_11 (whole_rest f body) r ahead w = absurd w
  transport_or_11 (segments f header ss) r ahead w = absurd w
  transport_or_11 (elements f es) r ahead w = by w.fault
    where
      by : ElementsLack w.is_element es w.front r → (is_transport (elements f es) ≡ true) ⊎ (r ≡ BodyBreaksRules)
      by (at_element why faultless e more list faulty) = inr why
  transport_or_11 (text f body) r ahead w = absurd w
  transport_or_11 (counted f vs n payload) r ahead w = absurd w

  -- the format of an envelope with an 11 in it isn't 01
  piece_not_01 : (e : Envelope) (ahead left : Bytes) → FaultIn edition e BodyBreaksRules ahead → (f : ℕ) (after : Bytes) → bytes_of (parts e) ++ (RS ∷ left) ≡ two_digits f ++ after → rule_of edition f ≡ as_fields → ⊥
  piece_not_01 (fields g v fs) ahead left w f after bytes known = fields_not_11 v fs w.front BodyBreaksRules w.fault refl
  piece_not_01 (whole_rest g body) ahead left w f after bytes known = w
  piece_not_01 (segments g header ss) ahead left w f after bytes known = w
  piece_not_01 (elements g es) ahead left w f after bytes known =
      let same = same_format g f _ after (sym (ap (λ x. x ++ (RS ∷ left)) (bytes_envelope (elements g es))) ∙ bytes) in
      let z : ◌≡◌ {A = ℕ} 0 1 = cc (ap (rule_of edition) same, w.known, known) in
      omega arith
  piece_not_01 (text g body) ahead left w f after bytes known = w
  piece_not_01 (counted g vs n payload) ahead left w f after bytes known = w

  -- 11 at the indicator is a format's that is judged as a whole
  whole_so : (rest : Bytes) → RefusedSo edition rest BodyBreaksRules → (f : ℕ) (after : Bytes) → rest ≡ two_digits f ++ after → judged_whole (rule_of edition f) ≡ true
  whole_so rest (before_rules why) f after bytes = absurd why
  whole_so rest (as_whole why g behind stands judged) f after bytes = sym (ap (λ x. judged_whole (rule_of edition x)) (same_format g f behind after (sym stands ∙ bytes))) ∙ judged

  pub eleven_of_whole : (m : Bytes) (p : ℕ) (at : AtEnvelope edition m BodyBreaksRules p) (f : ℕ) (after : Bytes) → at.rest ≡ two_digits f ++ after → judged_whole (rule_of edition f) ≡ true
  eleven_of_whole m p at f after bytes =
      whole_so at.rest (subst (StepSo edition (is_empty at.before) at.rest) at.answer (step_so edition (is_empty at.before) at.rest)) f after bytes

  pub eleven_not_01 : (m : Bytes) (p : ℕ) (so : PlaceFor edition m BodyBreaksRules p) (f : ℕ) (after : Bytes) → refused_from edition m p so ≡ two_digits f ++ after → rule_of edition f ≡ as_fields → ⊥
  eleven_not_01 m p (inl at) f after bytes known = true≢false (sym (eleven_of_whole m p at f after bytes) ∙ ap judged_whole known)
  eleven_not_01 m p (inr at) f after bytes known = piece_not_01 at.envelope at.ahead at.left at.fault f after bytes known
