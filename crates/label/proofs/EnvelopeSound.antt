-- What is read as an envelope is one: it is within its rules, and what was read is what it writes. What is refused in its body has that fault. The argument
-- follows the reading: each test that was passed is a fact about the bytes, and at the end the facts are the envelope's rules.
use Rattle.std.specs.Prelude.{None, Option, Some}
use Prim.Native.Nat.{ℕ, ◌+◌, ◌<◌}
use mathlib.Core.Path.{◌≡◌, refl, sym, ap, ◌∙◌, subst}
use mathlib.Core.Bool.{Bool, true, false, not, ◌&&◌, ◌||◌, cond, true≢false, false≢true, or-true}
use mathlib.Core.List.{List, [], ◌∷◌, ◌++◌, map, append_assoc}
use native.Mathlib.Omega.{arith}
use native.Mathlib.Numerals.{add-one}
use borrow.Author.Tests.{ltb-true, eqb-true, not-true}
use lib.ListN.{length, get_or, take, drop, take-append-drop}
use lib.Seq.{split_at, length-take-le, drop-append_seam}
use lib.Dec.{ltb, eqb}
use Rattle.std.proofs.lemmas.Bool.{and_parts, or_left}
use Rattle.std.specs.Cmp.Derive.{both_true}
use Rattle.label.specs.declared.Limit.{Limit}
use Rattle.label.specs.declared.Reason.{Reason}
use Rattle.label.specs.declared.Reason.TheVariants.{TooLong, NoMessageHeader, NoIndicator, NoTrailer, BytesAfterTrailer, UnknownFormat, NotFirst, BadFormatHeader, PayloadDoesNotFit, ByteNotPermitted, BodyBreaksRules, NoRecordSeparator, TooManyRows, NoRoom, BadFieldCount, FieldTooShort, FieldTooLong, BadFieldBytes}
use Rattle.label.specs.Bytes.{Bytes, FS, GS, RS, US, plain, digit, every, is_empty, same_bytes}
use Rattle.label.specs.Pieces.{pieces, last_is_empty, Cut, found, absent, cut}
use Rattle.label.specs.Values.{version_digits, release_length, release, header_value, header_values, count, value}
use Rattle.label.specs.declared.Version.{Version}
use Rattle.label.specs.declared.Version.TheVariants.{Version02, Version96}
use Rattle.label.specs.Segments.{tagged}
use Rattle.label.specs.Fields.{transport}
use Rattle.label.specs.Faults.{fields_fault_by, fields_fault, elements_fault, whole_fault}
use Rattle.label.specs.declared.Edition.{Edition}
use Rattle.label.specs.Formats.{Rule, rule_of, as_fields, as_rest, as_segments, as_elements, as_text, as_counted, unknown}
use Rattle.label.specs.Layout.{bytes_of}
use Rattle.label.specs.Envelope.{Envelope, fields, whole_rest, segments, elements, text, counted, Within}
use Rattle.label.specs.Written.{piece_row, two_digits, parts}
use Rattle.label.specs.Message.{is_transport, is_rest}
use Rattle.label.specs.ReadEnvelope.{Step, closed, whole, refuse, refuse_at, must, opened, valued_at, valued, broken, body_at, bodied, plain_or_gs, version_of, read_fields, read_transport, read_rest, segment_byte, segments_in, are_segments, read_segments, read_elements, read_text, read_payload, read_values, read_count, read_counted, read_by, read_envelope}
use Rattle.label.specs.Lacking.{ahead_of_field, ahead_of_element, FaultIn}
use Rattle.label.specs.Promised.{judged_whole}
use Rattle.label.proofs.Tests.{or_not, same_bytes_lem}
use Rattle.label.proofs.Splitting.{joined, terminated, joined_pieces, pieces_some, CutSo, cut_so, every_pieces}
use Rattle.label.proofs.Laid.{segment_bytes, value_bytes, content_bytes, format_of, bytes_each_ended, bytes_envelope}
use Rattle.label.proofs.Faults.{Ahead, elements_fault_so, elements_ahead, fields_fault_so, fields_ahead}
use Rattle.label.proofs.SegmentLaws.{segments_back, plain_segments}
use Rattle.label.proofs.Digits.{digits_two}
use Rattle.label.specs.declared.Refusal.{Refusal}

-- the reasons that an envelope is refused for before its body's rules are asked: 3, 6 to 10 and 12
abbrev pub BeforeRules : Reason → Type 0
BeforeRules TooLong = ⊥
BeforeRules NoMessageHeader = ⊥
BeforeRules NoIndicator = Unit {0}
BeforeRules NoTrailer = ⊥
BeforeRules BytesAfterTrailer = ⊥
BeforeRules UnknownFormat = Unit {0}
BeforeRules NotFirst = Unit {0}
BeforeRules BadFormatHeader = Unit {0}
BeforeRules PayloadDoesNotFit = Unit {0}
BeforeRules ByteNotPermitted = Unit {0}
BeforeRules BodyBreaksRules = ⊥
BeforeRules NoRecordSeparator = Unit {0}
BeforeRules TooManyRows = ⊥
BeforeRules NoRoom = ⊥
BeforeRules BadFieldCount = ⊥
BeforeRules FieldTooShort = ⊥
BeforeRules FieldTooLong = ⊥
BeforeRules BadFieldBytes = ⊥

-- Steps of a reading, for any claim that such a refusal meets

module _ (Claim : Step → Type 0) (refusal : (r : Reason) → BeforeRules r → Claim (refuse r)) where
  must_so : (t : Bool) (r : Reason) (s : Step) → Claim (refuse r) → (t ≡ true → Claim s) → Claim (must t r s)
  must_so true r s otherwise h = h refl
  must_so false r s otherwise h = otherwise

  opened_so : (hs bs : Bytes) (next : Bytes → Step) → ((rest : Bytes) → bs ≡ hs ++ rest → Claim (next rest)) → Claim (opened hs bs next)
  opened_so [] bs next h = h bs refl
  opened_so (x ∷ hs) [] next h = refusal _ tt
  opened_so (x ∷ hs) (b ∷ bs) next h =
      must_so (eqb b x) _ _ (refusal _ tt) (λ same. opened_so hs bs next (λ rest e. h rest (λ i. eqb-true b x same i ∷ e i)))

  cut_claim : (c : ℕ) (bs : Bytes) (step : Cut → Step) → Claim (step absent) → ((p rest : Bytes) → bs ≡ p ++ (c ∷ rest) → Claim (step (found p rest))) → Claim (step (cut c bs))
  cut_claim c bs step None-found h = by (cut c bs) (cut_so c bs)
    where
      by : (k : Cut) → CutSo c bs k → Claim (step k)
      by (found p rest) so = h p rest so.bytes
      by absent so = None-found

  valued_so : (test : Bytes → Bool) (bs : Bytes) (next : Bytes → Bytes → Step) → ((v rest : Bytes) → bs ≡ v ++ (GS ∷ rest) → test v ≡ true → Claim (next v rest)) → Claim (valued test bs next)
  valued_so test bs next h = cut_claim GS bs (valued_at test next) (refusal _ tt) (λ v rest e. must_so (test v) _ _ (refusal _ tt) (h v rest e))

  values_so : (limits : List Limit) (bs : Bytes) (next : List Bytes → Bytes → Step)
      → ((vs : List Bytes) (rest : Bytes) → bs ≡ terminated GS vs ++ rest → header_values limits vs ≡ true → Claim (next vs rest)) → Claim (read_values limits bs next)
  values_so [] bs next h = h [] bs refl refl
  values_so (l ∷ ls) bs next h =
      valued_so (header_value l) bs _ λ v rest e is_value.
      values_so ls rest (λ vs. next (v ∷ vs)) λ vs left e' are.
      h (v ∷ vs) left (e ∙ ap (λ x. v ++ (GS ∷ x)) e' ∙ sym (append_assoc v (GS ∷ terminated GS vs) left)) (both_true is_value are)

  bodied_so : (permitted : ℕ → Bool) (rules : Bytes → Bool) (fault : Bytes → Option Refusal) (made : Bytes → Envelope) (bs : Bytes)
      → ((body left : Bytes) → bs ≡ body ++ (RS ∷ left) → every permitted body ≡ true → rules body ≡ false → Claim (broken bs (fault body)))
      → ((body left : Bytes) → bs ≡ body ++ (RS ∷ left) → every permitted body ≡ true → rules body ≡ true → Claim (closed (made body) left))
      → Claim (bodied permitted rules fault made bs)
  unfolding bodied
  bodied_so permitted rules fault made bs otherwise h =
      cut_claim RS bs (body_at permitted rules (λ body. broken bs (fault body)) made) (refusal _ tt)
      (λ body left e. must_so (every permitted body) _ _ (refusal _ tt) (λ p. by body left (rules body) refl (otherwise body left e p) (h body left e p)))
    where
      by : (body left : Bytes) (t : Bool) → rules body ≡ t → (rules body ≡ false → Claim (broken bs (fault body))) → (rules body ≡ true → Claim (closed (made body) left))
          → Claim (cond t (closed (made body) left) (broken bs (fault body)))
      by body left true is otherwise h = h is
      by body left false is otherwise h = otherwise is

-- What a step says of the bytes at which an envelope is due

pub record ClosedSo (edition : Edition) (first : Bool) (bs : Bytes) (e : Envelope) (left : Bytes) : Type 0 where
  pub within : Within edition e
  pub not_rest : is_rest e ≡ false
  pub in_place : (first || not (is_transport e)) ≡ true
  pub bytes : bs ≡ bytes_of (parts e) ++ (RS ∷ left)

pub record WholeSo (edition : Edition) (first : Bool) (bs : Bytes) (e : Envelope) : Type 0 where
  pub within : Within edition e
  pub takes_rest : is_rest e ≡ true
  pub is_first : first ≡ true
  pub bytes : bs ≡ bytes_of (parts e)

-- refused at the indicator: for a reason that stands before the rules, or since the body as a whole breaks those of its format
pub data RefusedSo (edition : Edition) (bs : Bytes) (r : Reason) : Type 0 where
  before_rules : BeforeRules r → RefusedSo edition bs r
  as_whole : r ≡ BodyBreaksRules → (f : ℕ) (after : Bytes) → bs ≡ two_digits f ++ after → judged_whole (rule_of edition f) ≡ true → RefusedSo edition bs r

-- refused in the body: an envelope with that fault stands there, and the place is behind its bytes in front of the fault
pub record FaultSo (edition : Edition) (first : Bool) (bs : Bytes) (r : Reason) (from : Bytes) : Type 0 where
  pub envelope : Envelope
  pub left : Bytes
  pub stands : bs ≡ bytes_of (parts envelope) ++ (RS ∷ left)
  pub in_place : (first || not (is_transport envelope)) ≡ true
  pub ahead : Bytes
  pub fault : FaultIn edition envelope r ahead
  pub bytes : bs ≡ ahead ++ from

abbrev pub StepSo : Edition → Bool → Bytes → Step → Type 0
StepSo edition first bs (closed e left) = ClosedSo edition first bs e left
StepSo edition first bs (whole e) = WholeSo edition first bs e
StepSo edition first bs (refuse r) = RefusedSo edition bs r
StepSo edition first bs (refuse_at r from) = FaultSo edition first bs r from

-- behind its indicator an envelope is its header and body
bytes_closed : (e : Envelope) (bs left : Bytes) → bs ≡ content_bytes e ++ (RS ∷ left) → two_digits (format_of e) ++ bs ≡ bytes_of (parts e) ++ (RS ∷ left)
bytes_closed e bs left h = ap (λ r. two_digits (format_of e) ++ r) h ∙ sym (ap (λ r. r ++ (RS ∷ left)) (bytes_envelope e))

pub version_so : (bs : Bytes) (v : Version) → version_of bs ≡ Some v → bs ≡ version_digits v
unfolding version_of
version_so bs v h = by_tests (same_bytes bs (version_digits Version02)) (same_bytes bs (version_digits Version96)) refl refl h
  where
    by_tests : (s t : Bool) → same_bytes bs (version_digits Version02) ≡ s → same_bytes bs (version_digits Version96) ≡ t → cond s (Some Version02) (cond t (Some Version96) None) ≡ Some v → bs ≡ version_digits v
    by_tests true t p q e = let is : Version02 ≡ v = cc in same_bytes_lem _ _ p ∙ ap version_digits is
    by_tests false true p q e = let is : Version96 ≡ v = cc in same_bytes_lem _ _ q ∙ ap version_digits is
    by_tests false false p q e = let z : ◌≡◌ {A = ℕ} 0 1 = cc in absurd (omega arith)

-- a payload of n bytes with RS behind it
payload_at : (n : ℕ) (bs : Bytes) → n < length bs → get_or bs n 0 ≡ RS → bs ≡ take n bs ++ (RS ∷ drop (n + 1) bs)
payload_at n bs short is = split_at bs n 0 short ∙ (λ i. take n bs ++ (is i ∷ drop (sym (add-one n) i) bs))

record AreSegments (is_tag : Bytes → Bool) (body : Bytes) : Type 0 where
  last_empty : last_is_empty (pieces FS body) ≡ true
  one_or_more : is_empty (segments_in body) ≡ false
  all_tagged : every (tagged is_tag) (segments_in body) ≡ true

are_segments_lem : (is_tag : Bytes → Bool) (body : Bytes) → are_segments is_tag body ≡ true → AreSegments is_tag body
unfolding are_segments
are_segments_lem is_tag body h =
    let k = and_parts (last_is_empty (pieces FS body) && not (is_empty (segments_in body))) (every (tagged is_tag) (segments_in body)) h in
    let l = and_parts (last_is_empty (pieces FS body)) (not (is_empty (segments_in body))) k.0 in
    record { last_empty = l.0; one_or_more = not-true _ l.1; all_tagged = k.1 }

module _ (edition : Edition) (first : Bool) where
  -- what is read behind a format's indicator
  abbrev After : ℕ → Bytes → Step → Type 0
  After f bs = StepSo edition first (two_digits f ++ bs)

  before : {bs : Bytes} (r : Reason) → BeforeRules r → RefusedSo edition bs r
  before r why = before_rules why

  -- a fault behind the header and the pieces in front of it
  piece_so : (e : Envelope) (r : Reason) (ahead header bs after body left : Bytes) (front : List Bytes) → FaultIn edition e r ahead → (first || not (is_transport e)) ≡ true
      → bs ≡ content_bytes e ++ (RS ∷ left) → ahead ≡ two_digits (format_of e) ++ (header ++ terminated GS front) → bs ≡ header ++ after → after ≡ body ++ (RS ∷ left) → Ahead body front
      → After (format_of e) bs (refuse_at r (drop (length (terminated GS front)) after))
  piece_so e r ahead header bs after body left front fault in_place written ahead_is opens body_is a =
      let split : after ≡ terminated GS front ++ (a.tail ++ (RS ∷ left)) = body_is ∙ ap (λ x. x ++ (RS ∷ left)) a.is ∙ append_assoc (terminated GS front) a.tail (RS ∷ left) in
      let from : drop (length (terminated GS front)) after ≡ a.tail ++ (RS ∷ left) = ap (drop (length (terminated GS front))) split ∙ drop-append_seam (terminated GS front) (a.tail ++ (RS ∷ left)) in
      record {
        envelope = e;
        left = left;
        stands = bytes_closed e bs left written;
        in_place = in_place;
        ahead = ahead;
        fault = fault;
        bytes = ap (λ x. two_digits (format_of e) ++ x) (opens ∙ ap (λ x. header ++ x) (split ∙ ap (λ x. terminated GS front ++ x) (sym from)))
            ∙ sym (ap (λ x. x ++ drop (length (terminated GS front)) after) ahead_is ∙ regrouped (two_digits (format_of e)) header (terminated GS front) (drop (length (terminated GS front)) after));
      }
    where
      regrouped : (a b c d : Bytes) → (a ++ (b ++ c)) ++ d ≡ a ++ (b ++ (c ++ d))
      regrouped a b c d = simp append_assoc

  text_so : (permitted : ℕ → Bool) (f : ℕ) (bs : Bytes) → rule_of edition f ≡ as_text permitted → After f bs (read_text permitted f bs)
  unfolding read_text
  text_so permitted f bs known =
      bodied_so (After f bs) before permitted (λ body. true) whole_fault (text f) bs (λ body left e p r. absurd (true≢false r))
      (λ body left e p r. record {
        within = record { permitted = permitted; known = known; permitted_bytes = p };
        not_rest = refl;
        in_place = or-true first;
        bytes = bytes_closed (text f body) bs left e;
      })

  rest_so : (permitted : ℕ → Bool) (f : ℕ) (bs : Bytes) → rule_of edition f ≡ as_rest permitted → first ≡ true → After f bs (read_rest permitted f bs)
  unfolding read_rest
  rest_so permitted f bs known is_first =
      must_so (After f bs) before (not (is_empty bs)) _ _ (as_whole refl f bs refl (ap judged_whole known))
      (λ some. must_so (After f bs) before (every permitted bs) _ _ (before_rules tt)
      (λ p. record {
        within = record { permitted = permitted; known = known; not_empty = not-true (is_empty bs) some; permitted_bytes = p };
        takes_rest = refl;
        is_first = is_first;
        bytes = sym (bytes_envelope (whole_rest f bs));
      }))

  -- a body of pieces between GS
  plain_pieces : (body : Bytes) → every plain_or_gs body ≡ true → every (every plain) (pieces GS body) ≡ true
  unfolding plain_or_gs
  plain_pieces body p = every_pieces plain_or_gs plain GS (λ b. or_not (plain b) (eqb b GS)) body p

  elements_so : (is_element : Bytes → Bool) (f : ℕ) (bs : Bytes) → rule_of edition f ≡ as_elements is_element → After f bs (read_elements is_element f bs)
  unfolding read_elements elements_fault
  elements_so is_element f bs known =
      opened_so (After f bs) before (GS ∷ []) bs _ λ after opens.
      bodied_so (After f bs) before plain_or_gs (λ body. every is_element (pieces GS body)) (elements_fault is_element) (λ body. elements f (pieces GS body)) after
      (λ body left e p r.
      let found = elements_fault_so is_element (pieces GS body) r in
      subst (λ (x : Option Refusal). After f bs (broken after x)) (sym found.is)
      (piece_so (elements f (pieces GS body)) found.reason (ahead_of_element f found.front) (GS ∷ []) bs after (joined GS (pieces GS body)) left found.front
      record { is_element = is_element; known = known; one_or_more = pieces_some GS body; plain_bytes = plain_pieces body p; front = found.front; fault = found.fault; in_front_of_it = refl }
      (or-true first) (written after opens body left e) (ap (λ x. two_digits f ++ (GS ∷ x)) (bytes_each_ended GS piece_row f found.front)) opens (back after body left e)
      (elements_ahead is_element (pieces GS body) found.front found.reason found.fault)))
      λ body left e p r. record {
        within = record { is_element = is_element; known = known; one_or_more = pieces_some GS body; plain_bytes = plain_pieces body p; as_stated = r };
        not_rest = refl;
        in_place = or-true first;
        bytes = bytes_closed (elements f (pieces GS body)) bs left (written after opens body left e);
      }
    where
      back : (after body left : Bytes) → after ≡ body ++ (RS ∷ left) → after ≡ joined GS (pieces GS body) ++ (RS ∷ left)
      back after body left e = e ∙ ap (λ x. x ++ (RS ∷ left)) (sym (joined_pieces GS body))

      written : (after : Bytes) → bs ≡ GS ∷ after → (body left : Bytes) → after ≡ body ++ (RS ∷ left) → bs ≡ content_bytes (elements f (pieces GS body)) ++ (RS ∷ left)
      written after opens body left e = opens ∙ ap (λ x. GS ∷ x) (back after body left e)

  fields_so : (f : ℕ) (v : Version) (bs rest : Bytes) → rule_of edition f ≡ as_fields → first ≡ true → bs ≡ GS ∷ (version_digits v ++ rest) → After f bs (read_fields f (Some v) rest)
  unfolding read_fields fields_fault
  fields_so f v bs rest known is_first opens =
      bodied_so (After f bs) before plain_or_gs (λ body. transport v (pieces GS body)) (fields_fault v) (λ body. fields f v (pieces GS body)) rest
      (λ body left e p r.
      let found = fields_fault_so v (pieces GS body) r in
      subst (λ (x : Option Refusal). After f bs (broken rest x)) (sym (ap (λ x. fields_fault_by v (length x) (pieces GS body)) (sym (joined_pieces GS body)) ∙ found.is))
      (piece_so (fields f v (pieces GS body)) found.reason (ahead_of_field f v found.front) (GS ∷ version_digits v) bs rest (joined GS (pieces GS body)) left found.front
      record { known = known; one_or_more = pieces_some GS body; plain_bytes = plain_pieces body p; front = found.front; fault = found.fault; in_front_of_it = refl }
      (or_left _ (not true) is_first) (written body left e) (ap (λ x. two_digits f ++ (GS ∷ (version_digits v ++ x))) (bytes_each_ended GS piece_row f found.front)) opens (back body left e)
      (fields_ahead v (pieces GS body) found.front found.reason found.fault)))
      λ body left e p r. record {
        within = record { known = known; plain_bytes = plain_pieces body p; as_stated = r };
        not_rest = refl;
        in_place = or_left _ (not true) is_first;
        bytes = bytes_closed (fields f v (pieces GS body)) bs left (written body left e);
      }
    where
      back : (body left : Bytes) → rest ≡ body ++ (RS ∷ left) → rest ≡ joined GS (pieces GS body) ++ (RS ∷ left)
      back body left e = e ∙ ap (λ x. x ++ (RS ∷ left)) (sym (joined_pieces GS body))

      written : (body left : Bytes) → rest ≡ body ++ (RS ∷ left) → bs ≡ content_bytes (fields f v (pieces GS body)) ++ (RS ∷ left)
      written body left e =
          opens ∙ ap (λ x. GS ∷ x) (ap (λ x. version_digits v ++ x) (back body left e) ∙ sym (append_assoc (version_digits v) (joined GS (pieces GS body)) (RS ∷ left)))

  transport_so : (f : ℕ) (bs : Bytes) → rule_of edition f ≡ as_fields → first ≡ true → After f bs (read_transport f bs)
  unfolding read_transport read_fields
  transport_so f bs known is_first =
      opened_so (After f bs) before (GS ∷ []) bs _ λ after opens.
      by_version after opens (version_of (take 2 after)) refl
    where
      by_version : (after : Bytes) → bs ≡ GS ∷ after → (o : Option Version) → version_of (take 2 after) ≡ o → After f bs (read_fields f o (drop 2 after))
      by_version after opens None e = before_rules tt
      by_version after opens (Some v) e =
          fields_so f v bs (drop 2 after) known is_first
          (opens ∙ ap (λ x. GS ∷ x) (sym (take-append-drop 2 after) ∙ ap (λ x. x ++ drop 2 after) (version_so (take 2 after) v e)))

  -- the count and the payload, behind header values
  count_so : (f : ℕ) (limits : List Limit) (vs : List Bytes) (bs after : Bytes) → rule_of edition f ≡ as_counted limits → header_values limits vs ≡ true → bs ≡ value_bytes vs ++ after → After f bs (read_count f vs after)
  unfolding read_count read_payload
  count_so f limits vs bs after known are opens =
      valued_so (After f bs) before count after _ λ n rest e is_count.
      must_so (After f bs) before (ltb (value n) (length rest) && eqb (get_or rest (value n) 0) RS) _ _ (before_rules tt) λ fits.
      let k = and_parts (ltb (value n) (length rest)) (eqb (get_or rest (value n) 0) RS) fits in
      let short = ltb-true (value n) (length rest) k.0 in
      record {
        within = record { limits = limits; known = known; are_values = are; is_count = is_count; counts = sym (length-take-le (value n) rest (omega arith)) };
        not_rest = refl;
        in_place = or-true first;
        bytes = bytes_closed (counted f vs n (take (value n) rest)) bs (drop (value n + 1) rest)
            (opens
            ∙ ap (λ x. value_bytes vs ++ x) (e ∙ ap (λ x. n ++ (GS ∷ x)) (payload_at (value n) rest short (eqb-true _ _ k.1)))
            ∙ regrouped (value_bytes vs) n (take (value n) rest) (drop (value n + 1) rest));
      }
    where
      regrouped : (vs n payload left : Bytes) → vs ++ (n ++ (GS ∷ (payload ++ (RS ∷ left)))) ≡ (vs ++ (n ++ (GS ∷ payload))) ++ (RS ∷ left)
      regrouped vs n payload left = simp append_assoc

  counted_so : (limits : List Limit) (f : ℕ) (bs : Bytes) → rule_of edition f ≡ as_counted limits → After f bs (read_counted limits f bs)
  unfolding read_counted
  counted_so [] f bs known = count_so f [] [] bs bs known refl refl
  counted_so (l ∷ ls) f bs known =
      opened_so (After f bs) before (GS ∷ []) bs _ λ after opens.
      values_so (After f bs) before (l ∷ ls) after (read_count f) λ vs rest e are.
      by after rest opens vs e are
    where
      by : (after rest : Bytes) → bs ≡ GS ∷ after → (vs : List Bytes) → after ≡ terminated GS vs ++ rest → header_values (l ∷ ls) vs ≡ true → After f bs (read_count f vs rest)
      by after rest opens [] e are = absurd (false≢true are)
      by after rest opens (v ∷ vs) e are = count_so f (l ∷ ls) (v ∷ vs) bs rest known are (opens ∙ ap (λ x. GS ∷ x) e)

  segments_so : (is_tag : Bytes → Bool) (f : ℕ) (bs : Bytes) → rule_of edition f ≡ as_segments is_tag → After f bs (read_segments is_tag f bs)
  unfolding read_segments
  segments_so is_tag f bs known =
      must_so (After f bs) before (release (take release_length bs)) _ _ (before_rules tt) λ is_release.
      opened_so (After f bs) before (FS ∷ GS ∷ US ∷ []) (drop release_length bs) _ λ after opens.
      bodied_so (After f bs) before segment_byte (are_segments is_tag) whole_fault (λ body. segments f (take release_length bs) (segments_in body)) after
      (λ body left e p r. as_whole refl f bs refl (ap judged_whole known))
      λ body left e p r.
      let so = are_segments_lem is_tag body r in
      record {
        within = record { is_tag = is_tag; known = known; six_bytes = is_release; one_or_more = so.one_or_more; plain_bytes = plain_segments body p; all_tagged = so.all_tagged };
        not_rest = refl;
        in_place = or-true first;
        bytes = bytes_closed (segments f (take release_length bs) (segments_in body)) bs left
            (sym (take-append-drop release_length bs)
            ∙ ap (λ x. take release_length bs ++ x) (opens ∙ ap (λ x. FS ∷ (GS ∷ (US ∷ x))) (e ∙ ap (λ x. x ++ (RS ∷ left)) (sym (segments_back body so.last_empty))))
            ∙ sym (append_assoc (take release_length bs) (FS ∷ (GS ∷ (US ∷ terminated FS (map segment_bytes (segments_in body))))) (RS ∷ left)));
      }

  by_so : (rule : Rule) (f : ℕ) (bs : Bytes) → rule_of edition f ≡ rule → After f bs (read_by rule first f bs)
  unfolding read_by
  by_so as_fields f bs known = must_so (After f bs) before first _ _ (before_rules tt) (transport_so f bs known)
  by_so (as_rest permitted) f bs known = must_so (After f bs) before first _ _ (before_rules tt) (rest_so permitted f bs known)
  by_so (as_segments is_tag) f bs known = segments_so is_tag f bs known
  by_so (as_elements is_element) f bs known = elements_so is_element f bs known
  by_so (as_text permitted) f bs known = text_so permitted f bs known
  by_so (as_counted limits) f bs known = counted_so limits f bs known
  by_so unknown f bs known = before_rules tt

-- what is answered where an envelope is due
pub step_so : (edition : Edition) (first : Bool) (bs : Bytes) → StepSo edition first bs (read_envelope edition first bs)
unfolding read_envelope
step_so edition first [] = before_rules tt
step_so edition first (a ∷ []) = before_rules tt
step_so edition first (a ∷ (b ∷ bs)) =
    must_so (StepSo edition first (a ∷ (b ∷ bs))) (λ r why. before_rules why) (digit a && digit b) _ _ (before_rules tt) λ digits.
    let k = and_parts (digit a) (digit b) digits in
    let f = value (a ∷ b ∷ []) in
    subst (λ (two : Bytes). StepSo edition first (two ++ bs) (read_by (rule_of edition f) first f bs)) (digits_two a b k.0 k.1)
    (by_so edition first (rule_of edition f) f bs refl)
