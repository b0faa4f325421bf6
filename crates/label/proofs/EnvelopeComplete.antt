-- An envelope within its rules, written and then RS, is read as just that envelope, and what follows the RS is left; one of format 02 takes all.
use Rattle.std.specs.Prelude.{Option, Some}
use Prim.Native.Nat.{ℕ, ◌<◌}
use mathlib.Core.Path.{◌≡◌, refl, sym, ap, ◌∙◌, subst}
use mathlib.Core.Bool.{Bool, true, false, not, ◌||◌, cond, false≢true, true≢false}
use mathlib.Core.List.{List, [], ◌∷◌, ◌++◌, map, append_assoc}
use native.Mathlib.Omega.{arith}
use borrow.Author.Tests.{lt-ltb, eq-eqb, leb-true, not-true}
use lib.ListN.{length, take, drop, length-append}
use lib.Seq.{take-append_seam, drop-append-add, get_or-append_seam, take_at, drop_at}
use lib.Dec.{leb, eqb}
use Rattle.std.proofs.lemmas.Bool.{and_parts, or_left, or_right, cond-true, cond-false, or_parts}
use Rattle.std.specs.Cmp.Derive.{both_true}
use Rattle.label.specs.declared.Limit.{Limit}
use Rattle.label.specs.declared.Reason.{Reason}
use Rattle.label.specs.declared.Reason.TheVariants.{BadFormatHeader}
use Rattle.label.specs.Bytes.{Bytes, EOT, FS, GS, RS, US, control, plain, digit, below80, every, is_empty}
use Rattle.label.specs.Limits.{long_as, ◌to◌}
use Rattle.label.specs.Pieces.{pieces, last_is_empty}
use Rattle.label.specs.Values.{version_digits, release_length, release, header_value, header_values, count, value}
use Rattle.label.specs.declared.Version.{Version}
use Rattle.label.specs.declared.Version.TheVariants.{Version02, Version96}
use Rattle.label.specs.Segments.{Segment, tagged}
use Rattle.label.specs.Fields.{transport}
use Rattle.label.specs.Faults.{fields_fault, elements_fault, whole_fault}
use Rattle.label.specs.declared.Edition.{Edition}
use Rattle.label.specs.declared.Edition.TheVariants.{Edition2005, Edition2025}
use Rattle.label.specs.Formats.{text_byte, Format, formats, Rule, rule_of, as_fields, as_rest, as_segments, as_elements, as_text, as_counted, unknown}
use Rattle.label.specs.Layout.{bytes_of}
use Rattle.label.specs.Envelope.{Envelope, fields, whole_rest, segments, elements, text, counted, Within}
use Rattle.label.specs.Written.{two_digits, parts}
use Rattle.label.specs.Message.{is_transport, is_rest, Each}
use Rattle.label.specs.ReadEnvelope.{Step, closed, whole, must, opened, valued_at, valued, broken, body_at, bodied, plain_or_gs, version_of, read_fields, read_transport, read_rest, segment_byte, segments_in, are_segments, read_segments, read_elements, read_text, read_payload, read_values, read_count, read_counted, read_by, read_envelope}
use Rattle.label.proofs.Tests.{or_not, free, free_of, Without, without_or, without_one, plain_without, digit_without, every_implies}
use Rattle.label.proofs.Splitting.{joined, pieces_of_joined, last_of_terminated, cut_front, every_joined, terminated}
use Rattle.label.proofs.Laid.{segment_bytes, content_bytes, format_of, bytes_envelope, value_bytes}
use Rattle.label.proofs.SegmentLaws.{body_of, body_bytes, body_pieces, segments_again}
use Rattle.label.proofs.Editions.{is_known, each_rule}
use Rattle.label.proofs.Digits.{two_digits_lem, known_small}
use Rattle.label.specs.declared.Refusal.{Refusal}

-- Steps of a reading

pub must_pass : (t : Bool) (r : Reason) (s : Step) → t ≡ true → must t r s ≡ s
must_pass t r s h = ap (λ x. must x r s) h

valued_pass : (test : Bytes → Bool) (v rest : Bytes) (next : Bytes → Bytes → Step) → free GS v ≡ true → test v ≡ true → valued test (v ++ (GS ∷ rest)) next ≡ next v rest
valued_pass test v rest next none_inside passes = ap (valued_at test next) (cut_front GS v rest none_inside) ∙ must_pass (test v) _ _ passes

-- a body whose bytes are permitted, by whether its rules hold
bodied_by : (permitted : ℕ → Bool) (rules : Bytes → Bool) (fault : Bytes → Option Refusal) (made : Bytes → Envelope) (body left : Bytes) → Without RS permitted → every permitted body ≡ true
    → bodied permitted rules fault made (body ++ (RS ∷ left)) ≡ cond (rules body) (closed (made body) left) (broken (body ++ (RS ∷ left)) (fault body))
unfolding bodied
bodied_by permitted rules fault made body left without p =
    ap (body_at permitted rules (λ b. broken (body ++ (RS ∷ left)) (fault b)) made) (cut_front RS body left (free_of RS permitted without body p))
    ∙ must_pass (every permitted body) _ _ p

bodied_pass : (permitted : ℕ → Bool) (rules : Bytes → Bool) (fault : Bytes → Option Refusal) (made : Bytes → Envelope) (body left : Bytes)
    → Without RS permitted → every permitted body ≡ true → rules body ≡ true → bodied permitted rules fault made (body ++ (RS ∷ left)) ≡ closed (made body) left
bodied_pass permitted rules fault made body left without p r = bodied_by permitted rules fault made body left without p ∙ cond-true (rules body) _ _ r

-- RS is permitted in no body that runs to RS

plain_or_gs_without : Without RS plain_or_gs
unfolding plain_or_gs
plain_or_gs_without = without_or RS plain (λ b. eqb b GS) (plain_without RS (omega arith)) (without_one RS GS refl)

segment_byte_without : Without RS segment_byte
unfolding segment_byte
segment_byte_without =
    without_or RS (λ b. plain b || eqb b FS || eqb b GS) (λ b. eqb b US)
    (without_or RS (λ b. plain b || eqb b FS) (λ b. eqb b GS)
    (without_or RS plain (λ b. eqb b FS) (plain_without RS (omega arith)) (without_one RS FS refl))
    (without_one RS GS refl))
    (without_one RS US refl)

text_byte_without : Without RS text_byte
unfolding text_byte control
text_byte_without b h =
    (or_parts (eqb b EOT || eqb b FS || eqb b GS) (eqb b RS) (or_parts (eqb b EOT || eqb b FS || eqb b GS || eqb b RS) (eqb b US) (not-true _ (and_parts (below80 b) _ h).1)).0).1

-- what the completeness of a rule asks of its test
abbrev Sound : Rule → Type 0
Sound as_fields = Unit {0}
Sound (as_rest permitted) = Unit {0}
Sound (as_segments is_tag) = Unit {0}
Sound (as_elements is_element) = Unit {0}
Sound (as_text permitted) = Without RS permitted
Sound (as_counted limits) = Unit {0}
Sound unknown = Unit {0}

rules_sound : (edition : Edition) → Each (λ (f : Format). Sound f.rule) (formats edition)
rules_sound Edition2005 = (tt, (tt, (tt, (tt, (tt, (tt, (text_byte_without, (tt, tt))))))))
rules_sound Edition2025 = (tt, (tt, (tt, (tt, (tt, (tt, (text_byte_without, (tt, (tt, (tt, tt))))))))))

pub text_without : (edition : Edition) (f : ℕ) (permitted : ℕ → Bool) → rule_of edition f ≡ as_text permitted → Without RS permitted
text_without edition f permitted known = subst Sound known (each_rule Sound tt edition f (rules_sound edition))

-- Each shape, behind its indicator

text_pass : (edition : Edition) (f : ℕ) (body left : Bytes) (w : Within edition (text f body)) → read_text w.permitted f (body ++ (RS ∷ left)) ≡ closed (text f body) left
unfolding read_text
text_pass edition f body left w = bodied_pass w.permitted (λ b. true) whole_fault (text f) body left (text_without edition f w.permitted w.known) w.permitted_bytes refl

rest_pass : (edition : Edition) (f : ℕ) (body : Bytes) (w : Within edition (whole_rest f body)) → read_rest w.permitted f body ≡ whole (whole_rest f body)
unfolding read_rest
rest_pass edition f body w = must_pass _ _ _ (ap not w.not_empty) ∙ must_pass _ _ _ w.permitted_bytes

plain_joined : (ps : List Bytes) → every (every plain) ps ≡ true → every plain_or_gs (joined GS ps) ≡ true
unfolding plain_or_gs
plain_joined ps h = every_joined plain_or_gs GS ps (or_right (plain GS) _ refl) (every_implies (every plain) (every plain_or_gs) (every_implies plain plain_or_gs (λ b p. or_left _ (eqb b GS) p)) ps h)

free_pieces : (c : ℕ) → c < 0x20 → (ps : List Bytes) → every (every plain) ps ≡ true → every (free c) ps ≡ true
free_pieces c before ps h = every_implies (every plain) (free c) (free_of c plain (plain_without c before)) ps h

-- a body of pieces between GS, for any rule of the pieces
module _ (rules : List Bytes → Bool) (fault : Bytes → Option Refusal) (made : List Bytes → Envelope) (ps : List Bytes) (left : Bytes) (one : is_empty ps ≡ false) (p : every (every plain) ps ≡ true) where
  pub pieces_back : pieces GS (joined GS ps) ≡ ps
  pieces_back = pieces_of_joined GS ps one (free_pieces GS (omega arith) ps p)

  pieces_pass : rules ps ≡ true → bodied plain_or_gs (λ body. rules (pieces GS body)) fault (λ body. made (pieces GS body)) (joined GS ps ++ (RS ∷ left)) ≡ closed (made ps) left
  pieces_pass r =
      bodied_pass plain_or_gs (λ body. rules (pieces GS body)) fault (λ body. made (pieces GS body)) (joined GS ps) left plain_or_gs_without (plain_joined ps p) (ap rules pieces_back ∙ r)
      ∙ ap (λ x. closed (made x) left) pieces_back

  pub pieces_broken : rules ps ≡ false → bodied plain_or_gs (λ body. rules (pieces GS body)) fault (λ body. made (pieces GS body)) (joined GS ps ++ (RS ∷ left)) ≡ broken (joined GS ps ++ (RS ∷ left)) (fault (joined GS ps))
  pieces_broken r =
      bodied_by plain_or_gs (λ body. rules (pieces GS body)) fault (λ body. made (pieces GS body)) (joined GS ps) left plain_or_gs_without (plain_joined ps p)
      ∙ cond-false (rules (pieces GS (joined GS ps))) _ _ (ap rules pieces_back ∙ r)

elements_pass : (edition : Edition) (f : ℕ) (es : List Bytes) (left : Bytes) (w : Within edition (elements f es)) → read_elements w.is_element f (GS ∷ (joined GS es ++ (RS ∷ left))) ≡ closed (elements f es) left
unfolding read_elements
elements_pass edition f es left w = pieces_pass (every w.is_element) (elements_fault w.is_element) (elements f) es left w.one_or_more w.plain_bytes w.as_stated

fields_some : (v : Version) (fs : List Bytes) → transport v fs ≡ true → is_empty fs ≡ false
unfolding transport
fields_some v [] h = absurd (false≢true h)
fields_some v (f ∷ fs) h = refl

version_pass : (v : Version) (rest : Bytes) → version_of (take 2 (version_digits v ++ rest)) ≡ Some v
unfolding version_of
version_pass Version02 rest = refl
version_pass Version96 rest = refl

behind_version : (v : Version) (rest : Bytes) → drop 2 (version_digits v ++ rest) ≡ rest
behind_version Version02 rest = refl
behind_version Version96 rest = refl

-- behind the header, the fields
pub fields_read : (f : ℕ) (v : Version) (rest : Bytes) → read_transport f (GS ∷ (version_digits v ++ rest)) ≡ read_fields f (Some v) rest
unfolding read_transport
fields_read f v rest = λ i. read_fields f (version_pass v rest i) (behind_version v rest i)

transport_pass : (edition : Edition) (f : ℕ) (v : Version) (fs : List Bytes) (left : Bytes) → Within edition (fields f v fs) → read_transport f (GS ∷ (version_digits v ++ (joined GS fs ++ (RS ∷ left)))) ≡ closed (fields f v fs) left
unfolding read_fields
transport_pass edition f v fs left w =
    fields_read f v (joined GS fs ++ (RS ∷ left))
    ∙ pieces_pass (transport v) (fields_fault v) (fields f v) fs left (fields_some v fs w.as_stated) w.plain_bytes w.as_stated

six_long : (header : Bytes) → release header ≡ true → length header ≡ release_length
unfolding release long_as
six_long header h =
    let k = and_parts (leb release_length (length header)) (leb (length header) release_length) (and_parts _ _ h).0 in
    let least = leb-true release_length (length header) k.0 in
    let greatest = leb-true (length header) release_length k.1 in
    omega arith

-- 03 and 04, given the six bytes and what follows them
abbrev read_six : (Bytes → Bool) → ℕ → Bytes → Bytes → Step
read_six is_tag f header after =
    must (release header) BadFormatHeader
    (opened (FS ∷ GS ∷ US ∷ []) after λ rest. bodied segment_byte (are_segments is_tag) whole_fault (λ body. segments f header (segments_in body)) rest)

segments_pass : (edition : Edition) (f : ℕ) (header : Bytes) (ss : List Segment) (left : Bytes) (w : Within edition (segments f header ss))
    → read_segments w.is_tag f (header ++ (FS ∷ (GS ∷ (US ∷ (body_of ss ++ (RS ∷ left)))))) ≡ closed (segments f header ss) left
unfolding read_segments are_segments
segments_pass edition f header ss left w =
    let six = six_long header w.six_bytes in
    let tail = FS ∷ (GS ∷ (US ∷ (body_of ss ++ (RS ∷ left)))) in
    let again = segments_again w.is_tag ss w.plain_bytes w.all_tagged in
    let ends : last_is_empty (pieces FS (body_of ss)) ≡ true = ap last_is_empty (body_pieces ss w.plain_bytes) ∙ last_of_terminated (map segment_bytes ss) in
    (λ i. read_six w.is_tag f (take_at header tail release_length six i) (drop_at header tail release_length six i))
    ∙ must_pass (release header) _ _ w.six_bytes
    ∙ bodied_pass segment_byte (are_segments w.is_tag) whole_fault (λ body. segments f header (segments_in body)) (body_of ss) left segment_byte_without (body_bytes ss w.plain_bytes)
    (both_true (both_true ends (ap (λ x. not (is_empty x)) again ∙ ap not w.one_or_more)) (ap (every (tagged w.is_tag)) again ∙ w.all_tagged))
    ∙ ap (λ x. closed (segments f header x) left) again

payload_pass : (made : Bytes → Envelope) (payload left : Bytes) → read_payload (length payload) made (payload ++ (RS ∷ left)) ≡ closed (made payload) left
unfolding read_payload
payload_pass made payload left =
    must_pass _ _ _
    (both_true (lt-ltb (length payload) (length (payload ++ (RS ∷ left))) (omega (arith, length-append payload (RS ∷ left))))
    (eq-eqb _ RS (get_or-append_seam payload RS left 0)))
    ∙ (λ i. closed (made (take-append_seam payload (RS ∷ left) i)) (drop-append-add payload (RS ∷ left) 1 i))

-- a header value has no GS
value_free : (limit : Limit) (v : Bytes) → header_value limit v ≡ true → free GS v ≡ true
unfolding header_value
value_free limit v is = free_of GS plain (plain_without GS (omega arith)) v (and_parts (long_as limit v) (every plain v) is).1

values_pass : (limits : List Limit) (vs : List Bytes) (rest : Bytes) (next : List Bytes → Bytes → Step) → header_values limits vs ≡ true → read_values limits (terminated GS vs ++ rest) next ≡ next vs rest
values_pass [] [] rest next are = refl
values_pass [] (v ∷ vs) rest next are = absurd (false≢true are)
values_pass (l ∷ ls) [] rest next are = absurd (false≢true are)
values_pass (l ∷ ls) (v ∷ vs) rest next are =
    let k = and_parts (header_value l v) (header_values ls vs) are in
    ap (λ bs. read_values (l ∷ ls) bs next) (append_assoc v (GS ∷ terminated GS vs) rest)
    ∙ valued_pass (header_value l) v _ _ (value_free l v k.0) k.0
    ∙ values_pass ls vs rest (λ ws. next (v ∷ ws)) k.1

count_pass : (f : ℕ) (vs : List Bytes) (n payload left : Bytes) → count n ≡ true → value n ≡ length payload → read_count f vs (n ++ (GS ∷ (payload ++ (RS ∷ left)))) ≡ closed (counted f vs n payload) left
unfolding read_count count
count_pass f vs n payload left is_count counts =
    valued_pass count n _ _ (free_of GS digit (digit_without GS (omega arith)) n (and_parts (long_as (1 to 15) n) (every digit n) is_count).1) is_count
    ∙ ap (λ k. read_payload k (counted f vs n) (payload ++ (RS ∷ left))) counts
    ∙ payload_pass (counted f vs n) payload left

counted_pass : (edition : Edition) (f : ℕ) (vs : List Bytes) (n payload left : Bytes) (w : Within edition (counted f vs n payload))
    → read_counted w.limits f (value_bytes vs ++ (n ++ (GS ∷ (payload ++ (RS ∷ left))))) ≡ closed (counted f vs n payload) left
unfolding read_counted
counted_pass edition f vs n payload left w = by w.limits vs w.are_values ∙ count_pass f vs n payload left w.is_count w.counts
  where
    by : (limits : List Limit) (vs : List Bytes) → header_values limits vs ≡ true
        → read_counted limits f (value_bytes vs ++ (n ++ (GS ∷ (payload ++ (RS ∷ left))))) ≡ read_count f vs (n ++ (GS ∷ (payload ++ (RS ∷ left))))
    by [] [] are = refl
    by [] (v ∷ vs) are = absurd (false≢true are)
    by (l ∷ ls) [] are = absurd (false≢true are)
    by (l ∷ ls) (v ∷ vs) are = values_pass (l ∷ ls) (v ∷ vs) (n ++ (GS ∷ (payload ++ (RS ∷ left)))) (read_count f) are

-- Behind any indicator of a known format

pub indicator_pass : (edition : Edition) (first : Bool) (f : ℕ) (rule : Rule) (bs : Bytes) → rule_of edition f ≡ rule → is_known rule ≡ true → read_envelope edition first (two_digits f ++ bs) ≡ read_by rule first f bs
unfolding read_envelope
indicator_pass edition first f rule bs known is =
    let so = two_digits_lem f (known_small edition f (λ u. true≢false (sym is ∙ ap is_known (sym known ∙ u)))) in
    must_pass _ _ _ (both_true so.first so.second)
    ∙ ap (λ n. read_by (rule_of edition n) first n bs) so.number
    ∙ ap (λ r. read_by r first f bs) known

-- the reading of an envelope's header and body, whatever stands in front
content_pass : (edition : Edition) (first : Bool) (e : Envelope) (left : Bytes) → Within edition e → is_rest e ≡ false → (first || not (is_transport e)) ≡ true
    → read_envelope edition first (two_digits (format_of e) ++ (content_bytes e ++ (RS ∷ left))) ≡ closed e left
unfolding read_by
content_pass edition first (fields f v fs) left w not_rest in_place =
    indicator_pass edition first f as_fields _ w.known refl
    ∙ must_pass first _ _ (or_not first false in_place refl)
    ∙ ap (λ x. read_transport f (GS ∷ x)) (append_assoc (version_digits v) (joined GS fs) (RS ∷ left))
    ∙ transport_pass edition f v fs left w
content_pass edition first (whole_rest f body) left w not_rest in_place = absurd (true≢false not_rest)
content_pass edition first (segments f header ss) left w not_rest in_place =
    indicator_pass edition first f (as_segments w.is_tag) _ w.known refl
    ∙ ap (read_segments w.is_tag f) (append_assoc header (FS ∷ (GS ∷ (US ∷ body_of ss))) (RS ∷ left))
    ∙ segments_pass edition f header ss left w
content_pass edition first (elements f es) left w not_rest in_place =
    indicator_pass edition first f (as_elements w.is_element) _ w.known refl ∙ elements_pass edition f es left w
content_pass edition first (text f body) left w not_rest in_place =
    indicator_pass edition first f (as_text w.permitted) _ w.known refl ∙ text_pass edition f body left w
content_pass edition first (counted f vs n payload) left w not_rest in_place =
    indicator_pass edition first f (as_counted w.limits) _ w.known refl
    ∙ ap (read_counted w.limits f) (regrouped (value_bytes vs) n payload left)
    ∙ counted_pass edition f vs n payload left w
  where
    regrouped : (vs n payload left : Bytes) → (vs ++ (n ++ (GS ∷ payload))) ++ (RS ∷ left) ≡ vs ++ (n ++ (GS ∷ (payload ++ (RS ∷ left))))
    regrouped vs n payload left = simp append_assoc

pub step_pass : (edition : Edition) (first : Bool) (e : Envelope) (left : Bytes) → Within edition e → is_rest e ≡ false → (first || not (is_transport e)) ≡ true
    → read_envelope edition first (bytes_of (parts e) ++ (RS ∷ left)) ≡ closed e left
step_pass edition first e left w not_rest in_place = ap (λ x. read_envelope edition first (x ++ (RS ∷ left))) (bytes_envelope e) ∙ content_pass edition first e left w not_rest in_place

pub whole_pass : (edition : Edition) (e : Envelope) → Within edition e → is_rest e ≡ true → read_envelope edition true (bytes_of (parts e)) ≡ whole e
unfolding read_by
whole_pass edition (fields f v fs) w is = absurd (false≢true is)
whole_pass edition (whole_rest f body) w is =
    ap (read_envelope edition true) (bytes_envelope (whole_rest f body)) ∙ indicator_pass edition true f (as_rest w.permitted) body w.known refl ∙ rest_pass edition f body w
whole_pass edition (segments f header ss) w is = absurd (false≢true is)
whole_pass edition (elements f es) w is = absurd (false≢true is)
whole_pass edition (text f body) w is = absurd (false≢true is)
whole_pass edition (counted f vs n payload) w is = absurd (false≢true is)
