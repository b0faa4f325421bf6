-- How one envelope is read: what is answered where an indicator is due (01, Numbers for the receiving desk). A refusal has that offset as its place, or
-- where a field or an element is at fault the offset at which that starts (02, No. 1). In a definition the refusals stand in the paper's order: 3, 6, 7,
-- 8, then 9, or 12, 10 and 11 (for 01 30 to 33 in its stead), or for format 02 11 and 10.
use Rattle.std.specs.Prelude.{ℕ, ◌+◌, Bool, true, false, not, ◌&&◌, ◌||◌, cond, List, [], ◌∷◌, map, length, get_or, take, drop, ltb, eqb, None, Option, Some}
use Rattle.label.specs.declared.Reason.{Reason}
use Rattle.label.specs.declared.Limit.{Limit}
use Rattle.label.specs.declared.Reason.TheVariants.{NoIndicator, UnknownFormat, NotFirst, BadFormatHeader, PayloadDoesNotFit, ByteNotPermitted, BodyBreaksRules, NoRecordSeparator}
use Rattle.label.specs.Bytes.{Bytes, FS, GS, RS, US, plain, digit, every, is_empty, same_bytes}
use Rattle.label.specs.Pieces.{pieces, last_is_empty, without_last, Cut, found, absent, cut}
use Rattle.label.specs.Values.{version_digits, release_length, release, header_value, count, value}
use Rattle.label.specs.declared.Version.{Version}
use Rattle.label.specs.declared.Version.TheVariants.{Version02, Version96}
use Rattle.label.specs.Segments.{Segment, tagged}
use Rattle.label.specs.Fields.{transport}
use Rattle.label.specs.Faults.{fields_fault, elements_fault, whole_fault}
use Rattle.label.specs.declared.Edition.{Edition}
use Rattle.label.specs.Formats.{Rule, rule_of, as_fields, as_rest, as_segments, as_elements, as_text, as_counted, unknown}
use Rattle.label.specs.Envelope.{Envelope, fields, whole_rest, segments, elements, text, counted}
use Rattle.label.specs.declared.Refusal.{Refusal}

-- an envelope and what follows its RS; an envelope that takes all the rest; a refusal at the indicator; or one where the last bytes begin
pub data Step : Type 0 where
  closed : Envelope → Bytes → Step
  whole : Envelope → Step
  refuse : Reason → Step
  refuse_at : Reason → Bytes → Step

-- refused unless a test holds
abbrev pub must : Bool → Reason → Step → Step
must true reason next = next
must false reason next = refuse reason

-- Headers: 8

-- the bytes are to begin with those of a header; then what follows
abbrev pub opened : Bytes → Bytes → (Bytes → Step) → Step
opened [] bs next = next bs
opened (h ∷ hs) [] next = refuse BadFormatHeader
opened (h ∷ hs) (b ∷ bs) next = must (eqb b h) BadFormatHeader (opened hs bs next)

-- a header value runs to the next GS and is to pass a test; then the value and what follows the GS
abbrev pub valued_at : (Bytes → Bool) → (Bytes → Bytes → Step) → Cut → Step
valued_at test next absent = refuse BadFormatHeader
valued_at test next (found v bs) = must (test v) BadFormatHeader (next v bs)

abbrev pub valued : (Bytes → Bool) → Bytes → (Bytes → Bytes → Step) → Step
valued test bs next = valued_at test next (cut GS bs)

-- Bodies that run to the first RS: 12, 10, and then what their rules say

-- a body that breaks its rules, by its fault: bs begin where it begins
abbrev pub broken : Bytes → Option Refusal → Step
broken bs None = refuse BodyBreaksRules
broken bs (Some fault) = refuse_at fault.reason (drop fault.place bs)

abbrev pub body_at : (ℕ → Bool) → (Bytes → Bool) → (Bytes → Step) → (Bytes → Envelope) → Cut → Step
body_at permitted rules otherwise made absent = refuse NoRecordSeparator
body_at permitted rules otherwise made (found body left) =
    must (every permitted body) ByteNotPermitted
    (cond (rules body) (closed (made body) left)
    (otherwise body))

-- the body's permitted bytes, its rules, which fault it has if it breaks them, and the envelope that it makes
unfoldable pub bodied : (ℕ → Bool) → (Bytes → Bool) → (Bytes → Option Refusal) → (Bytes → Envelope) → Bytes → Step
bodied permitted rules fault made bs = body_at permitted rules (λ body. broken bs (fault body)) made (cut RS bs)

-- Formats

unfoldable pub plain_or_gs : ℕ → Bool
plain_or_gs b = plain b || eqb b GS

-- 01: GS, then `02` or `96`, then fields split by GS
unfoldable pub version_of : Bytes → Option Version
version_of bs =
    cond (same_bytes bs (version_digits Version02)) (Some Version02)
    (cond (same_bytes bs (version_digits Version96)) (Some Version96)
    None)

unfoldable pub read_fields : ℕ → Option Version → Bytes → Step
read_fields f None bs = refuse BadFormatHeader
read_fields f (Some v) bs = bodied plain_or_gs (λ body. transport v (pieces GS body)) (fields_fault v) (λ body. fields f v (pieces GS body)) bs

unfoldable pub read_transport : ℕ → Bytes → Step
read_transport f bs = opened (GS ∷ []) bs λ after. read_fields f (version_of (take 2 after)) (drop 2 after)

-- 02: all the rest
unfoldable pub read_rest : (ℕ → Bool) → ℕ → Bytes → Step
read_rest permitted f bs =
    must (not (is_empty bs)) BodyBreaksRules
    (must (every permitted bs) ByteNotPermitted
    (whole (whole_rest f bs)))

-- 03, 04: six bytes, FS GS US, then segments, each ended by FS, their elements split by GS, and those by US
unfoldable pub segment_byte : ℕ → Bool
segment_byte b = plain b || eqb b FS || eqb b GS || eqb b US

unfoldable pub segments_in : Bytes → List Segment
segments_in body = map (λ segment. map (pieces US) (pieces GS segment)) (without_last (pieces FS body))

unfoldable pub are_segments : (Bytes → Bool) → Bytes → Bool
are_segments is_tag body = last_is_empty (pieces FS body) && not (is_empty (segments_in body)) && every (tagged is_tag) (segments_in body)

unfoldable pub read_segments : (Bytes → Bool) → ℕ → Bytes → Step
read_segments is_tag f bs =
    must (release (take release_length bs)) BadFormatHeader
    (opened (FS ∷ GS ∷ US ∷ []) (drop release_length bs) λ after.
    bodied segment_byte (are_segments is_tag) whole_fault (λ body. segments f (take release_length bs) (segments_in body)) after)

-- 05, 06, 12: GS, then elements split by GS
unfoldable pub read_elements : (Bytes → Bool) → ℕ → Bytes → Step
read_elements is_element f bs =
    opened (GS ∷ []) bs λ after.
    bodied plain_or_gs (λ body. every is_element (pieces GS body)) (elements_fault is_element) (λ body. elements f (pieces GS body)) after

-- 07: text
unfoldable pub read_text : (ℕ → Bool) → ℕ → Bytes → Step
read_text permitted f bs = bodied permitted (λ body. true) whole_fault (text f) bs

-- 09, 15: the payload and its RS are to fit, and the byte after the payload is RS; nothing is looked for inside the payload
unfoldable pub read_payload : ℕ → (Bytes → Envelope) → Bytes → Step
read_payload n made bs = must (ltb n (length bs) && eqb (get_or bs n 0) RS) PayloadDoesNotFit (closed (made (take n bs)) (drop (n + 1) bs))

-- 09: header values, each ended by GS
abbrev pub read_values : List Limit → Bytes → (List Bytes → Bytes → Step) → Step
read_values [] bs next = next [] bs
read_values (l ∷ ls) bs next = valued (header_value l) bs λ v rest. read_values ls rest λ vs. next (v ∷ vs)

-- 09, 15: the count, ended by GS, then the payload; whatever values stand in front
unfoldable pub read_count : ℕ → List Bytes → Bytes → Step
read_count f vs bs = valued count bs λ n rest. read_payload (value n) (counted f vs n) rest

-- 09: GS, type and compression, then the count. 15: no value stands in front of the count, and no GS either
unfoldable pub read_counted : List Limit → ℕ → Bytes → Step
read_counted [] f bs = read_count f [] bs
read_counted (l ∷ ls) f bs = opened (GS ∷ []) bs λ after. read_values (l ∷ ls) after λ vs rest. read_count f vs rest

-- Any format: 6, and 7 where it isn't the first envelope, before its header

unfoldable pub read_by : Rule → Bool → ℕ → Bytes → Step
read_by unknown first f bs = refuse UnknownFormat
read_by as_fields first f bs = must first NotFirst (read_transport f bs)
read_by (as_rest permitted) first f bs = must first NotFirst (read_rest permitted f bs)
read_by (as_segments is_tag) first f bs = read_segments is_tag f bs
read_by (as_elements is_element) first f bs = read_elements is_element f bs
read_by (as_text permitted) first f bs = read_text permitted f bs
read_by (as_counted limits) first f bs = read_counted limits f bs

-- an indicator, two digits, is due: 3; then its format
unfoldable pub read_envelope : Edition → Bool → Bytes → Step
read_envelope edition first [] = refuse NoIndicator
read_envelope edition first (a ∷ []) = refuse NoIndicator
read_envelope edition first (a ∷ (b ∷ bs)) =
    must (digit a && digit b) NoIndicator
    (read_by (rule_of edition (value (a ∷ b ∷ []))) first (value (a ∷ b ∷ [])) bs)
