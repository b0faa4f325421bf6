-- What an envelope is, and when it is within its format's rules (01, Envelope rules). One constructor for each shape that a format may have;
-- the format's rule is looked up by its number.
use Rattle.std.specs.Prelude.{ℕ, ◌≡◌, Bool, true, false, not, ◌&&◌, List, length}
use Rattle.label.specs.declared.Limit.{Limit}
use Rattle.label.specs.Bytes.{Bytes, plain, every, is_empty}
use Rattle.label.specs.Values.{release, header_values, count, value}
use Rattle.label.specs.declared.Version.{Version}
use Rattle.label.specs.Segments.{Segment, tagged}
use Rattle.label.specs.Fields.{transport}
use Rattle.label.specs.declared.Edition.{Edition}
use Rattle.label.specs.Formats.{rule_of, as_fields, as_rest, as_segments, as_elements, as_text, as_counted}

pub data Envelope : Type 0 where
  -- 01: format, version and fields
  fields : ℕ → Version → List Bytes → Envelope
  -- 02: format and body, all the rest of the message
  whole_rest : ℕ → Bytes → Envelope
  -- 03, 04: format, the six bytes of the header, and segments
  segments : ℕ → Bytes → List Segment → Envelope
  -- 05, 06, 12: format and elements
  elements : ℕ → List Bytes → Envelope
  -- 07: format and body
  text : ℕ → Bytes → Envelope
  -- 09, 15: format, the header values in front of the count (type and compression, or none), count with its digits as they stand, and payload
  counted : ℕ → List Bytes → Bytes → Bytes → Envelope

-- 01: the version's fields, plain bytes
pub record WithinFields (edition : Edition) (f : ℕ) (v : Version) (fs : List Bytes) : Type 0 where
  pub known : rule_of edition f ≡ as_fields
  pub plain_bytes : every (every plain) fs ≡ true
  pub as_stated : transport v fs ≡ true

-- 02: at least one byte, each permitted
pub record WithinRest (edition : Edition) (f : ℕ) (body : Bytes) : Type 0 where
  pub permitted : ℕ → Bool
  pub known : rule_of edition f ≡ as_rest permitted
  pub not_empty : is_empty body ≡ false
  pub permitted_bytes : every permitted body ≡ true

-- a segment's elements have one sub-element or more each, all of plain bytes
abbrev pub plain_element : List Bytes → Bool
plain_element sub_elements = not (is_empty sub_elements) && every (every plain) sub_elements

-- 03, 04: six bytes in the header, one or more segments, each with its tag
pub record WithinSegments (edition : Edition) (f : ℕ) (header : Bytes) (ss : List Segment) : Type 0 where
  pub is_tag : Bytes → Bool
  pub known : rule_of edition f ≡ as_segments is_tag
  pub six_bytes : release header ≡ true
  pub one_or_more : is_empty ss ≡ false
  pub plain_bytes : every (every plain_element) ss ≡ true
  pub all_tagged : every (tagged is_tag) ss ≡ true

-- 05, 06, 12: one or more elements, plain bytes, each as the format has it
pub record WithinElements (edition : Edition) (f : ℕ) (es : List Bytes) : Type 0 where
  pub is_element : Bytes → Bool
  pub known : rule_of edition f ≡ as_elements is_element
  pub one_or_more : is_empty es ≡ false
  pub plain_bytes : every (every plain) es ≡ true
  pub as_stated : every is_element es ≡ true

-- 07: zero or more bytes, each permitted
pub record WithinText (edition : Edition) (f : ℕ) (body : Bytes) : Type 0 where
  pub permitted : ℕ → Bool
  pub known : rule_of edition f ≡ as_text permitted
  pub permitted_bytes : every permitted body ≡ true

-- 09, 15: header values and count as stated, and exactly count bytes
pub record WithinCounted (edition : Edition) (f : ℕ) (vs : List Bytes) (n payload : Bytes) : Type 0 where
  pub limits : List Limit
  pub known : rule_of edition f ≡ as_counted limits
  pub are_values : header_values limits vs ≡ true
  pub is_count : count n ≡ true
  pub counts : value n ≡ length payload

-- an envelope is within the rules
abbrev pub Within : Edition → Envelope → Type 0
Within edition (fields f v fs) = WithinFields edition f v fs
Within edition (whole_rest f body) = WithinRest edition f body
Within edition (segments f header ss) = WithinSegments edition f header ss
Within edition (elements f es) = WithinElements edition f es
Within edition (text f body) = WithinText edition f body
Within edition (counted f vs n payload) = WithinCounted edition f vs n payload
