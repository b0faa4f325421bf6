-- What is wrong with fields and elements, from the writing side (02, No. 1): which of them stand in front of the fault, and what the next one lacks.
use Rattle.std.specs.Prelude.{ℕ, ◌≤◌, ◌<◌, ◌≡◌, Bool, true, false, List, [], ◌∷◌, ◌++◌, length, get_or, drop}
use Rattle.label.specs.declared.Reason.{Reason}
use Rattle.label.specs.declared.Reason.TheVariants.{BodyBreaksRules, BadFieldCount, FieldTooShort, FieldTooLong, BadFieldBytes}
use Rattle.label.specs.Bytes.{Bytes, GS, plain, every, is_empty}
use Rattle.label.specs.Pieces.{last_is_empty}
use Rattle.label.specs.Limits.{long_as, limit_of}
use Rattle.label.specs.Values.{version_digits}
use Rattle.label.specs.declared.Version.{Version}
use Rattle.label.specs.Fields.{field_bytes, version_row, least_fields, fields_from}
use Rattle.label.specs.Faults.{left_out, count_fits}
use Rattle.label.specs.declared.Edition.{Edition}
use Rattle.label.specs.Formats.{rule_of, as_fields, as_elements}
use Rattle.label.specs.Layout.{mark, bytes_of, ended}
use Rattle.label.specs.Envelope.{Envelope, fields, whole_rest, segments, elements, text, counted}
use Rattle.label.specs.Written.{piece_row, value_row, rowed, rowed_each, indicator}

-- a field that isn't left out has a fault: it is too short, or too long, or as long as it may be with bytes that it may not have
pub data FieldLacks (v : Version) (i : ℕ) (f : Bytes) (r : Reason) : Type 0 where
  too_short : r ≡ FieldTooShort → length f < (limit_of (version_row v) i).0 → FieldLacks v i f r
  too_long : r ≡ FieldTooLong → (limit_of (version_row v) i).1 < length f → FieldLacks v i f r
  bad_bytes : r ≡ BadFieldBytes → long_as (limit_of (version_row v) i) f ≡ true → get_or (field_bytes v) i (every plain) f ≡ false → FieldLacks v i f r

-- fields of a version have a fault, and some of them stand in front of it
pub data FieldsLack (v : Version) (fs front : List Bytes) (r : Reason) : Type 0 where
  -- 30: their number is wrong, and none stands in front
  bad_count : r ≡ BadFieldCount → count_fits v fs ≡ false → front ≡ [] → FieldsLack v fs front r
  -- 30: their number is right and the last one, past the fifth, is empty; all the others stand in front, whatever they hold
  empty_last : r ≡ BadFieldCount → count_fits v fs ≡ true → fs ≡ front ++ ([] ∷ []) → least_fields ≤ length front → FieldsLack v fs front r
  -- 31 to 33: their number is right and the last one isn't so empty; faultless ones stand in front, and the next has that fault
  at_field : count_fits v fs ≡ true → last_is_empty (drop least_fields fs) ≡ false → fields_from v 0 front ≡ true
      → (f : Bytes) (more : List Bytes) → fs ≡ front ++ (f ∷ more) → left_out (length front) f ≡ false → FieldLacks v (length front) f r → FieldsLack v fs front r

-- elements have a fault: faultless ones stand in front, and the next isn't as its format has it
pub data ElementsLack (is_element : Bytes → Bool) (es front : List Bytes) (r : Reason) : Type 0 where
  at_element : r ≡ BodyBreaksRules → every is_element front ≡ true → (e : Bytes) (more : List Bytes) → es ≡ front ++ (e ∷ more) → is_element e ≡ false → ElementsLack is_element es front r

-- the bytes of an envelope in front of a field or an element: indicator, header, and those before it, each with its GS
abbrev pub ahead_of_field : ℕ → Version → List Bytes → Bytes
ahead_of_field f v front = bytes_of (indicator f ∷ mark GS ∷ rowed value_row f (version_digits v) ∷ ended GS (rowed_each piece_row f front))

abbrev pub ahead_of_element : ℕ → List Bytes → Bytes
ahead_of_element f front = bytes_of (indicator f ∷ mark GS ∷ ended GS (rowed_each piece_row f front))

-- 01: fields of plain bytes with a fault
pub record FaultInFields (edition : Edition) (f : ℕ) (v : Version) (fs : List Bytes) (r : Reason) (ahead : Bytes) : Type 0 where
  pub known : rule_of edition f ≡ as_fields
  pub one_or_more : is_empty fs ≡ false
  pub plain_bytes : every (every plain) fs ≡ true
  pub front : List Bytes
  pub fault : FieldsLack v fs front r
  pub in_front_of_it : ahead ≡ ahead_of_field f v front

-- 05, 06, 12: elements of plain bytes with a fault
pub record FaultInElements (edition : Edition) (f : ℕ) (es : List Bytes) (r : Reason) (ahead : Bytes) : Type 0 where
  pub is_element : Bytes → Bool
  pub known : rule_of edition f ≡ as_elements is_element
  pub one_or_more : is_empty es ≡ false
  pub plain_bytes : every (every plain) es ≡ true
  pub front : List Bytes
  pub fault : ElementsLack is_element es front r
  pub in_front_of_it : ahead ≡ ahead_of_element f front

-- a fault in an envelope, and its bytes in front of where the fault starts; in the other formats no piece is at fault by itself
abbrev pub FaultIn : Edition → Envelope → Reason → Bytes → Type 0
FaultIn edition (fields f v fs) r ahead = FaultInFields edition f v fs r ahead
FaultIn edition (whole_rest f body) r ahead = ⊥
FaultIn edition (segments f header ss) r ahead = ⊥
FaultIn edition (elements f es) r ahead = FaultInElements edition f es r ahead
FaultIn edition (text f body) r ahead = ⊥
FaultIn edition (counted f vs n payload) r ahead = ⊥
