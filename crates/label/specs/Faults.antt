-- Which fault a body has that breaks its format's rules, and where in the body it is (02, No. 1). Which bodies keep the rules is said in Fields and
-- Elements; this is asked only of those that don't. Offsets count from the body's start.
use Rattle.std.specs.Prelude.{ℕ, ◌+◌, Bool, ◌&&◌, cond, List, [], ◌∷◌, length, get_or, drop, leb, ltb, None, Option, Some}
use Rattle.label.specs.declared.Reason.{Reason}
use Rattle.label.specs.declared.Reason.TheVariants.{BodyBreaksRules, BadFieldCount, FieldTooShort, FieldTooLong, BadFieldBytes}
use Rattle.label.specs.Bytes.{Bytes, GS, plain, every, is_empty}
use Rattle.label.specs.Pieces.{pieces, last_is_empty}
use Rattle.label.specs.Limits.{limit_of}
use Rattle.label.specs.declared.Version.{Version}
use Rattle.label.specs.Fields.{field_bytes, version_row, most_fields, least_fields}
use Rattle.label.specs.declared.Refusal.{Refusal}

-- why a piece is refused that starts at an offset
abbrev pub in_piece : Reason → ℕ → Option Refusal
in_piece reason at = Some (record { reason = reason; place = at })

-- Pieces from the left

-- the fault of a piece that starts at an offset, or else what is found behind it
abbrev pub fault_or : Option Reason → ℕ → Option Refusal → Option Refusal
fault_or (Some reason) at next = in_piece reason at
fault_or None at next = next

-- the first faulty piece and where it starts: pieces numbered from i on, the first of which starts at an offset
abbrev pub first_fault : (ℕ → Bytes → Option Reason) → ℕ → ℕ → List Bytes → Option Refusal
first_fault fault_of i at [] = None
first_fault fault_of i at (p ∷ ps) = fault_or (fault_of i p) at (first_fault fault_of (i + 1) (at + length p + 1) ps)

-- 05, 06, 12: an element that isn't as its format has it, 11
unfoldable pub element_fault : (Bytes → Bool) → ℕ → Bytes → Option Reason
element_fault is_element i e = cond (is_element e) None (Some BodyBreaksRules)

-- 01: a field past the fifth that is empty is left out
abbrev pub left_out : ℕ → Bytes → Bool
left_out i f = leb least_fields i && is_empty f

-- 01: a field that isn't left out, its length before its bytes: 31, 32, 33
unfoldable pub field_fault : Version → ℕ → Bytes → Option Reason
field_fault v i f =
    cond (left_out i f) None
    (cond (ltb (length f) (limit_of (version_row v) i).0) (Some FieldTooShort)
    (cond (ltb (limit_of (version_row v) i).1 (length f)) (Some FieldTooLong)
    (cond (get_or (field_bytes v) i (every plain) f) None
    (Some BadFieldBytes))))

-- 01: enough fields, and not too many
abbrev pub count_fits : Version → List Bytes → Bool
count_fits v fs = leb least_fields (length fs) && leb (length fs) (most_fields v)

-- 01: the count, 30 where the first field starts; with it an empty last field past the fifth, 30 where that starts, which is the body's end; then the
-- fields from the left
abbrev pub fields_fault_by : Version → ℕ → List Bytes → Option Refusal
fields_fault_by v end fs =
    cond (count_fits v fs)
    (cond (last_is_empty (drop least_fields fs)) (in_piece BadFieldCount end)
    (first_fault (field_fault v) 0 0 fs))
    (in_piece BadFieldCount 0)

unfoldable pub fields_fault : Version → Bytes → Option Refusal
fields_fault v body = fields_fault_by v (length body) (pieces GS body)

unfoldable pub elements_fault : (Bytes → Bool) → Bytes → Option Refusal
elements_fault is_element body = first_fault (element_fault is_element) 0 0 (pieces GS body)

-- no piece is at fault, and the body is refused as a whole: 11 at the indicator
abbrev pub whole_fault : Bytes → Option Refusal
whole_fault body = None
