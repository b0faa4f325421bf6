-- The fault of a body, and of one of its pieces, by the kind of body. Why a piece is refused that isn't as asked is told by its length alone.
use Rattle.std.specs.Prelude.{ℕ, ◌+◌, ◌&&◌, ◌||◌, cond, length, ltb, None, Option, Some}
use Rattle.label.specs.declared.Reason.{Reason}
use Rattle.label.specs.declared.Reason.TheVariants.{BodyBreaksRules, BadFieldCount, FieldTooShort, FieldTooLong, BadFieldBytes}
use Rattle.label.specs.Bytes.{Bytes, GS}
use Rattle.label.specs.Pieces.{pieces, last_is_empty}
use Rattle.label.specs.Limits.{limit_of}
use Rattle.label.specs.declared.Version.{Version}
use Rattle.label.specs.Elements.{element05, element06, element12}
use Rattle.label.specs.Fields.{least_fields, version_row}
use Rattle.label.specs.Faults.{first_fault, fields_fault, elements_fault, whole_fault, in_piece}
use Rattle.leaves.specs.Seek.{tally_of}
use Rattle.pieces.specs.declared.Kind.{Kind}
use Rattle.pieces.specs.declared.Kind.TheVariants.{Fields, Segments03, Segments04, Elements05, Elements06, Text, Elements12}
use Rattle.pieces.specs.PieceTests.{piece_test}
use Rattle.label.specs.declared.Refusal.{Refusal}

-- why a field of a version is refused that isn't as stated
abbrev pub field_reason : Version → ℕ → ℕ → Reason
field_reason v i n =
    cond (ltb n (limit_of (version_row v) i).0) FieldTooShort
    (cond (ltb (limit_of (version_row v) i).1 n) FieldTooLong
    BadFieldBytes)

abbrev pub reason_of : Kind → ℕ → ℕ → Reason
reason_of (Fields v) i n = field_reason v i n
reason_of Segments03 i n = BodyBreaksRules
reason_of Segments04 i n = BodyBreaksRules
reason_of Elements05 i n = BodyBreaksRules
reason_of Elements06 i n = BodyBreaksRules
reason_of Text i n = BodyBreaksRules
reason_of Elements12 i n = BodyBreaksRules

-- the fault of the piece with an index
abbrev pub piece_fault : Kind → ℕ → Bytes → Option Reason
piece_fault k i p = cond (piece_test k i p) None (Some (reason_of k i (length p)))

-- the fault of fields by how many separators there are, the last byte and each field's fault
abbrev pub fields_fault_of : (ℕ → Bytes → Option Reason) → ℕ → Bytes → Option Refusal
fields_fault_of fault_of most body =
    cond (ltb (tally_of GS body + 1) least_fields || ltb most (tally_of GS body + 1)) (in_piece BadFieldCount 0)
    (cond (ltb least_fields (tally_of GS body + 1) && last_is_empty (pieces GS body)) (in_piece BadFieldCount (length body))
    (first_fault fault_of 0 0 (pieces GS body)))

-- the fault of a body that breaks its rules
abbrev pub fault_of : Kind → Bytes → Option Refusal
fault_of (Fields v) body = fields_fault v body
fault_of Segments03 body = whole_fault body
fault_of Segments04 body = whole_fault body
fault_of Elements05 body = elements_fault element05 body
fault_of Elements06 body = elements_fault element06 body
fault_of Text body = whole_fault body
fault_of Elements12 body = elements_fault element12 body
