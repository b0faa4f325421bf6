-- The bodies that run to an RS, by what their formats ask of them: permitted bytes, rules, and how many rows they have.
use Rattle.std.specs.Prelude.{ℕ, ◌+◌, ◌-◌, Bool, true, not, ◌&&◌, ◌||◌, List, [], ◌∷◌, length, take, leb, ltb, eqb}
use Rattle.label.specs.Bytes.{Bytes, FS, GS, US, every}
use Rattle.label.specs.Pieces.{pieces, last_is_empty}
use Rattle.label.specs.Elements.{element05, element06, element12}
use Rattle.label.specs.Segments.{tag, tag03}
use Rattle.label.specs.Fields.{least_fields, transport}
use Rattle.label.specs.Formats.{text_byte}
use Rattle.label.specs.ReadEnvelope.{plain_or_gs, segment_byte, are_segments}
use Rattle.leaves.specs.Seek.{tally_of}
use Rattle.pieces.specs.declared.Kind.{Kind}
use Rattle.pieces.specs.declared.Kind.TheVariants.{Fields, Segments03, Segments04, Elements05, Elements06, Text, Elements12}

abbrev pub permitted_of : Kind → ℕ → Bool
permitted_of (Fields v) = plain_or_gs
permitted_of Segments03 = segment_byte
permitted_of Segments04 = segment_byte
permitted_of Elements05 = plain_or_gs
permitted_of Elements06 = plain_or_gs
permitted_of Text = text_byte
permitted_of Elements12 = plain_or_gs

abbrev pub rules_of : Kind → Bytes → Bool
rules_of (Fields v) body = transport v (pieces GS body)
rules_of Segments03 body = are_segments tag03 body
rules_of Segments04 body = are_segments tag body
rules_of Elements05 body = every element05 (pieces GS body)
rules_of Elements06 body = every element06 (pieces GS body)
rules_of Text body = true
rules_of Elements12 body = every element12 (pieces GS body)

-- how many rows a body has: one for each piece, or for the whole
abbrev pub rows_of_body : Kind → Bytes → ℕ
rows_of_body (Fields v) body = tally_of GS body + 1
rows_of_body Segments03 body = tally_of FS body + tally_of GS body + tally_of US body
rows_of_body Segments04 body = tally_of FS body + tally_of GS body + tally_of US body
rows_of_body Elements05 body = tally_of GS body + 1
rows_of_body Elements06 body = tally_of GS body + 1
rows_of_body Text body = 1
rows_of_body Elements12 body = tally_of GS body + 1

-- at which byte a body is cut into pieces
abbrev pub separator_of : Kind → ℕ
separator_of (Fields v) = GS
separator_of Segments03 = FS
separator_of Segments04 = FS
separator_of Elements05 = GS
separator_of Elements06 = GS
separator_of Text = GS
separator_of Elements12 = GS

-- a test of each piece and its index, from an index on
abbrev pub every_from : (ℕ → Bytes → Bool) → ℕ → List Bytes → Bool
every_from test i [] = true
every_from test i (p ∷ ps) = test i p && every_from test (i + 1) ps

-- fields by how many separators there are, each one's test, and whether the last is empty
abbrev pub fields_of : (ℕ → Bytes → Bool) → ℕ → List Bytes → Bytes → Bool
fields_of test most ps body = leb (least_fields - 1) (tally_of GS body) && ltb (tally_of GS body) most && every_from test 0 ps && (eqb (tally_of GS body) (least_fields - 1) || not (last_is_empty (pieces GS body)))

-- segments by the last byte, and each one's test
abbrev pub segments_of : (ℕ → Bytes → Bool) → ℕ → Bytes → Bool
segments_of test c body = not (eqb (length body) 0) && last_is_empty (pieces FS body) && every_from test 0 (pieces c (take (length body - 1) body))
