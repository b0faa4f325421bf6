-- The places of document 01 that can be read in two ways, and messages with several faults at once, whose order decides: what the reading definition
-- makes of each (docs/DECISIONS.md, the readings). A faulty field or element has its number and place by document 02, No. 1, whose own readings are in
-- Faults. By computation. H is `[)>` RS.
use Prim.Native.Nat.{ℕ}
use mathlib.Core.Path.{◌≡◌, refl}
use mathlib.Core.List.{List, [], ◌∷◌, ◌++◌, map}
use lib.ListN.{replicate}
use Rattle.label.specs.declared.Edition.{Edition}
use Rattle.label.specs.declared.Edition.TheVariants.{Edition2005, Edition2025}
use Rattle.label.specs.Bytes.{Bytes, ascii}
use Rattle.label.specs.Answer.{read_answer}
use Rattle.label.proofs.AllDefinitions.{all_definitions}
use Rattle.cases.proofs.Cases.{Case, Stand}

-- Reading 1: the place of 3 is where the indicator is due

-- H `0x`
abbrev odd_indicator : Case
odd_indicator = record { input = ascii "[)>\u{1e}0x"; lines = (3 ∷ 4 ∷ []) ∷ [] }

-- H `0`
abbrev half_indicator : Case
half_indicator = record { input = ascii "[)>\u{1e}0"; lines = (3 ∷ 4 ∷ []) ∷ [] }

-- a good envelope, then `0`: 3, not 4
abbrev half_late_indicator : Case
half_late_indicator = record { input = ascii "[)>\u{1e}06\u{1d}1P7\u{1e}0"; lines = (3 ∷ 11 ∷ []) ∷ [] }

-- Reading 2: the first offset that differs, or the length if cut short

-- `[)<` RS
abbrev other_header : Case
other_header = record { input = ascii "[)<\u{1e}"; lines = (2 ∷ 2 ∷ []) ∷ [] }

-- `[)`
abbrev cut_header : Case
cut_header = record { input = ascii "[)"; lines = (2 ∷ 2 ∷ []) ∷ [] }

-- `[>`
abbrev cut_other_header : Case
cut_other_header = record { input = ascii "[>"; lines = (2 ∷ 1 ∷ []) ∷ [] }

-- Reading 4: an indicator, then the end

-- H `08`
abbrev end08 : Case
end08 = record { input = ascii "[)>\u{1e}08"; lines = (6 ∷ 4 ∷ []) ∷ [] }

-- H `01`
abbrev end01 : Case
end01 = record { input = ascii "[)>\u{1e}01"; lines = (8 ∷ 4 ∷ []) ∷ [] }

-- H `03`
abbrev end03 : Case
end03 = record { input = ascii "[)>\u{1e}03"; lines = (8 ∷ 4 ∷ []) ∷ [] }

-- H `04`
abbrev end04 : Case
end04 = record { input = ascii "[)>\u{1e}04"; lines = (8 ∷ 4 ∷ []) ∷ [] }

-- H `05`
abbrev end05 : Case
end05 = record { input = ascii "[)>\u{1e}05"; lines = (8 ∷ 4 ∷ []) ∷ [] }

-- H `06`
abbrev end06 : Case
end06 = record { input = ascii "[)>\u{1e}06"; lines = (8 ∷ 4 ∷ []) ∷ [] }

-- H `09`
abbrev end09 : Case
end09 = record { input = ascii "[)>\u{1e}09"; lines = (8 ∷ 4 ∷ []) ∷ [] }

-- H `07`: it has no header to cut
abbrev end07 : Case
end07 = record { input = ascii "[)>\u{1e}07"; lines = (12 ∷ 4 ∷ []) ∷ [] }

-- H `02`
abbrev end02 : Case
end02 = record { input = ascii "[)>\u{1e}02"; lines = (11 ∷ 4 ∷ []) ∷ [] }

-- Reading 5 and 6: 7 before 8; a fault of a later envelope has that envelope's place, and comes before 13

-- a second 01, with no header
abbrev second_transport : Case
second_transport = record { input = ascii "[)>\u{1e}01\u{1d}0252001\u{1d}840\u{1d}001\u{1d}1Z004951\u{1d}UPSN\u{1e}01\u{1e}\u{4}"; lines = (7 ∷ 37 ∷ []) ∷ [] }

-- 02 after an envelope
abbrev late_rest : Case
late_rest = record { input = ascii "[)>\u{1e}06\u{1d}1P7\u{1e}02X"; lines = (7 ∷ 11 ∷ []) ∷ [] }

-- a later envelope without its header
abbrev late_header : Case
late_header = record { input = ascii "[)>\u{1e}06\u{1d}1P7\u{1e}06\u{1e}\u{4}"; lines = (8 ∷ 11 ∷ []) ∷ [] }

-- Reading 7: format 02 takes all the rest

-- H `02` RS EOT
abbrev rest_with_rs : Case
rest_with_rs = record { input = ascii "[)>\u{1e}02\u{1e}\u{4}"; lines = (10 ∷ 4 ∷ []) ∷ [] }

-- H `02X` EOT
abbrev rest_with_eot : Case
rest_with_eot = record { input = ascii "[)>\u{1e}02X\u{4}"; lines = (10 ∷ 4 ∷ []) ∷ [] }

-- H `02` GS
abbrev rest_with_gs : Case
rest_with_gs = record { input = ascii "[)>\u{1e}02\u{1d}"; lines = (0 ∷ 1 ∷ 2 ∷ []) ∷ (1 ∷ 2 ∷ 4 ∷ 2 ∷ 0 ∷ []) ∷ (7 ∷ 2 ∷ 6 ∷ 1 ∷ 0 ∷ []) ∷ [] }

-- Reading 8 and 9: versions, and what must be there

-- version 06
abbrev version06 : Case
version06 = record { input = ascii "[)>\u{1e}01\u{1d}0652001\u{1d}840\u{1d}001\u{1d}1Z004951\u{1d}UPSN\u{1e}\u{4}"; lines = (8 ∷ 4 ∷ []) ∷ [] }

-- version 56
abbrev version56 : Case
version56 = record { input = ascii "[)>\u{1e}01\u{1d}5652001\u{1d}840\u{1d}001\u{1d}1Z004951\u{1d}UPSN\u{1e}\u{4}"; lines = (8 ∷ 4 ∷ []) ∷ [] }

-- version 02 with an empty postal code
abbrev no_postal_code02 : Case
no_postal_code02 = record { input = ascii "[)>\u{1e}01\u{1d}02\u{1d}840\u{1d}001\u{1d}1Z\u{1d}UP\u{1e}\u{4}"; lines = (0 ∷ 1 ∷ 7 ∷ []) ∷ (1 ∷ 1 ∷ 4 ∷ 2 ∷ 0 ∷ []) ∷ (2 ∷ 1 ∷ 7 ∷ 2 ∷ 0 ∷ []) ∷ (3 ∷ 1 ∷ 9 ∷ 0 ∷ 0 ∷ []) ∷ (3 ∷ 1 ∷ 10 ∷ 3 ∷ 0 ∷ []) ∷ (3 ∷ 1 ∷ 14 ∷ 3 ∷ 0 ∷ []) ∷ (3 ∷ 1 ∷ 18 ∷ 2 ∷ 0 ∷ []) ∷ (3 ∷ 1 ∷ 21 ∷ 2 ∷ 0 ∷ []) ∷ [] }

-- version 96 with an empty postal code: 31 at it
abbrev no_postal_code96 : Case
no_postal_code96 = record { input = ascii "[)>\u{1e}01\u{1d}96\u{1d}840\u{1d}001\u{1d}1Z\u{1d}UP\u{1e}\u{4}"; lines = (31 ∷ 9 ∷ []) ∷ [] }

-- four fields: 30 at the first
abbrev four_fields : Case
four_fields = record { input = ascii "[)>\u{1e}01\u{1d}02\u{1d}840\u{1d}001\u{1d}1Z\u{1e}\u{4}"; lines = (30 ∷ 9 ∷ []) ∷ [] }

-- an empty sixth field that is the last: 30 at it
abbrev empty_last_field : Case
empty_last_field = record { input = ascii "[)>\u{1e}01\u{1d}02\u{1d}840\u{1d}001\u{1d}1Z\u{1d}UP\u{1d}\u{1e}\u{4}"; lines = (30 ∷ 24 ∷ []) ∷ [] }

-- fields 6 to 8 empty, field 9 `1/1`
abbrev empty_later_fields : Case
empty_later_fields = record { input = ascii "[)>\u{1e}01\u{1d}02\u{1d}840\u{1d}001\u{1d}1Z\u{1d}UP\u{1d}\u{1d}\u{1d}\u{1d}1/1\u{1e}\u{4}"; lines = (0 ∷ 1 ∷ 11 ∷ []) ∷ (1 ∷ 1 ∷ 4 ∷ 2 ∷ 0 ∷ []) ∷ (2 ∷ 1 ∷ 7 ∷ 2 ∷ 0 ∷ []) ∷ (3 ∷ 1 ∷ 9 ∷ 0 ∷ 0 ∷ []) ∷ (3 ∷ 1 ∷ 10 ∷ 3 ∷ 0 ∷ []) ∷ (3 ∷ 1 ∷ 14 ∷ 3 ∷ 0 ∷ []) ∷ (3 ∷ 1 ∷ 18 ∷ 2 ∷ 0 ∷ []) ∷ (3 ∷ 1 ∷ 21 ∷ 2 ∷ 0 ∷ []) ∷ (3 ∷ 1 ∷ 24 ∷ 0 ∷ 0 ∷ []) ∷ (3 ∷ 1 ∷ 25 ∷ 0 ∷ 0 ∷ []) ∷ (3 ∷ 1 ∷ 26 ∷ 0 ∷ 0 ∷ []) ∷ (3 ∷ 1 ∷ 27 ∷ 3 ∷ 0 ∷ []) ∷ [] }

-- version 02 with fifteen fields
abbrev name02 : Case
name02 = record { input = ascii "[)>\u{1e}01\u{1d}02\u{1d}840\u{1d}1\u{1d}1\u{1d}UP\u{1d}\u{1d}\u{1d}\u{1d}\u{1d}\u{1d}\u{1d}\u{1d}\u{1d}\u{1d}A\u{1e}\u{4}"; lines = (0 ∷ 1 ∷ 17 ∷ []) ∷ (1 ∷ 1 ∷ 4 ∷ 2 ∷ 0 ∷ []) ∷ (2 ∷ 1 ∷ 7 ∷ 2 ∷ 0 ∷ []) ∷ (3 ∷ 1 ∷ 9 ∷ 0 ∷ 0 ∷ []) ∷ (3 ∷ 1 ∷ 10 ∷ 3 ∷ 0 ∷ []) ∷ (3 ∷ 1 ∷ 14 ∷ 1 ∷ 0 ∷ []) ∷ (3 ∷ 1 ∷ 16 ∷ 1 ∷ 0 ∷ []) ∷ (3 ∷ 1 ∷ 18 ∷ 2 ∷ 0 ∷ []) ∷ (3 ∷ 1 ∷ 21 ∷ 0 ∷ 0 ∷ []) ∷ (3 ∷ 1 ∷ 22 ∷ 0 ∷ 0 ∷ []) ∷ (3 ∷ 1 ∷ 23 ∷ 0 ∷ 0 ∷ []) ∷ (3 ∷ 1 ∷ 24 ∷ 0 ∷ 0 ∷ []) ∷ (3 ∷ 1 ∷ 25 ∷ 0 ∷ 0 ∷ []) ∷ (3 ∷ 1 ∷ 26 ∷ 0 ∷ 0 ∷ []) ∷ (3 ∷ 1 ∷ 27 ∷ 0 ∷ 0 ∷ []) ∷ (3 ∷ 1 ∷ 28 ∷ 0 ∷ 0 ∷ []) ∷ (3 ∷ 1 ∷ 29 ∷ 0 ∷ 0 ∷ []) ∷ (3 ∷ 1 ∷ 30 ∷ 1 ∷ 0 ∷ []) ∷ [] }

-- version 96 with fifteen fields: 30 at the first
abbrev name96 : Case
name96 = record { input = ascii "[)>\u{1e}01\u{1d}96ABC\u{1d}840\u{1d}1\u{1d}1\u{1d}UP\u{1d}\u{1d}\u{1d}\u{1d}\u{1d}\u{1d}\u{1d}\u{1d}\u{1d}\u{1d}A\u{1e}\u{4}"; lines = (30 ∷ 9 ∷ []) ∷ [] }

-- Reading 10: empty bodies; in 01, 05 and 06 the place is that of the one empty piece

-- format 01: one field
abbrev empty_fields : Case
empty_fields = record { input = ascii "[)>\u{1e}01\u{1d}02\u{1e}\u{4}"; lines = (30 ∷ 9 ∷ []) ∷ [] }

-- format 03
abbrev empty_segments03 : Case
empty_segments03 = record { input = ascii "[)>\u{1e}03004010\u{1c}\u{1d}\u{1f}\u{1e}\u{4}"; lines = (11 ∷ 4 ∷ []) ∷ [] }

-- format 04
abbrev empty_segments : Case
empty_segments = record { input = ascii "[)>\u{1e}04004010\u{1c}\u{1d}\u{1f}\u{1e}\u{4}"; lines = (11 ∷ 4 ∷ []) ∷ [] }

-- format 05
abbrev empty_elements05 : Case
empty_elements05 = record { input = ascii "[)>\u{1e}05\u{1d}\u{1e}\u{4}"; lines = (11 ∷ 7 ∷ []) ∷ [] }

-- format 06
abbrev empty_elements : Case
empty_elements = record { input = ascii "[)>\u{1e}06\u{1d}\u{1e}\u{4}"; lines = (11 ∷ 7 ∷ []) ∷ [] }

-- format 09 with count zero
abbrev empty_payload : Case
empty_payload = record { input = ascii "[)>\u{1e}09\u{1d}A\u{1d}\u{1d}0\u{1d}\u{1e}\u{4}"; lines = (0 ∷ 1 ∷ 5 ∷ []) ∷ (1 ∷ 9 ∷ 4 ∷ 2 ∷ 0 ∷ []) ∷ (2 ∷ 9 ∷ 7 ∷ 1 ∷ 0 ∷ []) ∷ (2 ∷ 9 ∷ 9 ∷ 0 ∷ 0 ∷ []) ∷ (2 ∷ 9 ∷ 10 ∷ 1 ∷ 0 ∷ []) ∷ (7 ∷ 9 ∷ 12 ∷ 0 ∷ 0 ∷ []) ∷ [] }

-- Reading 11: FS ends a segment; `BIN`

-- `N1` FS FS
abbrev empty_segment : Case
empty_segment = record { input = ascii "[)>\u{1e}03004010\u{1c}\u{1d}\u{1f}N1\u{1c}\u{1c}\u{1e}\u{4}"; lines = (11 ∷ 4 ∷ []) ∷ [] }

-- `N1` without its FS
abbrev unended_segment : Case
unended_segment = record { input = ascii "[)>\u{1e}03004010\u{1c}\u{1d}\u{1f}N1\u{1e}\u{4}"; lines = (11 ∷ 4 ∷ []) ∷ [] }

-- `BIN` in 03
abbrev binary03 : Case
binary03 = record { input = ascii "[)>\u{1e}03004010\u{1c}\u{1d}\u{1f}BIN\u{1c}\u{1e}\u{4}"; lines = (11 ∷ 4 ∷ []) ∷ [] }

-- `BIN` in 04
abbrev binary04 : Case
binary04 = record { input = ascii "[)>\u{1e}04004010\u{1c}\u{1d}\u{1f}BIN\u{1c}\u{1e}\u{4}"; lines = (0 ∷ 1 ∷ 3 ∷ []) ∷ (1 ∷ 4 ∷ 4 ∷ 2 ∷ 0 ∷ []) ∷ (2 ∷ 4 ∷ 6 ∷ 6 ∷ 0 ∷ []) ∷ (4 ∷ 4 ∷ 15 ∷ 3 ∷ 0 ∷ []) ∷ [] }

-- `BIN` in 03, but not as a tag
abbrev binary_element : Case
binary_element = record { input = ascii "[)>\u{1e}03004010\u{1c}\u{1d}\u{1f}N1\u{1d}BIN\u{1c}\u{1e}\u{4}"; lines = (0 ∷ 1 ∷ 4 ∷ []) ∷ (1 ∷ 3 ∷ 4 ∷ 2 ∷ 0 ∷ []) ∷ (2 ∷ 3 ∷ 6 ∷ 6 ∷ 0 ∷ []) ∷ (4 ∷ 3 ∷ 15 ∷ 2 ∷ 0 ∷ []) ∷ (5 ∷ 3 ∷ 18 ∷ 3 ∷ 0 ∷ []) ∷ [] }

-- `BIM` in 03
abbrev nearly_binary : Case
nearly_binary = record { input = ascii "[)>\u{1e}03004010\u{1c}\u{1d}\u{1f}BIM\u{1c}\u{1e}\u{4}"; lines = (0 ∷ 1 ∷ 3 ∷ []) ∷ (1 ∷ 3 ∷ 4 ∷ 2 ∷ 0 ∷ []) ∷ (2 ∷ 3 ∷ 6 ∷ 6 ∷ 0 ∷ []) ∷ (4 ∷ 3 ∷ 15 ∷ 3 ∷ 0 ∷ []) ∷ [] }

-- `Bi` in 03
abbrev half_binary : Case
half_binary = record { input = ascii "[)>\u{1e}03004010\u{1c}\u{1d}\u{1f}BI\u{1c}\u{1e}\u{4}"; lines = (0 ∷ 1 ∷ 3 ∷ []) ∷ (1 ∷ 3 ∷ 4 ∷ 2 ∷ 0 ∷ []) ∷ (2 ∷ 3 ∷ 6 ∷ 6 ∷ 0 ∷ []) ∷ (4 ∷ 3 ∷ 15 ∷ 2 ∷ 0 ∷ []) ∷ [] }

-- Reading 12 and 13: permitted bytes go by the format; a bad byte in a header is 8; 12, then 10, then 11, or in 01 30 to 33

-- a letter in the country: 33 at it
abbrev letter_in_country : Case
letter_in_country = record { input = ascii "[)>\u{1e}01\u{1d}02\u{1d}84A\u{1d}001\u{1d}1Z\u{1d}UP\u{1e}\u{4}"; lines = (33 ∷ 10 ∷ []) ∷ [] }

-- 7F in the country
abbrev delete_in_country : Case
delete_in_country = record { input = ascii "[)>\u{1e}01\u{1d}02\u{1d}84\u{7f}\u{1d}001\u{1d}1Z\u{1d}UP\u{1e}\u{4}"; lines = (10 ∷ 4 ∷ []) ∷ [] }

-- US in 01
abbrev unit_in_fields : Case
unit_in_fields = record { input = ascii "[)>\u{1e}01\u{1d}02\u{1f}\u{1e}\u{4}"; lines = (10 ∷ 4 ∷ []) ∷ [] }

-- FS in 05
abbrev segment_end_in_element05 : Case
segment_end_in_element05 = record { input = ascii "[)>\u{1e}05\u{1d}01\u{1c}\u{1e}\u{4}"; lines = (10 ∷ 4 ∷ []) ∷ [] }

-- FS in 06
abbrev segment_end_in_element06 : Case
segment_end_in_element06 = record { input = ascii "[)>\u{1e}06\u{1d}Q\u{1c}3\u{1e}\u{4}"; lines = (10 ∷ 4 ∷ []) ∷ [] }

-- 7F in 04
abbrev delete_in_segment : Case
delete_in_segment = record { input = ascii "[)>\u{1e}04004010\u{1c}\u{1d}\u{1f}N1\u{1d}\u{7f}\u{1c}\u{1e}\u{4}"; lines = (10 ∷ 4 ∷ []) ∷ [] }

-- US in a tag
abbrev tagged_us : Case
tagged_us = record { input = ascii "[)>\u{1e}03004010\u{1c}\u{1d}\u{1f}N1\u{1f}A\u{1c}\u{1e}\u{4}"; lines = (11 ∷ 4 ∷ []) ∷ [] }

-- 7F where GS is due
abbrev delete_in_header : Case
delete_in_header = record { input = ascii "[)>\u{1e}06\u{7f}Q3\u{1e}\u{4}"; lines = (8 ∷ 4 ∷ []) ∷ [] }

-- no RS, a byte not permitted, a rule broken
abbrev no_rs : Case
no_rs = record { input = ascii "[)>\u{1e}06\u{1d}\u{7f}"; lines = (12 ∷ 4 ∷ []) ∷ [] }

-- a byte not permitted and a rule broken
abbrev not_permitted : Case
not_permitted = record { input = ascii "[)>\u{1e}06\u{1d}\u{7f}\u{1e}\u{4}"; lines = (10 ∷ 4 ∷ []) ∷ [] }

-- EOT in a text body
abbrev trailer_in_text : Case
trailer_in_text = record { input = ascii "[)>\u{1e}07A\u{4}\u{1e}\u{4}"; lines = (10 ∷ 4 ∷ []) ∷ [] }

-- Reading 14: counts

-- count `03`
abbrev leading_zero : Case
leading_zero = record { input = ascii "[)>\u{1e}09\u{1d}A\u{1d}\u{1d}03\u{1d}\u{1e}\u{4}\u{1d}\u{1e}\u{4}"; lines = (0 ∷ 1 ∷ 5 ∷ []) ∷ (1 ∷ 9 ∷ 4 ∷ 2 ∷ 0 ∷ []) ∷ (2 ∷ 9 ∷ 7 ∷ 1 ∷ 0 ∷ []) ∷ (2 ∷ 9 ∷ 9 ∷ 0 ∷ 0 ∷ []) ∷ (2 ∷ 9 ∷ 10 ∷ 2 ∷ 0 ∷ []) ∷ (7 ∷ 9 ∷ 13 ∷ 3 ∷ 0 ∷ []) ∷ [] }

-- fifteen digits, far too many bytes
abbrev fifteen_digits : Case
fifteen_digits = record { input = ascii "[)>\u{1e}09\u{1d}A\u{1d}\u{1d}999999999999999\u{1d}\u{1e}\u{4}"; lines = (9 ∷ 4 ∷ []) ∷ [] }

-- sixteen digits
abbrev sixteen_digits : Case
sixteen_digits = record { input = ascii "[)>\u{1e}09\u{1d}A\u{1d}\u{1d}0000000000000000\u{1d}\u{1e}\u{4}"; lines = (8 ∷ 4 ∷ []) ∷ [] }

-- a payload of three bytes where RS stands behind two
abbrev rs_too_early : Case
rs_too_early = record { input = ascii "[)>\u{1e}09\u{1d}A\u{1d}\u{1d}3\u{1d}AB\u{1e}\u{4}"; lines = (9 ∷ 4 ∷ []) ∷ [] }

-- a payload whose RS is the last byte: it fits, and the end is missing
abbrev payload_to_the_end : Case
payload_to_the_end = record { input = ascii "[)>\u{1e}09\u{1d}A\u{1d}\u{1d}2\u{1d}XY\u{1e}"; lines = (4 ∷ 15 ∷ []) ∷ [] }

-- the same with a count of one more
abbrev payload_past_the_end : Case
payload_past_the_end = record { input = ascii "[)>\u{1e}09\u{1d}A\u{1d}\u{1d}3\u{1d}XY\u{1e}"; lines = (9 ∷ 4 ∷ []) ∷ [] }

abbrev pub readings : List Case
readings =
    odd_indicator ∷ half_indicator ∷ half_late_indicator
    ∷ other_header ∷ cut_header ∷ cut_other_header
    ∷ end08 ∷ end01 ∷ end03 ∷ end04 ∷ end05 ∷ end06 ∷ end09 ∷ end07 ∷ end02
    ∷ second_transport ∷ late_rest ∷ late_header
    ∷ rest_with_rs ∷ rest_with_eot ∷ rest_with_gs
    ∷ version06 ∷ version56 ∷ no_postal_code02 ∷ no_postal_code96 ∷ four_fields ∷ empty_last_field ∷ empty_later_fields ∷ name02 ∷ name96
    ∷ empty_fields ∷ empty_segments03 ∷ empty_segments ∷ empty_elements05 ∷ empty_elements ∷ empty_payload
    ∷ empty_segment ∷ unended_segment ∷ binary03 ∷ binary04 ∷ binary_element ∷ nearly_binary ∷ half_binary
    ∷ letter_in_country ∷ delete_in_country ∷ unit_in_fields ∷ segment_end_in_element05 ∷ segment_end_in_element06 ∷ delete_in_segment ∷ tagged_us ∷ delete_in_header ∷ no_rs ∷ not_permitted ∷ trailer_in_text
    ∷ leading_zero ∷ fifteen_digits ∷ sixteen_digits ∷ rs_too_early ∷ payload_to_the_end ∷ payload_past_the_end
    ∷ []

pub the_readings : (edition : Edition) → Stand edition readings
unfolding all_definitions
the_readings Edition2005 = refl
the_readings Edition2025 = refl

-- Limits: a message too long is 1 whatever it is; 13 comes after every fault of an envelope and of the end

abbrev concatenated : List Bytes → Bytes
concatenated [] = []
concatenated (bs ∷ rest) = bs ++ concatenated rest

-- `06`, then n elements, RS and what follows
abbrev elements_and : ℕ → Bytes → Bytes
elements_and n after = ascii "06" ++ (concatenated (replicate n (ascii "\u{1d}Q3")) ++ (ascii "\u{1e}" ++ after))

-- the same behind H
abbrev pub many_elements : ℕ → Bytes → Bytes
many_elements n after = ascii "[)>\u{1e}" ++ elements_and n after

-- H `07`, then n bytes of text, RS EOT: n + 8 bytes
abbrev pub long_text : ℕ → Bytes
long_text n = ascii "[)>\u{1e}07" ++ (replicate n 0x41 ++ ascii "\u{1e}\u{4}")

-- 1,025 rows, and then another fault
abbrev too_many_and : Bytes → ℕ → ℕ → Case
too_many_and after reason place = record { input = many_elements 1024 after; lines = (reason ∷ place ∷ []) ∷ [] }

-- H `01` GS `02`, fields and RS, and then 1,025 rows: a faulty field comes before 13 too
abbrev too_many_behind : Bytes → ℕ → ℕ → Case
too_many_behind body reason place = record { input = ascii "[)>\u{1e}01\u{1d}02" ++ (body ++ (ascii "\u{1e}" ++ elements_and 1024 (ascii "\u{4}"))); lines = (reason ∷ place ∷ []) ∷ [] }

abbrev pub limit_cases : List Case
limit_cases =
    record { input = replicate 4097 0x41; lines = (1 ∷ 4096 ∷ []) ∷ [] }
    ∷ record { input = replicate 4096 0x41; lines = (2 ∷ 0 ∷ []) ∷ [] }
    ∷ too_many_and (ascii "\u{4}") 13 0
    ∷ too_many_and (ascii "0x") 3 3079
    ∷ too_many_and [] 4 3079
    ∷ too_many_and (ascii "\u{4}\u{4}") 5 3080
    ∷ too_many_and (ascii "08") 6 3079
    ∷ too_many_and (ascii "01") 7 3079
    ∷ too_many_and (ascii "06\u{1e}\u{4}") 8 3079
    ∷ too_many_and (ascii "09\u{1d}A\u{1d}\u{1d}2\u{1d}\u{1e}\u{4}") 9 3079
    ∷ too_many_and (ascii "07\u{4}\u{1e}\u{4}") 10 3079
    ∷ too_many_and (ascii "06\u{1d}\u{1e}\u{4}") 11 3082
    ∷ too_many_and (ascii "07") 12 3079
    -- good fields; four; a country too short, too long and with a letter
    ∷ too_many_behind (ascii "\u{1d}840\u{1d}1\u{1d}1Z\u{1d}UP") 13 0
    ∷ too_many_behind (ascii "\u{1d}840\u{1d}1\u{1d}1Z") 30 9
    ∷ too_many_behind (ascii "\u{1d}84\u{1d}1\u{1d}1Z\u{1d}UP") 31 10
    ∷ too_many_behind (ascii "\u{1d}8400\u{1d}1\u{1d}1Z\u{1d}UP") 32 10
    ∷ too_many_behind (ascii "\u{1d}84A\u{1d}1\u{1d}1Z\u{1d}UP") 33 10
    ∷ []

pub the_limits : (edition : Edition) → Stand edition limit_cases
unfolding all_definitions
the_limits Edition2005 = refl
the_limits Edition2025 = refl

-- Reading 6 and both limits at both edges: what is answered for a table's room; 13 comes before 14

pub record RoomCase : Type 0 where
  pub input : Bytes
  pub room : ℕ
  pub answer : List ℕ

abbrev pub rooms : List RoomCase
rooms =
    record { input = long_text 4088; room = 2; answer = 0 ∷ 1 ∷ 2 ∷ [] }
    ∷ record { input = long_text 4088; room = 1; answer = 14 ∷ 0 ∷ [] }
    ∷ record { input = long_text 4089; room = 2; answer = 1 ∷ 4096 ∷ [] }
    ∷ record { input = many_elements 1023 (ascii "\u{4}"); room = 1024; answer = 0 ∷ 1 ∷ 1024 ∷ [] }
    ∷ record { input = many_elements 1023 (ascii "\u{4}"); room = 1023; answer = 14 ∷ 0 ∷ [] }
    ∷ record { input = many_elements 1024 (ascii "\u{4}"); room = 1025; answer = 13 ∷ 0 ∷ [] }
    ∷ record { input = many_elements 1024 (ascii "\u{4}"); room = 1024; answer = 13 ∷ 0 ∷ [] }
    ∷ []

pub the_room : (edition : Edition) → map (λ (c : RoomCase). read_answer edition c.input c.room) rooms ≡ map (λ (c : RoomCase). c.answer) rooms
unfolding all_definitions
the_room Edition2005 = refl
the_room Edition2025 = refl
