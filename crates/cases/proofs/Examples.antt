-- A good message of each format, each version and each position, so that no rule is one that nothing keeps (01, Envelope rules). Every list is written out
-- by hand, and good by computation; in either edition, those of 12 and 15 in that of 2025 (02, No. 3).
use mathlib.Core.Path.{refl}
use mathlib.Core.List.{List, [], ◌∷◌}
use Rattle.label.specs.declared.Edition.{Edition}
use Rattle.label.specs.declared.Edition.TheVariants.{Edition2025}
use Rattle.label.specs.Bytes.{ascii, EOT, GS, RS}
use Rattle.label.specs.Values.{type_length, compression_length}
use Rattle.label.specs.declared.Version.TheVariants.{Version02, Version96}
use Rattle.label.specs.Segments.{Segment, tag, tag03}
use Rattle.label.specs.Elements.{element05, element06, element12}
use Rattle.label.specs.Formats.{rest_byte, text_byte}
use Rattle.label.specs.Envelope.{Envelope, fields, whole_rest, segments, elements, text, counted, Within}
use Rattle.label.specs.Message.{message, Each, Good}
use Rattle.label.proofs.AllDefinitions.{all_definitions}
use Rattle.cases.proofs.Cases.{◌and◌, good}

-- 01: the five fields that must be there, the postal code empty, as version 02 allows
abbrev least_transport : Envelope
least_transport = fields 1 Version02 ([] ∷ ascii "840" ∷ ascii "1" ∷ ascii "1Z" ∷ ascii "UPSN" ∷ [])

-- 01: all fifteen fields of version 02, one left out in between
abbrev most_transport02 : Envelope
most_transport02 =
    fields 1 Version02
    (ascii "841706672" ∷ ascii "840" ∷ ascii "001" ∷ ascii "1Z12345675" ∷ ascii "UPSN" ∷ ascii "12345E" ∷ ascii "089" ∷ [] ∷ ascii "1/1" ∷ ascii "12.5LB"
    ∷ ascii "Y" ∷ ascii "STREET" ∷ ascii "CITY" ∷ ascii "UT" ∷ ascii "NAME" ∷ [])

-- 01: a weight in the other unit, as the last field
abbrev kilograms : Envelope
kilograms = fields 1 Version02 ([] ∷ ascii "840" ∷ ascii "1" ∷ ascii "1Z" ∷ ascii "UPSN" ∷ [] ∷ [] ∷ [] ∷ [] ∷ ascii "5KG" ∷ [])

-- 01: all fourteen fields of version 96
abbrev most_transport96 : Envelope
most_transport96 =
    fields 1 Version96
    (ascii "841" ∷ ascii "840" ∷ ascii "001" ∷ ascii "1Z12345675" ∷ ascii "UPSN" ∷ ascii "12345E" ∷ ascii "089" ∷ ascii "7" ∷ ascii "1/1" ∷ ascii "10"
    ∷ ascii "N" ∷ ascii "STREET" ∷ ascii "CITY" ∷ ascii "UT" ∷ [])

abbrev rest : Envelope
rest = whole_rest 2 (ascii "UNA:+.? '")

-- a tag alone, and a segment with an empty element and sub-elements
abbrev two_segments : List Segment
two_segments = ((ascii "ISA" ∷ []) ∷ []) ∷ ((ascii "N1" ∷ []) ∷ ([] ∷ []) ∷ (ascii "A" ∷ [] ∷ ascii "B" ∷ []) ∷ []) ∷ []

abbrev segments03 : Envelope
segments03 = segments 3 (ascii "004010") two_segments

-- 04 has the tag that 03 hasn't
abbrev segments04 : Envelope
segments04 = segments 4 (ascii "D96A01") (((ascii "BIN" ∷ []) ∷ (ascii "1" ∷ []) ∷ []) ∷ [])

abbrev elements05 : Envelope
elements05 = elements 5 (ascii "0112345678901231" ∷ ascii "10A" ∷ [])

-- 06: no digit before the capital, and three
abbrev elements06 : Envelope
elements06 = elements 6 (ascii "Q3" ∷ ascii "123P7" ∷ [])

abbrev some_text : Envelope
some_text = text 7 (ascii "FREE TEXT")

abbrev no_text : Envelope
no_text = text 7 []

-- 09: a payload of control bytes, its count with leading zeros; and none
abbrev payload : Envelope
payload = counted 9 (ascii "JPEG" ∷ ascii "ZIP" ∷ []) (ascii "003") (RS ∷ EOT ∷ GS ∷ [])

abbrev no_payload : Envelope
no_payload = counted 9 (ascii "A" ∷ [] ∷ []) (ascii "0") []

-- alone; and in every place but 01 not first and 02 with others: first, between and last
abbrev pub examples : List (List Envelope)
examples =
    (least_transport ∷ [])
    ∷ (most_transport02 ∷ [])
    ∷ (kilograms ∷ [])
    ∷ (most_transport96 ∷ [])
    ∷ (rest ∷ [])
    ∷ (segments03 ∷ [])
    ∷ (segments04 ∷ [])
    ∷ (elements05 ∷ [])
    ∷ (elements06 ∷ [])
    ∷ (some_text ∷ [])
    ∷ (no_text ∷ [])
    ∷ (payload ∷ [])
    ∷ (no_payload ∷ [])
    ∷ (most_transport02 ∷ segments03 ∷ segments04 ∷ elements05 ∷ elements06 ∷ no_text ∷ payload ∷ [])
    ∷ (most_transport96 ∷ payload ∷ some_text ∷ elements06 ∷ elements05 ∷ segments04 ∷ segments03 ∷ [])
    ∷ []

-- each is within its rules
least_transport_within : (edition : Edition) → Within edition least_transport
unfolding all_definitions
least_transport_within edition = record { known = refl; plain_bytes = refl; as_stated = refl }

most_transport_02_within : (edition : Edition) → Within edition most_transport02
unfolding all_definitions
most_transport_02_within edition = record { known = refl; plain_bytes = refl; as_stated = refl }

kilograms_within : (edition : Edition) → Within edition kilograms
unfolding all_definitions
kilograms_within edition = record { known = refl; plain_bytes = refl; as_stated = refl }

most_transport_96_within : (edition : Edition) → Within edition most_transport96
unfolding all_definitions
most_transport_96_within edition = record { known = refl; plain_bytes = refl; as_stated = refl }

rest_within : (edition : Edition) → Within edition rest
unfolding all_definitions
rest_within edition = record { permitted = rest_byte; known = refl; not_empty = refl; permitted_bytes = refl }

segments_03_within : (edition : Edition) → Within edition segments03
unfolding all_definitions
segments_03_within edition = record { is_tag = tag03; known = refl; six_bytes = refl; one_or_more = refl; plain_bytes = refl; all_tagged = refl }

segments_04_within : (edition : Edition) → Within edition segments04
unfolding all_definitions
segments_04_within edition = record { is_tag = tag; known = refl; six_bytes = refl; one_or_more = refl; plain_bytes = refl; all_tagged = refl }

elements_05_within : (edition : Edition) → Within edition elements05
unfolding all_definitions
elements_05_within edition = record { is_element = element05; known = refl; one_or_more = refl; plain_bytes = refl; as_stated = refl }

elements_06_within : (edition : Edition) → Within edition elements06
unfolding all_definitions
elements_06_within edition = record { is_element = element06; known = refl; one_or_more = refl; plain_bytes = refl; as_stated = refl }

some_text_within : (edition : Edition) → Within edition some_text
unfolding all_definitions
some_text_within edition = record { permitted = text_byte; known = refl; permitted_bytes = refl }

no_text_within : (edition : Edition) → Within edition no_text
unfolding all_definitions
no_text_within edition = record { permitted = text_byte; known = refl; permitted_bytes = refl }

payload_within : (edition : Edition) → Within edition payload
unfolding all_definitions
payload_within edition = record { limits = type_length ∷ compression_length ∷ []; known = refl; are_values = refl; is_count = refl; counts = refl }

no_payload_within : (edition : Edition) → Within edition no_payload
unfolding all_definitions
no_payload_within edition = record { limits = type_length ∷ compression_length ∷ []; known = refl; are_values = refl; is_count = refl; counts = refl }

pub the_examples_are_good : (edition : Edition) → Each (λ es. Good edition (message es) es) examples
unfolding all_definitions
the_examples_are_good edition =
    good edition _ _ (least_transport_within edition and tt) refl refl refl tt tt refl
    and good edition _ _ (most_transport_02_within edition and tt) refl refl refl tt tt refl
    and good edition _ _ (kilograms_within edition and tt) refl refl refl tt tt refl
    and good edition _ _ (most_transport_96_within edition and tt) refl refl refl tt tt refl
    and good edition _ _ (rest_within edition and tt) refl refl refl tt tt refl
    and good edition _ _ (segments_03_within edition and tt) refl refl refl tt tt refl
    and good edition _ _ (segments_04_within edition and tt) refl refl refl tt tt refl
    and good edition _ _ (elements_05_within edition and tt) refl refl refl tt tt refl
    and good edition _ _ (elements_06_within edition and tt) refl refl refl tt tt refl
    and good edition _ _ (some_text_within edition and tt) refl refl refl tt tt refl
    and good edition _ _ (no_text_within edition and tt) refl refl refl tt tt refl
    and good edition _ _ (payload_within edition and tt) refl refl refl tt tt refl
    and good edition _ _ (no_payload_within edition and tt) refl refl refl tt tt refl
    and good edition _ _ (most_transport_02_within edition and segments_03_within edition and segments_04_within edition and elements_05_within edition and elements_06_within edition and no_text_within edition and payload_within edition and tt) refl refl refl tt tt refl
    and good edition _ _ (most_transport_96_within edition and payload_within edition and some_text_within edition and elements_06_within edition and elements_05_within edition and segments_04_within edition and segments_03_within edition and tt) refl refl refl tt tt refl
    and tt

-- The edition of 2025

-- 12: three digits and three capitals, and a space for the least value
abbrev elements12 : Envelope
elements12 = elements 12 (ascii "PNR 123" ∷ ascii "001  " ∷ [])

-- 15: a payload of control bytes and one above 7F, its count with as many digits as it may have; and none
abbrev signed : Envelope
signed = counted 15 [] (ascii "000000000000004") (RS ∷ EOT ∷ GS ∷ 0x80 ∷ [])

abbrev nothing_signed : Envelope
nothing_signed = counted 15 [] (ascii "0") []

-- alone, twice, first, between and last
abbrev pub examples2025 : List (List Envelope)
examples2025 =
    (elements12 ∷ [])
    ∷ (signed ∷ [])
    ∷ (nothing_signed ∷ [])
    ∷ (elements12 ∷ elements12 ∷ [])
    ∷ (signed ∷ signed ∷ [])
    ∷ (elements12 ∷ elements06 ∷ signed ∷ [])
    ∷ (signed ∷ payload ∷ elements12 ∷ [])
    ∷ (most_transport02 ∷ signed ∷ elements12 ∷ elements06 ∷ [])
    ∷ []

elements_12_within : Within Edition2025 elements12
unfolding all_definitions
elements_12_within = record { is_element = element12; known = refl; one_or_more = refl; plain_bytes = refl; as_stated = refl }

signed_within : Within Edition2025 signed
unfolding all_definitions
signed_within = record { limits = []; known = refl; are_values = refl; is_count = refl; counts = refl }

nothing_signed_within : Within Edition2025 nothing_signed
unfolding all_definitions
nothing_signed_within = record { limits = []; known = refl; are_values = refl; is_count = refl; counts = refl }

pub the_examples_of_2025_are_good : Each (λ es. Good Edition2025 (message es) es) examples2025
unfolding all_definitions
the_examples_of_2025_are_good =
    good Edition2025 _ _ (elements_12_within and tt) refl refl refl tt tt refl
    and good Edition2025 _ _ (signed_within and tt) refl refl refl tt tt refl
    and good Edition2025 _ _ (nothing_signed_within and tt) refl refl refl tt tt refl
    and good Edition2025 _ _ (elements_12_within and elements_12_within and tt) refl refl refl tt tt refl
    and good Edition2025 _ _ (signed_within and signed_within and tt) refl refl refl tt tt refl
    and good Edition2025 _ _ (elements_12_within and elements_06_within Edition2025 and signed_within and tt) refl refl refl tt tt refl
    and good Edition2025 _ _ (signed_within and payload_within Edition2025 and elements_12_within and tt) refl refl refl tt tt refl
    and good Edition2025 _ _ (most_transport_02_within Edition2025 and signed_within and elements_12_within and elements_06_within Edition2025 and tt) refl refl refl tt tt refl
    and tt
