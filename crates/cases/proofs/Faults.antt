-- Document 02, No. 1, as it is read: which number a faulty field of 01 or a faulty element of 05 or 06 has, and where it is; and messages with several
-- faults at once, whose order decides. By computation. H is `[)>` RS.
use mathlib.Core.Path.{refl}
use mathlib.Core.List.{List, [], ◌∷◌}
use Rattle.label.specs.declared.Edition.{Edition}
use Rattle.label.specs.declared.Edition.TheVariants.{Edition2005, Edition2025}
use Rattle.label.specs.Bytes.{ascii}
use Rattle.label.proofs.AllDefinitions.{all_definitions}
use Rattle.cases.proofs.Cases.{Case, Stand}

-- 'The count is judged first', with fewer than 5 fields, or more than 15 in version 02 or 14 in version 96: 30 at the first field's start, 9, right behind
-- the version

-- version 96 with four fields
abbrev four_fields96 : Case
four_fields96 = record { input = ascii "[)>\u{1e}01\u{1d}96ABC\u{1d}840\u{1d}1\u{1d}1Z\u{1e}\u{4}"; lines = (30 ∷ 9 ∷ []) ∷ [] }

-- four fields, the first too long and the second with a letter
abbrev four_faulty_fields : Case
four_faulty_fields = record { input = ascii "[)>\u{1e}01\u{1d}02123456789012\u{1d}84A\u{1d}1\u{1d}1Z\u{1e}\u{4}"; lines = (30 ∷ 9 ∷ []) ∷ [] }

-- a postal code alone
abbrev one_field : Case
one_field = record { input = ascii "[)>\u{1e}01\u{1d}0252001\u{1e}\u{4}"; lines = (30 ∷ 9 ∷ []) ∷ [] }

-- version 96 with an empty body, which is one empty field
abbrev empty_body96 : Case
empty_body96 = record { input = ascii "[)>\u{1e}01\u{1d}96\u{1e}\u{4}"; lines = (30 ∷ 9 ∷ []) ∷ [] }

-- version 02 with sixteen fields
abbrev sixteen_fields : Case
sixteen_fields = record { input = ascii "[)>\u{1e}01\u{1d}02\u{1d}840\u{1d}1\u{1d}1Z\u{1d}UP\u{1d}\u{1d}\u{1d}\u{1d}\u{1d}\u{1d}\u{1d}\u{1d}\u{1d}\u{1d}\u{1d}A\u{1e}\u{4}"; lines = (30 ∷ 9 ∷ []) ∷ [] }

-- the same with a letter in the country
abbrev sixteen_faulty_fields : Case
sixteen_faulty_fields = record { input = ascii "[)>\u{1e}01\u{1d}02\u{1d}84A\u{1d}1\u{1d}1Z\u{1d}UP\u{1d}\u{1d}\u{1d}\u{1d}\u{1d}\u{1d}\u{1d}\u{1d}\u{1d}\u{1d}\u{1d}A\u{1e}\u{4}"; lines = (30 ∷ 9 ∷ []) ∷ [] }

-- version 96 with a name as its fifteenth field, and none empty
abbrev fifteen_fields96 : Case
fifteen_fields96 = record { input = ascii "[)>\u{1e}01\u{1d}96ABC\u{1d}840\u{1d}1\u{1d}1Z\u{1d}UP\u{1d}S\u{1d}001\u{1d}I\u{1d}1/1\u{1d}5\u{1d}Y\u{1d}R\u{1d}C\u{1d}ST\u{1d}NAME\u{1e}\u{4}"; lines = (30 ∷ 9 ∷ []) ∷ [] }

-- A wrong count and an empty last field: still 30 at the first field's start

-- four fields
abbrev empty_fourth : Case
empty_fourth = record { input = ascii "[)>\u{1e}01\u{1d}02\u{1d}840\u{1d}1\u{1d}\u{1e}\u{4}"; lines = (30 ∷ 9 ∷ []) ∷ [] }

-- version 02 with sixteen fields
abbrev empty_sixteenth : Case
empty_sixteenth = record { input = ascii "[)>\u{1e}01\u{1d}02\u{1d}840\u{1d}1\u{1d}1Z\u{1d}UP\u{1d}\u{1d}\u{1d}\u{1d}\u{1d}\u{1d}\u{1d}\u{1d}\u{1d}\u{1d}\u{1d}\u{1e}\u{4}"; lines = (30 ∷ 9 ∷ []) ∷ [] }

-- version 96 with fifteen fields
abbrev empty_fifteenth96 : Case
empty_fifteenth96 = record { input = ascii "[)>\u{1e}01\u{1d}96ABC\u{1d}840\u{1d}1\u{1d}1Z\u{1d}UP\u{1d}\u{1d}\u{1d}\u{1d}\u{1d}\u{1d}\u{1d}\u{1d}\u{1d}\u{1d}\u{1e}\u{4}"; lines = (30 ∷ 9 ∷ []) ∷ [] }

-- 'where the count is right, for an empty last field its own': 30 at the RS's offset, where the empty field starts

-- version 96 with an empty sixth field
abbrev empty_sixth96 : Case
empty_sixth96 = record { input = ascii "[)>\u{1e}01\u{1d}96ABC\u{1d}840\u{1d}1\u{1d}1Z\u{1d}UP\u{1d}\u{1e}\u{4}"; lines = (30 ∷ 25 ∷ []) ∷ [] }

-- sixth and seventh field empty: the last is meant
abbrev empty_seventh : Case
empty_seventh = record { input = ascii "[)>\u{1e}01\u{1d}02\u{1d}840\u{1d}1\u{1d}1Z\u{1d}UP\u{1d}\u{1d}\u{1e}\u{4}"; lines = (30 ∷ 23 ∷ []) ∷ [] }

-- a sixth field that isn't empty, and a seventh that is
abbrev empty_behind_shipper : Case
empty_behind_shipper = record { input = ascii "[)>\u{1e}01\u{1d}02\u{1d}840\u{1d}1\u{1d}1Z\u{1d}UP\u{1d}S\u{1d}\u{1e}\u{4}"; lines = (30 ∷ 24 ∷ []) ∷ [] }

-- version 02 with an empty fifteenth field
abbrev empty_fifteenth : Case
empty_fifteenth = record { input = ascii "[)>\u{1e}01\u{1d}02\u{1d}840\u{1d}1\u{1d}1Z\u{1d}UP\u{1d}\u{1d}\u{1d}\u{1d}\u{1d}\u{1d}\u{1d}\u{1d}\u{1d}\u{1d}\u{1e}\u{4}"; lines = (30 ∷ 31 ∷ []) ∷ [] }

-- version 96 with an empty fourteenth field
abbrev empty_fourteenth96 : Case
empty_fourteenth96 = record { input = ascii "[)>\u{1e}01\u{1d}96ABC\u{1d}840\u{1d}1\u{1d}1Z\u{1d}UP\u{1d}\u{1d}\u{1d}\u{1d}\u{1d}\u{1d}\u{1d}\u{1d}\u{1d}\u{1e}\u{4}"; lines = (30 ∷ 33 ∷ []) ∷ [] }

-- 'with the last field; then fields from the left': the count is right and the last field empty, 30 at it, whatever fault an earlier field has

-- a postal code that is too long
abbrev long_then_empty_last : Case
long_then_empty_last = record { input = ascii "[)>\u{1e}01\u{1d}02123456789012\u{1d}840\u{1d}1\u{1d}1Z\u{1d}UP\u{1d}\u{1e}\u{4}"; lines = (30 ∷ 34 ∷ []) ∷ [] }

-- a country that is too short
abbrev short_then_empty_last : Case
short_then_empty_last = record { input = ascii "[)>\u{1e}01\u{1d}02\u{1d}84\u{1d}1\u{1d}1Z\u{1d}UP\u{1d}\u{1e}\u{4}"; lines = (30 ∷ 21 ∷ []) ∷ [] }

-- a letter in the country
abbrev bytes_then_empty_last : Case
bytes_then_empty_last = record { input = ascii "[)>\u{1e}01\u{1d}02\u{1d}84A\u{1d}1\u{1d}1Z\u{1d}UP\u{1d}\u{1e}\u{4}"; lines = (30 ∷ 22 ∷ []) ∷ [] }

-- an empty fifth field
abbrev empty_fifth_and_sixth : Case
empty_fifth_and_sixth = record { input = ascii "[)>\u{1e}01\u{1d}02\u{1d}840\u{1d}1\u{1d}1Z\u{1d}\u{1d}\u{1e}\u{4}"; lines = (30 ∷ 20 ∷ []) ∷ [] }

-- Five fields with an empty fifth: the count is right and the last isn't past the fifth, so it is too short, 31 at it

-- version 02
abbrev empty_fifth : Case
empty_fifth = record { input = ascii "[)>\u{1e}01\u{1d}02\u{1d}840\u{1d}1\u{1d}1Z\u{1d}\u{1e}\u{4}"; lines = (31 ∷ 19 ∷ []) ∷ [] }

-- version 96
abbrev empty_fifth96 : Case
empty_fifth96 = record { input = ascii "[)>\u{1e}01\u{1d}96ABC\u{1d}840\u{1d}1\u{1d}1Z\u{1d}\u{1e}\u{4}"; lines = (31 ∷ 22 ∷ []) ∷ [] }

-- 'Each later field may be empty' (01, Transport fields): an empty field past the fifth that isn't the last is no fault

-- B.2 as its note asks, the shipment ID left out
abbrev left_out_shipment : Case
left_out_shipment = record { input = ascii "[)>\u{1e}01\u{1d}0291521\u{1d}840\u{1d}021\u{1d}394594459756\u{1d}FDEG\u{1d}9779976\u{1d}189\u{1d}\u{1d}1/1\u{1d}0.06LB\u{1d}N\u{1d}500 South Buena Vista Street\u{1d}Burbank\u{1d}CA\u{1d}Jennifer Stewart\u{1e}\u{4}"; lines = (0 ∷ 1 ∷ 17 ∷ []) ∷ (1 ∷ 1 ∷ 4 ∷ 2 ∷ 0 ∷ []) ∷ (2 ∷ 1 ∷ 7 ∷ 2 ∷ 0 ∷ []) ∷ (3 ∷ 1 ∷ 9 ∷ 5 ∷ 0 ∷ []) ∷ (3 ∷ 1 ∷ 15 ∷ 3 ∷ 0 ∷ []) ∷ (3 ∷ 1 ∷ 19 ∷ 3 ∷ 0 ∷ []) ∷ (3 ∷ 1 ∷ 23 ∷ 12 ∷ 0 ∷ []) ∷ (3 ∷ 1 ∷ 36 ∷ 4 ∷ 0 ∷ []) ∷ (3 ∷ 1 ∷ 41 ∷ 7 ∷ 0 ∷ []) ∷ (3 ∷ 1 ∷ 49 ∷ 3 ∷ 0 ∷ []) ∷ (3 ∷ 1 ∷ 53 ∷ 0 ∷ 0 ∷ []) ∷ (3 ∷ 1 ∷ 54 ∷ 3 ∷ 0 ∷ []) ∷ (3 ∷ 1 ∷ 58 ∷ 6 ∷ 0 ∷ []) ∷ (3 ∷ 1 ∷ 65 ∷ 1 ∷ 0 ∷ []) ∷ (3 ∷ 1 ∷ 67 ∷ 28 ∷ 0 ∷ []) ∷ (3 ∷ 1 ∷ 96 ∷ 7 ∷ 0 ∷ []) ∷ (3 ∷ 1 ∷ 104 ∷ 2 ∷ 0 ∷ []) ∷ (3 ∷ 1 ∷ 107 ∷ 16 ∷ 0 ∷ []) ∷ [] }

-- no shipper ID, and a day that is too short
abbrev short_behind_empty : Case
short_behind_empty = record { input = ascii "[)>\u{1e}01\u{1d}02\u{1d}840\u{1d}1\u{1d}1Z\u{1d}UP\u{1d}\u{1d}12\u{1e}\u{4}"; lines = (31 ∷ 23 ∷ []) ∷ [] }

-- fields 6 to 10 empty, and two bytes as cross match
abbrev long_behind_empty : Case
long_behind_empty = record { input = ascii "[)>\u{1e}01\u{1d}02\u{1d}840\u{1d}1\u{1d}1Z\u{1d}UP\u{1d}\u{1d}\u{1d}\u{1d}\u{1d}\u{1d}YY\u{1e}\u{4}"; lines = (32 ∷ 27 ∷ []) ∷ [] }

-- fields 6 to 8 empty, and `1-1` as n/x
abbrev bytes_behind_empty : Case
bytes_behind_empty = record { input = ascii "[)>\u{1e}01\u{1d}02\u{1d}840\u{1d}1\u{1d}1Z\u{1d}UP\u{1d}\u{1d}\u{1d}\u{1d}1-1\u{1e}\u{4}"; lines = (33 ∷ 25 ∷ []) ∷ [] }

-- a shipper ID that is too long, no day, and a shipment ID
abbrev long_before_empty : Case
long_before_empty = record { input = ascii "[)>\u{1e}01\u{1d}02\u{1d}840\u{1d}1\u{1d}1Z\u{1d}UP\u{1d}12345678901\u{1d}\u{1d}I\u{1e}\u{4}"; lines = (32 ∷ 22 ∷ []) ∷ [] }

-- 'The place is the offset where the faulty field starts': 31, too short

-- version 96, a postal code of two bytes
abbrev short_postal_code96 : Case
short_postal_code96 = record { input = ascii "[)>\u{1e}01\u{1d}96AB\u{1d}840\u{1d}1\u{1d}1Z\u{1d}UP\u{1e}\u{4}"; lines = (31 ∷ 9 ∷ []) ∷ [] }

-- a country of two digits
abbrev short_country : Case
short_country = record { input = ascii "[)>\u{1e}01\u{1d}02\u{1d}84\u{1d}1\u{1d}1Z\u{1d}UP\u{1e}\u{4}"; lines = (31 ∷ 10 ∷ []) ∷ [] }

-- no class of service
abbrev empty_class : Case
empty_class = record { input = ascii "[)>\u{1e}01\u{1d}02\u{1d}840\u{1d}\u{1d}1Z\u{1d}UP\u{1e}\u{4}"; lines = (31 ∷ 14 ∷ []) ∷ [] }

-- no tracking number
abbrev empty_tracking : Case
empty_tracking = record { input = ascii "[)>\u{1e}01\u{1d}02\u{1d}840\u{1d}1\u{1d}\u{1d}UP\u{1e}\u{4}"; lines = (31 ∷ 16 ∷ []) ∷ [] }

-- a carrier code of one byte
abbrev short_carrier : Case
short_carrier = record { input = ascii "[)>\u{1e}01\u{1d}02\u{1d}840\u{1d}1\u{1d}1Z\u{1d}U\u{1e}\u{4}"; lines = (31 ∷ 19 ∷ []) ∷ [] }

-- version 96, a state of one byte, its last field
abbrev short_state96 : Case
short_state96 = record { input = ascii "[)>\u{1e}01\u{1d}96ABC\u{1d}840\u{1d}1\u{1d}1Z\u{1d}UP\u{1d}\u{1d}\u{1d}\u{1d}\u{1d}\u{1d}\u{1d}\u{1d}\u{1d}C\u{1e}\u{4}"; lines = (31 ∷ 33 ∷ []) ∷ [] }

-- The same for 32, too long

-- a postal code of twelve bytes
abbrev long_postal_code : Case
long_postal_code = record { input = ascii "[)>\u{1e}01\u{1d}02123456789012\u{1d}840\u{1d}1\u{1d}1Z\u{1d}UP\u{1e}\u{4}"; lines = (32 ∷ 9 ∷ []) ∷ [] }

-- a country of four digits
abbrev long_country : Case
long_country = record { input = ascii "[)>\u{1e}01\u{1d}02\u{1d}8400\u{1d}1\u{1d}1Z\u{1d}UP\u{1e}\u{4}"; lines = (32 ∷ 10 ∷ []) ∷ [] }

-- a class of service of four bytes
abbrev long_class : Case
long_class = record { input = ascii "[)>\u{1e}01\u{1d}02\u{1d}840\u{1d}1234\u{1d}1Z\u{1d}UP\u{1e}\u{4}"; lines = (32 ∷ 14 ∷ []) ∷ [] }

-- a tracking number of twenty-one bytes
abbrev long_tracking : Case
long_tracking = record { input = ascii "[)>\u{1e}01\u{1d}02\u{1d}840\u{1d}1\u{1d}123456789012345678901\u{1d}UP\u{1e}\u{4}"; lines = (32 ∷ 16 ∷ []) ∷ [] }

-- a carrier code of five bytes
abbrev long_carrier : Case
long_carrier = record { input = ascii "[)>\u{1e}01\u{1d}02\u{1d}840\u{1d}1\u{1d}1Z\u{1d}UPSNX\u{1e}\u{4}"; lines = (32 ∷ 19 ∷ []) ∷ [] }

-- version 02, a name of thirty-six bytes, its last field
abbrev long_name : Case
long_name = record { input = ascii "[)>\u{1e}01\u{1d}02\u{1d}840\u{1d}1\u{1d}1Z\u{1d}UP\u{1d}\u{1d}\u{1d}\u{1d}\u{1d}\u{1d}\u{1d}\u{1d}\u{1d}\u{1d}123456789012345678901234567890123456\u{1e}\u{4}"; lines = (32 ∷ 31 ∷ []) ∷ [] }

-- The same for 33, wrong bytes

-- version 96, a letter in the country
abbrev letter_in_country96 : Case
letter_in_country96 = record { input = ascii "[)>\u{1e}01\u{1d}96ABC\u{1d}84A\u{1d}1\u{1d}1Z\u{1d}UP\u{1e}\u{4}"; lines = (33 ∷ 13 ∷ []) ∷ [] }

-- a letter in the day
abbrev letter_in_day : Case
letter_in_day = record { input = ascii "[)>\u{1e}01\u{1d}02\u{1d}840\u{1d}1\u{1d}1Z\u{1d}UP\u{1d}S\u{1d}12A\u{1e}\u{4}"; lines = (33 ∷ 24 ∷ []) ∷ [] }

-- five digits in front of the `/`
abbrev five_digits : Case
five_digits = record { input = ascii "[)>\u{1e}01\u{1d}02\u{1d}840\u{1d}1\u{1d}1Z\u{1d}UP\u{1d}\u{1d}\u{1d}\u{1d}12345/678\u{1e}\u{4}"; lines = (33 ∷ 25 ∷ []) ∷ [] }

-- `X` as cross match
abbrev other_match : Case
other_match = record { input = ascii "[)>\u{1e}01\u{1d}02\u{1d}840\u{1d}1\u{1d}1Z\u{1d}UP\u{1d}\u{1d}\u{1d}\u{1d}\u{1d}\u{1d}X\u{1e}\u{4}"; lines = (33 ∷ 27 ∷ []) ∷ [] }

-- B.2 as printed: `1/1` stands for the shipment ID, and the weight for n/x
abbrev printed_b2 : Case
printed_b2 = record { input = ascii "[)>\u{1e}01\u{1d}0291521\u{1d}840\u{1d}021\u{1d}394594459756\u{1d}FDEG\u{1d}9779976\u{1d}189\u{1d}1/1\u{1d}0.06LB\u{1d}N\u{1d}500 South Buena Vista Street\u{1d}Burbank\u{1d}CA\u{1d}Jennifer Stewart\u{1e}\u{4}"; lines = (33 ∷ 57 ∷ []) ∷ [] }

-- 'length before bytes', both faults in one field

-- a country of four bytes, two of them letters
abbrev long_and_bytes : Case
long_and_bytes = record { input = ascii "[)>\u{1e}01\u{1d}02\u{1d}84AB\u{1d}1\u{1d}1Z\u{1d}UP\u{1e}\u{4}"; lines = (32 ∷ 10 ∷ []) ∷ [] }

-- a country of two bytes, one of them a letter
abbrev short_and_bytes : Case
short_and_bytes = record { input = ascii "[)>\u{1e}01\u{1d}02\u{1d}8A\u{1d}1\u{1d}1Z\u{1d}UP\u{1e}\u{4}"; lines = (31 ∷ 10 ∷ []) ∷ [] }

-- ten bytes as n/x, with five digits in front of the `/`
abbrev long_n_of_x : Case
long_n_of_x = record { input = ascii "[)>\u{1e}01\u{1d}02\u{1d}840\u{1d}1\u{1d}1Z\u{1d}UP\u{1d}\u{1d}\u{1d}\u{1d}12345/6789\u{1e}\u{4}"; lines = (32 ∷ 25 ∷ []) ∷ [] }

-- two bytes as n/x, without a `/`
abbrev short_n_of_x : Case
short_n_of_x = record { input = ascii "[)>\u{1e}01\u{1d}02\u{1d}840\u{1d}1\u{1d}1Z\u{1d}UP\u{1d}\u{1d}\u{1d}\u{1d}11\u{1e}\u{4}"; lines = (31 ∷ 25 ∷ []) ∷ [] }

-- two bytes as cross match, neither of them `Y` or `N`
abbrev long_match : Case
long_match = record { input = ascii "[)>\u{1e}01\u{1d}02\u{1d}840\u{1d}1\u{1d}1Z\u{1d}UP\u{1d}\u{1d}\u{1d}\u{1d}\u{1d}\u{1d}XX\u{1e}\u{4}"; lines = (32 ∷ 27 ∷ []) ∷ [] }

-- 'then fields from the left', whichever fault each has

-- a letter in the country, a carrier code too short
abbrev bytes_then_short : Case
bytes_then_short = record { input = ascii "[)>\u{1e}01\u{1d}02\u{1d}84A\u{1d}1\u{1d}1Z\u{1d}U\u{1e}\u{4}"; lines = (33 ∷ 10 ∷ []) ∷ [] }

-- a letter in the country, a class of service too long
abbrev bytes_then_long : Case
bytes_then_long = record { input = ascii "[)>\u{1e}01\u{1d}02\u{1d}84A\u{1d}1234\u{1d}1Z\u{1d}UP\u{1e}\u{4}"; lines = (33 ∷ 10 ∷ []) ∷ [] }

-- a country too short, a letter in the day
abbrev short_then_bytes : Case
short_then_bytes = record { input = ascii "[)>\u{1e}01\u{1d}02\u{1d}84\u{1d}1\u{1d}1Z\u{1d}UP\u{1d}S\u{1d}12A\u{1e}\u{4}"; lines = (31 ∷ 10 ∷ []) ∷ [] }

-- a postal code too long, a letter in the country
abbrev long_then_bytes : Case
long_then_bytes = record { input = ascii "[)>\u{1e}01\u{1d}02123456789012\u{1d}84A\u{1d}1\u{1d}1Z\u{1d}UP\u{1e}\u{4}"; lines = (32 ∷ 9 ∷ []) ∷ [] }

-- a country too short, a class of service too long
abbrev short_then_long : Case
short_then_long = record { input = ascii "[)>\u{1e}01\u{1d}02\u{1d}84\u{1d}1234\u{1d}1Z\u{1d}UP\u{1e}\u{4}"; lines = (31 ∷ 10 ∷ []) ∷ [] }

-- a class of service too long, a carrier code too short
abbrev long_then_short : Case
long_then_short = record { input = ascii "[)>\u{1e}01\u{1d}02\u{1d}840\u{1d}1234\u{1d}1Z\u{1d}U\u{1e}\u{4}"; lines = (32 ∷ 14 ∷ []) ∷ [] }

-- a letter in the day, `1-1` as n/x
abbrev bytes_twice : Case
bytes_twice = record { input = ascii "[)>\u{1e}01\u{1d}02\u{1d}840\u{1d}1\u{1d}1Z\u{1d}UP\u{1d}S\u{1d}12A\u{1d}\u{1d}1-1\u{1e}\u{4}"; lines = (33 ∷ 24 ∷ []) ∷ [] }

-- 'the first faulty element's start': 11 in 05, whose first element starts at 7

-- the first, with one digit, and the last, with two bytes
abbrev first_element05 : Case
first_element05 = record { input = ascii "[)>\u{1e}05\u{1d}1A2\u{1d}01A\u{1d}01\u{1e}\u{4}"; lines = (11 ∷ 7 ∷ []) ∷ [] }

-- the middle one, without digits, and the last
abbrev middle_element05 : Case
middle_element05 = record { input = ascii "[)>\u{1e}05\u{1d}01A\u{1d}AB1\u{1d}0\u{1e}\u{4}"; lines = (11 ∷ 11 ∷ []) ∷ [] }

-- the last alone
abbrev last_element05 : Case
last_element05 = record { input = ascii "[)>\u{1e}05\u{1d}01A\u{1d}10AB\u{1d}01\u{1e}\u{4}"; lines = (11 ∷ 16 ∷ []) ∷ [] }

-- an empty one in the middle
abbrev empty_middle05 : Case
empty_middle05 = record { input = ascii "[)>\u{1e}05\u{1d}01A\u{1d}\u{1d}10A\u{1e}\u{4}"; lines = (11 ∷ 11 ∷ []) ∷ [] }

-- The same in 06

-- the first, with nothing behind its capital, and the last, without one
abbrev first_element06 : Case
first_element06 = record { input = ascii "[)>\u{1e}06\u{1d}Q\u{1d}1P7\u{1d}3\u{1e}\u{4}"; lines = (11 ∷ 7 ∷ []) ∷ [] }

-- the middle one, with four digits, and the last
abbrev middle_element06 : Case
middle_element06 = record { input = ascii "[)>\u{1e}06\u{1d}1P7\u{1d}1234P5\u{1d}p3\u{1e}\u{4}"; lines = (11 ∷ 11 ∷ []) ∷ [] }

-- the last alone
abbrev last_element06 : Case
last_element06 = record { input = ascii "[)>\u{1e}06\u{1d}1P7\u{1d}Q3\u{1d}7\u{1e}\u{4}"; lines = (11 ∷ 14 ∷ []) ∷ [] }

-- an empty first one
abbrev empty_first06 : Case
empty_first06 = record { input = ascii "[)>\u{1e}06\u{1d}\u{1d}Q3\u{1e}\u{4}"; lines = (11 ∷ 7 ∷ []) ∷ [] }

-- An empty body is one empty element: 11 right behind the GS, here in a second envelope and in Readings alone

-- 05 behind 06
abbrev empty_body05 : Case
empty_body05 = record { input = ascii "[)>\u{1e}06\u{1d}1P7\u{1e}05\u{1d}\u{1e}\u{4}"; lines = (11 ∷ 14 ∷ []) ∷ [] }

-- 06 behind 07
abbrev empty_body06 : Case
empty_body06 = record { input = ascii "[)>\u{1e}07\u{1e}06\u{1d}\u{1e}\u{4}"; lines = (11 ∷ 10 ∷ []) ∷ [] }

-- A faulty element in a second envelope

-- 05 behind 06
abbrev late_element05 : Case
late_element05 = record { input = ascii "[)>\u{1e}06\u{1d}1P7\u{1e}05\u{1d}01A\u{1d}AB1\u{1e}\u{4}"; lines = (11 ∷ 18 ∷ []) ∷ [] }

-- 06 behind 01
abbrev late_element06 : Case
late_element06 = record { input = ascii "[)>\u{1e}01\u{1d}02\u{1d}840\u{1d}1\u{1d}1Z\u{1d}UP\u{1e}06\u{1d}Q\u{1e}\u{4}"; lines = (11 ∷ 25 ∷ []) ∷ [] }

-- 11 keeps its place in 02, 03 and 04, the indicator; an empty 02 is in Readings

-- 03, its second segment without a tag
abbrev faulty_segment03 : Case
faulty_segment03 = record { input = ascii "[)>\u{1e}03004010\u{1c}\u{1d}\u{1f}N1\u{1d}A\u{1c}\u{1d}A\u{1c}\u{1e}\u{4}"; lines = (11 ∷ 4 ∷ []) ∷ [] }

-- 04, its second tag with a small letter
abbrev faulty_segment04 : Case
faulty_segment04 = record { input = ascii "[)>\u{1e}04D96A01\u{1c}\u{1d}\u{1f}N1\u{1d}A\u{1c}n1\u{1c}\u{1e}\u{4}"; lines = (11 ∷ 4 ∷ []) ∷ [] }

-- 03 in a second envelope
abbrev late_segment03 : Case
late_segment03 = record { input = ascii "[)>\u{1e}06\u{1d}1P7\u{1e}03004010\u{1c}\u{1d}\u{1f}N1\u{1d}A\u{1c}\u{1c}\u{1e}\u{4}"; lines = (11 ∷ 11 ∷ []) ∷ [] }

-- 04 in a second envelope
abbrev late_segment04 : Case
late_segment04 = record { input = ascii "[)>\u{1e}06\u{1d}1P7\u{1e}04D96A01\u{1c}\u{1d}\u{1f}N1\u{1d}A\u{1c}\u{1c}\u{1e}\u{4}"; lines = (11 ∷ 11 ∷ []) ∷ [] }

-- 12, then 10, both at the indicator, and only then the faults of fields and elements

-- no RS, with four fields
abbrev four_fields_no_rs : Case
four_fields_no_rs = record { input = ascii "[)>\u{1e}01\u{1d}02\u{1d}840\u{1d}1\u{1d}1Z"; lines = (12 ∷ 4 ∷ []) ∷ [] }

-- no RS, with an empty last field
abbrev empty_last_no_rs : Case
empty_last_no_rs = record { input = ascii "[)>\u{1e}01\u{1d}02\u{1d}840\u{1d}1\u{1d}1Z\u{1d}UP\u{1d}"; lines = (12 ∷ 4 ∷ []) ∷ [] }

-- no RS, with a country too short
abbrev short_no_rs : Case
short_no_rs = record { input = ascii "[)>\u{1e}01\u{1d}02\u{1d}84\u{1d}1\u{1d}1Z\u{1d}UP\u{4}"; lines = (12 ∷ 4 ∷ []) ∷ [] }

-- no RS, with 7F in a field that is too long
abbrev not_permitted_no_rs : Case
not_permitted_no_rs = record { input = ascii "[)>\u{1e}01\u{1d}02123456789012\u{7f}\u{1d}840\u{1d}1\u{1d}1Z\u{1d}UP"; lines = (12 ∷ 4 ∷ []) ∷ [] }

-- no RS, with a faulty element in 05
abbrev element_no_rs : Case
element_no_rs = record { input = ascii "[)>\u{1e}05\u{1d}01A\u{1d}AB1"; lines = (12 ∷ 4 ∷ []) ∷ [] }

-- 7F in a field that is too long
abbrev not_permitted_in_long : Case
not_permitted_in_long = record { input = ascii "[)>\u{1e}01\u{1d}02123456789012\u{7f}\u{1d}840\u{1d}1\u{1d}1Z\u{1d}UP\u{1e}\u{4}"; lines = (10 ∷ 4 ∷ []) ∷ [] }

-- 7F as the last of four fields
abbrev not_permitted_of_four : Case
not_permitted_of_four = record { input = ascii "[)>\u{1e}01\u{1d}02\u{1d}840\u{1d}1\u{1d}\u{7f}\u{1e}\u{4}"; lines = (10 ∷ 4 ∷ []) ∷ [] }

-- a country too short, and 7F in the carrier code
abbrev not_permitted_behind_short : Case
not_permitted_behind_short = record { input = ascii "[)>\u{1e}01\u{1d}02\u{1d}84\u{1d}1\u{1d}1Z\u{1d}U\u{7f}\u{1e}\u{4}"; lines = (10 ∷ 4 ∷ []) ∷ [] }

-- 7F in the country, and an empty last field
abbrev not_permitted_then_empty_last : Case
not_permitted_then_empty_last = record { input = ascii "[)>\u{1e}01\u{1d}02\u{1d}84\u{7f}\u{1d}1\u{1d}1Z\u{1d}UP\u{1d}\u{1e}\u{4}"; lines = (10 ∷ 4 ∷ []) ∷ [] }

-- a faulty element in 05, and 7F behind it
abbrev not_permitted_behind_element : Case
not_permitted_behind_element = record { input = ascii "[)>\u{1e}05\u{1d}AB1\u{1d}01\u{7f}\u{1e}\u{4}"; lines = (10 ∷ 4 ∷ []) ∷ [] }

-- 7 and 8 come before them too, and envelopes go from the left

-- a late 01 with four fields
abbrev late_four_fields : Case
late_four_fields = record { input = ascii "[)>\u{1e}06\u{1d}1P7\u{1e}01\u{1d}02\u{1d}840\u{1d}1\u{1d}1Z\u{1e}\u{4}"; lines = (7 ∷ 11 ∷ []) ∷ [] }

-- version 06 with four fields
abbrev four_fields06 : Case
four_fields06 = record { input = ascii "[)>\u{1e}01\u{1d}06\u{1d}840\u{1d}1\u{1d}1Z\u{1e}\u{4}"; lines = (8 ∷ 4 ∷ []) ∷ [] }

-- four fields, and no EOT
abbrev four_fields_no_eot : Case
four_fields_no_eot = record { input = ascii "[)>\u{1e}01\u{1d}02\u{1d}840\u{1d}1\u{1d}1Z\u{1e}"; lines = (30 ∷ 9 ∷ []) ∷ [] }

-- a letter in the country, then a faulty element in 06
abbrev bytes_then_element : Case
bytes_then_element = record { input = ascii "[)>\u{1e}01\u{1d}02\u{1d}84A\u{1d}1\u{1d}1Z\u{1d}UP\u{1e}06\u{1d}Q\u{1e}\u{4}"; lines = (33 ∷ 10 ∷ []) ∷ [] }

-- a faulty element in 06, then format 08
abbrev element_then_unknown : Case
element_then_unknown = record { input = ascii "[)>\u{1e}06\u{1d}1P7\u{1d}Q\u{1e}08\u{1e}\u{4}"; lines = (11 ∷ 11 ∷ []) ∷ [] }

abbrev pub faults : List Case
faults =
    four_fields96 ∷ four_faulty_fields ∷ one_field ∷ empty_body96 ∷ sixteen_fields ∷ sixteen_faulty_fields ∷ fifteen_fields96
    ∷ empty_fourth ∷ empty_sixteenth ∷ empty_fifteenth96
    ∷ empty_sixth96 ∷ empty_seventh ∷ empty_behind_shipper ∷ empty_fifteenth ∷ empty_fourteenth96
    ∷ long_then_empty_last ∷ short_then_empty_last ∷ bytes_then_empty_last ∷ empty_fifth_and_sixth
    ∷ empty_fifth ∷ empty_fifth96
    ∷ left_out_shipment ∷ short_behind_empty ∷ long_behind_empty ∷ bytes_behind_empty ∷ long_before_empty
    ∷ short_postal_code96 ∷ short_country ∷ empty_class ∷ empty_tracking ∷ short_carrier ∷ short_state96
    ∷ long_postal_code ∷ long_country ∷ long_class ∷ long_tracking ∷ long_carrier ∷ long_name
    ∷ letter_in_country96 ∷ letter_in_day ∷ five_digits ∷ other_match ∷ printed_b2
    ∷ long_and_bytes ∷ short_and_bytes ∷ long_n_of_x ∷ short_n_of_x ∷ long_match
    ∷ bytes_then_short ∷ bytes_then_long ∷ short_then_bytes ∷ long_then_bytes ∷ short_then_long ∷ long_then_short ∷ bytes_twice
    ∷ first_element05 ∷ middle_element05 ∷ last_element05 ∷ empty_middle05
    ∷ first_element06 ∷ middle_element06 ∷ last_element06 ∷ empty_first06
    ∷ empty_body05 ∷ empty_body06
    ∷ late_element05 ∷ late_element06
    ∷ faulty_segment03 ∷ faulty_segment04 ∷ late_segment03 ∷ late_segment04
    ∷ four_fields_no_rs ∷ empty_last_no_rs ∷ short_no_rs ∷ not_permitted_no_rs ∷ element_no_rs ∷ not_permitted_in_long ∷ not_permitted_of_four ∷ not_permitted_behind_short ∷ not_permitted_then_empty_last ∷ not_permitted_behind_element
    ∷ late_four_fields ∷ four_fields06 ∷ four_fields_no_eot ∷ bytes_then_element ∷ element_then_unknown
    ∷ []

pub the_faults : (edition : Edition) → Stand edition faults
unfolding all_definitions
the_faults Edition2005 = refl
the_faults Edition2025 = refl
