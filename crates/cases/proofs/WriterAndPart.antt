-- What the definitions of the writer and of the part make of some rows and messages: the carton of 01 written back, its contents taken from other data,
-- each refusal, and parts. By computation.
use Prim.Native.Nat.{ℕ, zero, suc}
use mathlib.Core.Path.{◌≡◌, refl}
use mathlib.Core.List.{List, [], ◌∷◌, ◌++◌, map}
use lib.ListN.{length, replicate}
use Rattle.label.specs.declared.Stretch.{Stretch}
use Rattle.label.specs.declared.Edition.{Edition}
use Rattle.label.specs.declared.Edition.TheVariants.{Edition2005, Edition2025}
use Rattle.label.specs.Bytes.{Bytes, ascii}
use Rattle.label.specs.Part.{part_of}
use Rattle.label.specs.Writing.{write_answer, output_after}
use Rattle.label.proofs.AllDefinitions.{all_definitions}
use Rattle.cases.proofs.Thirteen.{carton, empty_text, no_trailer}
use Rattle.cases.proofs.Readings.{many_elements, long_text}
use Rattle.cases.proofs.Weights.{with02, with96}

-- data, row numbers and an output; the answer, and the output afterwards
pub record WriterCase : Type 0 where
  pub held : Bytes
  pub rows : List ℕ
  pub output : Bytes
  pub answer : List ℕ
  pub after : Bytes

abbrev pub carton_bytes : Bytes
carton_bytes = carton.input

abbrev carton_rows : List ℕ
carton_rows = 1 ∷ 6 ∷ 4 ∷ 2 ∷ 0 ∷ 3 ∷ 6 ∷ 7 ∷ 3 ∷ 0 ∷ 3 ∷ 6 ∷ 11 ∷ 2 ∷ 0 ∷ []

abbrev short : Bytes
short = ascii "12345678901234"

abbrev long : Bytes
long = ascii "1234567890123456"

-- n rows, each of them an indicator's, whose ordinals begin with o
abbrev indicators_from : ℕ → ℕ → List ℕ
indicators_from o zero = []
indicators_from o (suc n) = 1 ∷ 6 ∷ 4 ∷ 2 ∷ o ∷ indicators_from (suc o) n

abbrev many_indicators : ℕ → List ℕ
many_indicators n = indicators_from 0 n

-- `07` and a text that is too long by a byte
abbrev text_data : Bytes
text_data = ascii "07" ++ replicate 4089 0x41

-- 01 with a weight as its tenth field, by where that stands in data that has three; and the output for it
abbrev weight_data : Bytes
weight_data = ascii "01028401ZUP5LB5lb96ABC"

abbrev weight_rows : ℕ → ℕ → List ℕ
weight_rows start length =
    1 ∷ 1 ∷ 0 ∷ 2 ∷ 0 ∷ 2 ∷ 1 ∷ 2 ∷ 2 ∷ 0 ∷ 3 ∷ 1 ∷ 0 ∷ 0 ∷ 0 ∷ 3 ∷ 1 ∷ 4 ∷ 3 ∷ 0 ∷ 3 ∷ 1 ∷ 7 ∷ 1 ∷ 0 ∷ 3 ∷ 1 ∷ 7 ∷ 2 ∷ 0 ∷ 3 ∷ 1 ∷ 9 ∷ 2 ∷ 0
    ∷ 3 ∷ 1 ∷ 0 ∷ 0 ∷ 0 ∷ 3 ∷ 1 ∷ 0 ∷ 0 ∷ 0 ∷ 3 ∷ 1 ∷ 0 ∷ 0 ∷ 0 ∷ 3 ∷ 1 ∷ 0 ∷ 0 ∷ 0 ∷ 3 ∷ 1 ∷ start ∷ length ∷ 0 ∷ []

abbrev weight_rows96 : ℕ → ℕ → List ℕ
weight_rows96 start length =
    1 ∷ 1 ∷ 0 ∷ 2 ∷ 0 ∷ 2 ∷ 1 ∷ 17 ∷ 2 ∷ 0 ∷ 3 ∷ 1 ∷ 19 ∷ 3 ∷ 0 ∷ 3 ∷ 1 ∷ 4 ∷ 3 ∷ 0 ∷ 3 ∷ 1 ∷ 7 ∷ 1 ∷ 0 ∷ 3 ∷ 1 ∷ 7 ∷ 2 ∷ 0 ∷ 3 ∷ 1 ∷ 9 ∷ 2 ∷ 0
    ∷ 3 ∷ 1 ∷ 0 ∷ 0 ∷ 0 ∷ 3 ∷ 1 ∷ 0 ∷ 0 ∷ 0 ∷ 3 ∷ 1 ∷ 0 ∷ 0 ∷ 0 ∷ 3 ∷ 1 ∷ 0 ∷ 0 ∷ 0 ∷ 3 ∷ 1 ∷ start ∷ length ∷ 0 ∷ []

abbrev weight_room : Bytes
weight_room = replicate 32 0x2D

abbrev pub writer_cases : List WriterCase
writer_cases =
    record { held = carton_bytes; rows = carton_rows; output = long; answer = 0 ∷ 15 ∷ []; after = carton_bytes ++ ascii "6" }
    -- contents from elsewhere, out of order and overlapping
    ∷ record { held = ascii "Q31P706"; rows = 1 ∷ 6 ∷ 5 ∷ 2 ∷ 0 ∷ 3 ∷ 6 ∷ 2 ∷ 3 ∷ 0 ∷ 3 ∷ 6 ∷ 0 ∷ 2 ∷ 0 ∷ []; output = long; answer = 0 ∷ 15 ∷ []; after = carton_bytes ++ ascii "6" }
    -- an empty stretch at the end of the data
    ∷ record { held = ascii "07"; rows = 1 ∷ 7 ∷ 0 ∷ 2 ∷ 0 ∷ 7 ∷ 7 ∷ 2 ∷ 0 ∷ 0 ∷ []; output = short; answer = 0 ∷ 8 ∷ []; after = empty_text.input ++ ascii "901234" }
    -- a weight of version 02 with its unit, and of version 96 without; 21: the other way round, and with small letters
    ∷ record { held = weight_data; rows = weight_rows 11 3; output = weight_room; answer = 0 ∷ 31 ∷ []; after = with02 "5LB" ++ ascii "-" }
    ∷ record { held = weight_data; rows = weight_rows96 11 1; output = weight_room; answer = 0 ∷ 32 ∷ []; after = with96 "5" }
    ∷ record { held = weight_data; rows = weight_rows 11 1; output = weight_room; answer = 21 ∷ []; after = weight_room }
    ∷ record { held = weight_data; rows = weight_rows96 11 3; output = weight_room; answer = 21 ∷ []; after = weight_room }
    ∷ record { held = weight_data; rows = weight_rows 14 3; output = weight_room; answer = 21 ∷ []; after = weight_room }
    -- 20: no whole row, four numbers to a row; too many; a stretch past the data, an empty one too, and one whose end is past 32 bits
    ∷ record { held = carton_bytes; rows = 1 ∷ 6 ∷ 4 ∷ []; output = long; answer = 20 ∷ []; after = long }
    ∷ record { held = carton_bytes; rows = 1 ∷ 6 ∷ 4 ∷ 2 ∷ 3 ∷ 6 ∷ 7 ∷ 3 ∷ 3 ∷ 6 ∷ 11 ∷ 2 ∷ []; output = long; answer = 20 ∷ []; after = long }
    ∷ record { held = carton_bytes; rows = 1 ∷ 6 ∷ 14 ∷ 2 ∷ 0 ∷ []; output = long; answer = 20 ∷ []; after = long }
    ∷ record { held = carton_bytes; rows = 1 ∷ 6 ∷ 16 ∷ 0 ∷ 0 ∷ []; output = long; answer = 20 ∷ []; after = long }
    ∷ record { held = carton_bytes; rows = 1 ∷ 6 ∷ 4294967295 ∷ 2 ∷ 0 ∷ []; output = long; answer = 20 ∷ []; after = long }
    ∷ record { held = carton_bytes; rows = many_indicators 1025; output = long; answer = 20 ∷ []; after = long }
    ∷ record { held = carton_bytes; rows = many_indicators 1024; output = long; answer = 21 ∷ []; after = long }
    -- 21: no rows; an indicator that says another format; an element too few bytes long; a kind that the format hasn't; before 22
    ∷ record { held = carton_bytes; rows = []; output = long; answer = 21 ∷ []; after = long }
    ∷ record { held = carton_bytes; rows = 1 ∷ 5 ∷ 4 ∷ 2 ∷ 0 ∷ 3 ∷ 6 ∷ 7 ∷ 3 ∷ 0 ∷ []; output = long; answer = 21 ∷ []; after = long }
    ∷ record { held = carton_bytes; rows = 1 ∷ 6 ∷ 4 ∷ 2 ∷ 0 ∷ 3 ∷ 6 ∷ 7 ∷ 1 ∷ 0 ∷ []; output = long; answer = 21 ∷ []; after = long }
    ∷ record { held = carton_bytes; rows = 1 ∷ 6 ∷ 4 ∷ 2 ∷ 0 ∷ 4 ∷ 6 ∷ 7 ∷ 3 ∷ 0 ∷ []; output = []; answer = 21 ∷ []; after = [] }
    -- 21: a message over the limit; and with a byte less 22
    ∷ record { held = text_data; rows = 1 ∷ 7 ∷ 0 ∷ 2 ∷ 0 ∷ 7 ∷ 7 ∷ 2 ∷ 4089 ∷ 0 ∷ []; output = short; answer = 21 ∷ []; after = short }
    ∷ record { held = text_data; rows = 1 ∷ 7 ∷ 0 ∷ 2 ∷ 0 ∷ 7 ∷ 7 ∷ 2 ∷ 4088 ∷ 0 ∷ []; output = short; answer = 22 ∷ []; after = short }
    -- 22
    ∷ record { held = carton_bytes; rows = carton_rows; output = short; answer = 22 ∷ []; after = short }
    ∷ []

pub the_writer_answers : (edition : Edition) → map (λ (c : WriterCase). write_answer edition c.held c.rows (length c.output)) writer_cases ≡ map (λ (c : WriterCase). c.answer) writer_cases
unfolding all_definitions
the_writer_answers Edition2005 = refl
the_writer_answers Edition2025 = refl

pub the_writer_leaves : (edition : Edition) → map (λ (c : WriterCase). output_after edition c.held c.rows c.output) writer_cases ≡ map (λ (c : WriterCase). c.after) writer_cases
unfolding all_definitions
the_writer_leaves Edition2005 = refl
the_writer_leaves Edition2025 = refl

-- a message and a row number; the part
pub record PartCase : Type 0 where
  pub input : Bytes
  pub row : ℕ
  pub part : Stretch

-- rows 0 to 2 of the carton, and a row that it hasn't; a refused message, one refused with 1, and one with 13
abbrev pub part_cases : List PartCase
part_cases =
    record { input = carton_bytes; row = 0; part = record { start = 4; length = 2 } }
    ∷ record { input = carton_bytes; row = 1; part = record { start = 7; length = 3 } }
    ∷ record { input = carton_bytes; row = 2; part = record { start = 11; length = 2 } }
    ∷ record { input = carton_bytes; row = 3; part = record { start = 0; length = 0 } }
    ∷ record { input = no_trailer.input; row = 0; part = record { start = 0; length = 0 } }
    ∷ record { input = long_text 4089; row = 0; part = record { start = 0; length = 0 } }
    ∷ record { input = many_elements 1024 (ascii "\u{4}"); row = 0; part = record { start = 0; length = 0 } }
    ∷ []

pub the_parts : (edition : Edition) → map (λ (c : PartCase). part_of edition c.input c.row) part_cases ≡ map (λ (c : PartCase). c.part) part_cases
unfolding all_definitions
the_parts Edition2005 = refl
the_parts Edition2025 = refl
