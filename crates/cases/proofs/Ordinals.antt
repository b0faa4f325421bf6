-- Which envelope a row is in (02, No. 9): two envelopes of one format side by side, five of different formats, and what the writer makes of ordinals that are
-- not true. By computation.
use Prim.Native.Nat.{ℕ}
use mathlib.Core.Path.{◌≡◌, refl}
use mathlib.Core.List.{List, [], ◌∷◌, ◌++◌, map}
use lib.ListN.{length, replicate}
use Rattle.label.specs.declared.Edition.{Edition}
use Rattle.label.specs.declared.Edition.TheVariants.{Edition2005, Edition2025}
use Rattle.label.specs.Bytes.{Bytes, ascii}
use Rattle.label.specs.Answer.{read_answer, room_of, table_after}
use Rattle.label.specs.Writing.{write_answer, output_after}
use Rattle.label.proofs.AllDefinitions.{all_definitions}
use Rattle.cases.proofs.Cases.{Case, Stand}
use Rattle.cases.proofs.WriterAndPart.{WriterCase}

-- two 06 envelopes side by side
abbrev side_by_side : Case
side_by_side = record {
  input = ascii "[)>\u{1e}06\u{1d}1P7\u{1e}06\u{1d}Q3\u{1d}P1\u{1e}\u{4}";
  lines = (0 ∷ 2 ∷ 5 ∷ []) ∷ (1 ∷ 6 ∷ 4 ∷ 2 ∷ 0 ∷ []) ∷ (3 ∷ 6 ∷ 7 ∷ 3 ∷ 0 ∷ []) ∷ (1 ∷ 6 ∷ 11 ∷ 2 ∷ 1 ∷ []) ∷ (3 ∷ 6 ∷ 14 ∷ 2 ∷ 1 ∷ []) ∷ (3 ∷ 6 ∷ 17 ∷ 2 ∷ 1 ∷ []) ∷ [];
}

-- 07, 09 with control bytes in its payload, 03 and again 07, which has no more than its indicator and an empty body
abbrev mixed : Case
mixed = record {
  input = ascii "[)>\u{1e}07A\u{1e}09\u{1d}A\u{1d}\u{1d}3\u{1d}\u{1e}06\u{1e}03004010\u{1c}\u{1d}\u{1f}N1\u{1d}A\u{1f}B\u{1c}\u{1e}07\u{1e}\u{4}";
  lines = (0 ∷ 4 ∷ 14 ∷ [])
      ∷ (1 ∷ 7 ∷ 4 ∷ 2 ∷ 0 ∷ []) ∷ (7 ∷ 7 ∷ 6 ∷ 1 ∷ 0 ∷ [])
      ∷ (1 ∷ 9 ∷ 8 ∷ 2 ∷ 1 ∷ []) ∷ (2 ∷ 9 ∷ 11 ∷ 1 ∷ 1 ∷ []) ∷ (2 ∷ 9 ∷ 13 ∷ 0 ∷ 1 ∷ []) ∷ (2 ∷ 9 ∷ 14 ∷ 1 ∷ 1 ∷ []) ∷ (7 ∷ 9 ∷ 16 ∷ 3 ∷ 1 ∷ [])
      ∷ (1 ∷ 3 ∷ 20 ∷ 2 ∷ 2 ∷ []) ∷ (2 ∷ 3 ∷ 22 ∷ 6 ∷ 2 ∷ []) ∷ (4 ∷ 3 ∷ 31 ∷ 2 ∷ 2 ∷ []) ∷ (5 ∷ 3 ∷ 34 ∷ 1 ∷ 2 ∷ []) ∷ (6 ∷ 3 ∷ 36 ∷ 1 ∷ 2 ∷ [])
      ∷ (1 ∷ 7 ∷ 39 ∷ 2 ∷ 3 ∷ []) ∷ (7 ∷ 7 ∷ 41 ∷ 0 ∷ 3 ∷ []) ∷ [];
}

pub the_ordinals : (edition : Edition) → Stand edition (side_by_side ∷ mixed ∷ [])
unfolding all_definitions
the_ordinals Edition2005 = refl
the_ordinals Edition2025 = refl

-- a table of 24 numbers has room for four rows, and one of 25 for five
abbrev filled_with : Edition → ℕ → List ℕ
filled_with edition n = table_after edition side_by_side.input (replicate n 9)

pub room_by_five : (edition : Edition) → map (λ n. read_answer edition side_by_side.input (room_of (replicate n 9))) (20 ∷ 24 ∷ 25 ∷ 29 ∷ []) ≡ (14 ∷ 0 ∷ []) ∷ (14 ∷ 0 ∷ []) ∷ (0 ∷ 2 ∷ 5 ∷ []) ∷ (0 ∷ 2 ∷ 5 ∷ []) ∷ []
unfolding all_definitions
room_by_five Edition2005 = refl
room_by_five Edition2025 = refl

pub filled_by_five : (edition : Edition) → map (filled_with edition) (24 ∷ 26 ∷ [])
    ≡ replicate 24 9
    ∷ (1 ∷ 6 ∷ 4 ∷ 2 ∷ 0 ∷ 3 ∷ 6 ∷ 7 ∷ 3 ∷ 0 ∷ 1 ∷ 6 ∷ 11 ∷ 2 ∷ 1 ∷ 3 ∷ 6 ∷ 14 ∷ 2 ∷ 1 ∷ 3 ∷ 6 ∷ 17 ∷ 2 ∷ 1 ∷ 9 ∷ [])
    ∷ []
unfolding all_definitions
filled_by_five Edition2005 = refl
filled_by_five Edition2025 = refl

-- the rows of the two envelopes with these ordinals
abbrev with_ordinals : ℕ → ℕ → ℕ → ℕ → ℕ → List ℕ
with_ordinals a b c d e = 1 ∷ 6 ∷ 4 ∷ 2 ∷ a ∷ 3 ∷ 6 ∷ 7 ∷ 3 ∷ b ∷ 1 ∷ 6 ∷ 11 ∷ 2 ∷ c ∷ 3 ∷ 6 ∷ 14 ∷ 2 ∷ d ∷ 3 ∷ 6 ∷ 17 ∷ 2 ∷ e ∷ []

abbrev room : Bytes
room = replicate 22 0x2D

-- true ones are written; 21: from 1, never raised, one too high, the row's before it, one past the last
abbrev ordinal_cases : List WriterCase
ordinal_cases =
    record { held = side_by_side.input; rows = with_ordinals 0 0 1 1 1; output = room; answer = 0 ∷ 21 ∷ []; after = side_by_side.input ++ ascii "-" }
    ∷ record { held = side_by_side.input; rows = with_ordinals 1 1 2 2 2; output = room; answer = 21 ∷ []; after = room }
    ∷ record { held = side_by_side.input; rows = with_ordinals 0 0 0 0 0; output = room; answer = 21 ∷ []; after = room }
    ∷ record { held = side_by_side.input; rows = with_ordinals 0 0 1 2 1; output = room; answer = 21 ∷ []; after = room }
    ∷ record { held = side_by_side.input; rows = with_ordinals 0 0 0 1 1; output = room; answer = 21 ∷ []; after = room }
    ∷ record { held = side_by_side.input; rows = with_ordinals 0 0 1 1 2; output = room; answer = 21 ∷ []; after = room }
    ∷ []

pub true_ordinals_answer : (edition : Edition) → map (λ (c : WriterCase). write_answer edition c.held c.rows (length c.output)) ordinal_cases ≡ map (λ (c : WriterCase). c.answer) ordinal_cases
unfolding all_definitions
true_ordinals_answer Edition2005 = refl
true_ordinals_answer Edition2025 = refl

pub true_ordinals_leave : (edition : Edition) → map (λ (c : WriterCase). output_after edition c.held c.rows c.output) ordinal_cases ≡ map (λ (c : WriterCase). c.after) ordinal_cases
unfolding all_definitions
true_ordinals_leave Edition2005 = refl
true_ordinals_leave Edition2025 = refl
