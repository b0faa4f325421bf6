-- Document 02, No. 2, as it is read: which weights are good in version 02 and in version 96, and which number another one has. By computation.
use Prim.Native.Nat.{ℕ}
use Prim.Native.String.{String}
use mathlib.Core.Path.{refl}
use mathlib.Core.List.{List, [], ◌∷◌, ◌++◌}
use Rattle.label.specs.declared.Edition.{Edition}
use Rattle.label.specs.declared.Edition.TheVariants.{Edition2005, Edition2025}
use Rattle.label.specs.Bytes.{Bytes, ascii}
use Rattle.label.proofs.AllDefinitions.{all_definitions}
use Rattle.cases.proofs.Cases.{Case, Stand}

-- Labels whose tenth and last field is a weight, fields 6 to 9 being left out. In version 02 the weight starts at 26, in version 96 at 29.

abbrev pub with02 : String → Bytes
with02 weight = ascii "[)>\u{1e}01\u{1d}02\u{1d}840\u{1d}1\u{1d}1Z\u{1d}UP\u{1d}\u{1d}\u{1d}\u{1d}\u{1d}" ++ ascii weight ++ ascii "\u{1e}\u{4}"

abbrev pub with96 : String → Bytes
with96 weight = ascii "[)>\u{1e}01\u{1d}96ABC\u{1d}840\u{1d}1\u{1d}1Z\u{1d}UP\u{1d}\u{1d}\u{1d}\u{1d}\u{1d}" ++ ascii weight ++ ascii "\u{1e}\u{4}"

-- so many rows: those in front of the weight, and others from it on
abbrev rows02 : ℕ → List (List ℕ) → List (List ℕ)
rows02 n more =
    (0 ∷ 1 ∷ n ∷ []) ∷ (1 ∷ 1 ∷ 4 ∷ 2 ∷ 0 ∷ []) ∷ (2 ∷ 1 ∷ 7 ∷ 2 ∷ 0 ∷ [])
    ∷ (3 ∷ 1 ∷ 9 ∷ 0 ∷ 0 ∷ []) ∷ (3 ∷ 1 ∷ 10 ∷ 3 ∷ 0 ∷ []) ∷ (3 ∷ 1 ∷ 14 ∷ 1 ∷ 0 ∷ []) ∷ (3 ∷ 1 ∷ 16 ∷ 2 ∷ 0 ∷ []) ∷ (3 ∷ 1 ∷ 19 ∷ 2 ∷ 0 ∷ [])
    ∷ (3 ∷ 1 ∷ 22 ∷ 0 ∷ 0 ∷ []) ∷ (3 ∷ 1 ∷ 23 ∷ 0 ∷ 0 ∷ []) ∷ (3 ∷ 1 ∷ 24 ∷ 0 ∷ 0 ∷ []) ∷ (3 ∷ 1 ∷ 25 ∷ 0 ∷ 0 ∷ []) ∷ more

abbrev rows96 : ℕ → List (List ℕ) → List (List ℕ)
rows96 n more =
    (0 ∷ 1 ∷ n ∷ []) ∷ (1 ∷ 1 ∷ 4 ∷ 2 ∷ 0 ∷ []) ∷ (2 ∷ 1 ∷ 7 ∷ 2 ∷ 0 ∷ [])
    ∷ (3 ∷ 1 ∷ 9 ∷ 3 ∷ 0 ∷ []) ∷ (3 ∷ 1 ∷ 13 ∷ 3 ∷ 0 ∷ []) ∷ (3 ∷ 1 ∷ 17 ∷ 1 ∷ 0 ∷ []) ∷ (3 ∷ 1 ∷ 19 ∷ 2 ∷ 0 ∷ []) ∷ (3 ∷ 1 ∷ 22 ∷ 2 ∷ 0 ∷ [])
    ∷ (3 ∷ 1 ∷ 25 ∷ 0 ∷ 0 ∷ []) ∷ (3 ∷ 1 ∷ 26 ∷ 0 ∷ 0 ∷ []) ∷ (3 ∷ 1 ∷ 27 ∷ 0 ∷ 0 ∷ []) ∷ (3 ∷ 1 ∷ 28 ∷ 0 ∷ 0 ∷ []) ∷ more

-- a good weight of so many bytes
abbrev good02 : String → ℕ → Case
good02 weight n = record { input = with02 weight; lines = rows02 12 ((3 ∷ 1 ∷ 26 ∷ n ∷ 0 ∷ []) ∷ []) }

abbrev good96 : String → ℕ → Case
good96 weight n = record { input = with96 weight; lines = rows96 12 ((3 ∷ 1 ∷ 29 ∷ n ∷ 0 ∷ []) ∷ []) }

-- one that is refused with a number, where it starts
abbrev bad02 : String → ℕ → Case
bad02 weight number = record { input = with02 weight; lines = (number ∷ 26 ∷ []) ∷ [] }

abbrev bad96 : String → ℕ → Case
bad96 weight number = record { input = with96 weight; lines = (number ∷ 29 ∷ []) ∷ [] }

-- a weight that is left out in front of the cross match
abbrev left_out02 : Case
left_out02 = record { input = with02 "\u{1d}Y"; lines = rows02 13 ((3 ∷ 1 ∷ 26 ∷ 0 ∷ 0 ∷ []) ∷ (3 ∷ 1 ∷ 27 ∷ 1 ∷ 0 ∷ []) ∷ []) }

abbrev left_out96 : Case
left_out96 = record { input = with96 "\u{1d}N"; lines = rows96 13 ((3 ∷ 1 ∷ 29 ∷ 0 ∷ 0 ∷ []) ∷ (3 ∷ 1 ∷ 30 ∷ 1 ∷ 0 ∷ []) ∷ []) }

-- `1-1` as n/x, and behind it a weight without its unit
abbrev behind_bytes : Case
behind_bytes = record { input = ascii "[)>\u{1e}01\u{1d}02\u{1d}840\u{1d}1\u{1d}1Z\u{1d}UP\u{1d}\u{1d}\u{1d}\u{1d}1-1\u{1d}5\u{1e}\u{4}"; lines = (33 ∷ 25 ∷ []) ∷ [] }

abbrev pub weights : List Case
weights =
    -- version 02: 3 to 10 bytes, and as the last field not none
    bad02 "" 30 ∷ bad02 "5" 31 ∷ bad02 "." 31 ∷ bad02 "LB" 31 ∷ bad02 "5K" 31 ∷ bad02 "10" 31
    ∷ good02 "5LB" 3 ∷ good02 "5KG" 3 ∷ good02 "12345678LB" 10 ∷ good02 "12345678KG" 10
    ∷ bad02 "123456789LB" 32 ∷ bad02 "1234567890KG" 32 ∷ bad02 "12345678901" 32
    -- at most one point, anywhere in the number, which counts among its bytes
    ∷ good02 "1.LB" 4 ∷ good02 ".1LB" 4 ∷ good02 "0.06LB" 6 ∷ good02 "1234.678KG" 10 ∷ good02 ".2345678KG" 10 ∷ good02 "1234567.LB" 10
    ∷ bad02 "12345678.LB" 32 ∷ bad02 "1..2LB" 33 ∷ bad02 "1.2.LB" 33 ∷ bad02 ".1.KG" 33
    -- at least one digit
    ∷ bad02 ".LB" 33 ∷ bad02 ".KG" 33 ∷ bad02 "..KG" 33
    -- one unit, behind the number and right behind it, in capitals
    ∷ bad02 "100" 33 ∷ bad02 "12.5" 33 ∷ bad02 "1234567890" 33 ∷ bad02 "LBS" 33 ∷ bad02 "LB5" 33 ∷ bad02 "5LBKG" 33 ∷ bad02 "5LG" 33 ∷ bad02 "5BL" 33
    ∷ bad02 "5LBS" 33 ∷ bad02 "5LB " 33 ∷ bad02 "5 KG" 33 ∷ bad02 "5kg" 33 ∷ bad02 "5Kg" 33 ∷ bad02 "5lb" 33
    -- digits and nothing else
    ∷ bad02 "1,5KG" 33 ∷ bad02 "-5KG" 33 ∷ bad02 " 5KG" 33 ∷ bad02 "5E2KG" 33
    -- version 96: 1 to 10 bytes of the same number, without a unit
    ∷ bad96 "" 30 ∷ good96 "5" 1 ∷ good96 "1." 2 ∷ good96 ".1" 2 ∷ good96 "1234567890" 10 ∷ good96 "123456789." 10 ∷ good96 ".234567890" 10
    ∷ bad96 "12345678901" 32 ∷ bad96 "1234567890." 32
    ∷ bad96 "." 33 ∷ bad96 ".." 33 ∷ bad96 "1..2" 33 ∷ bad96 "1.2.3" 33
    ∷ bad96 "5LB" 33 ∷ bad96 "5KG" 33 ∷ bad96 "LB" 33 ∷ bad96 "A" 33 ∷ bad96 " 5" 33
    -- left out where it isn't the last
    ∷ left_out02 ∷ left_out96
    -- fields go from the left: it is judged behind n/x, and before a cross match that is too long
    ∷ behind_bytes ∷ bad02 "5\u{1d}YY" 31 ∷ bad02 "123456789LB\u{1d}YY" 32 ∷ bad02 "5kg\u{1d}YY" 33 ∷ bad96 "5LB\u{1d}YY" 33
    ∷ []

pub the_weights : (edition : Edition) → Stand edition weights
unfolding all_definitions
the_weights Edition2005 = refl
the_weights Edition2025 = refl
