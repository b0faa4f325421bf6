-- Formats 12 and 15 (02, No. 3): what the reading definition makes of messages with them, by computation. In the edition of 2025 they are read by their rules; in
-- that of 2005 each of these is refused with 6 at its indicator. H is `[)>` RS.
use Prim.Native.Nat.{ℕ}
use mathlib.Core.Path.{◌≡◌, refl}
use mathlib.Core.List.{List, [], ◌∷◌, ◌++◌, map}
use Rattle.label.specs.declared.Edition.{Edition}
use Rattle.label.specs.declared.Edition.TheVariants.{Edition2005, Edition2025}
use Rattle.label.specs.Bytes.{Bytes, ascii}
use Rattle.label.specs.Written.{two_digits}
use Rattle.label.specs.Answer.{printed}
use Rattle.label.proofs.AllDefinitions.{all_definitions}
use Rattle.cases.proofs.Cases.{Case, Stand}

-- two elements, the value of the second a space
abbrev two_elements : Case
two_elements = record { input = ascii "[)>\u{1e}12\u{1d}PNR 123\u{1d}SER  \u{1e}\u{4}"; lines = (0 ∷ 1 ∷ 3 ∷ []) ∷ (1 ∷ 12 ∷ 4 ∷ 2 ∷ 0 ∷ []) ∷ (3 ∷ 12 ∷ 7 ∷ 7 ∷ 0 ∷ []) ∷ (3 ∷ 12 ∷ 15 ∷ 5 ∷ 0 ∷ []) ∷ [] }

-- 12 has GS as its header: 8
abbrev no_header12 : Case
no_header12 = record { input = ascii "[)>\u{1e}12PNR 1\u{1e}\u{4}"; lines = (8 ∷ 4 ∷ []) ∷ [] }

-- no RS: 12, before anything of its elements
abbrev never_ends12 : Case
never_ends12 = record { input = ascii "[)>\u{1e}12\u{1d}pnr"; lines = (12 ∷ 4 ∷ []) ∷ [] }

-- a byte that is not plain: 10
abbrev odd_byte12 : Case
odd_byte12 = record { input = ascii "[)>\u{1e}12\u{1d}PNR \u{7f}\u{1e}\u{4}"; lines = (10 ∷ 4 ∷ []) ∷ [] }

-- the space is asked: 11 at the element
abbrev no_space12 : Case
no_space12 = record { input = ascii "[)>\u{1e}12\u{1d}PNR123\u{1e}\u{4}"; lines = (11 ∷ 7 ∷ []) ∷ [] }

-- and a byte behind it
abbrev no_value12 : Case
no_value12 = record { input = ascii "[)>\u{1e}12\u{1d}PNR \u{1e}\u{4}"; lines = (11 ∷ 7 ∷ []) ∷ [] }

-- three capitals or digits
abbrev lower_case12 : Case
lower_case12 = record { input = ascii "[)>\u{1e}12\u{1d}PnR 1\u{1e}\u{4}"; lines = (11 ∷ 7 ∷ []) ∷ [] }

-- 11 at the first faulty element
abbrev second_faulty12 : Case
second_faulty12 = record { input = ascii "[)>\u{1e}12\u{1d}PNR 1\u{1d}SER\u{1d}X\u{1e}\u{4}"; lines = (11 ∷ 13 ∷ []) ∷ [] }

-- an empty body is one empty element: 11 behind the GS
abbrev no_element12 : Case
no_element12 = record { input = ascii "[)>\u{1e}12\u{1d}\u{1e}\u{4}"; lines = (11 ∷ 7 ∷ []) ∷ [] }

-- a payload of any bytes, RS and EOT too
abbrev any_bytes15 : Case
any_bytes15 = record { input = ascii "[)>\u{1e}15003\u{1d}\u{1e}\u{4}\u{80}\u{1e}\u{4}"; lines = (0 ∷ 1 ∷ 3 ∷ []) ∷ (1 ∷ 15 ∷ 4 ∷ 2 ∷ 0 ∷ []) ∷ (2 ∷ 15 ∷ 6 ∷ 3 ∷ 0 ∷ []) ∷ (7 ∷ 15 ∷ 10 ∷ 3 ∷ 0 ∷ []) ∷ [] }

-- a count of 0
abbrev no_bytes15 : Case
no_bytes15 = record { input = ascii "[)>\u{1e}150\u{1d}\u{1e}\u{4}"; lines = (0 ∷ 1 ∷ 3 ∷ []) ∷ (1 ∷ 15 ∷ 4 ∷ 2 ∷ 0 ∷ []) ∷ (2 ∷ 15 ∷ 6 ∷ 1 ∷ 0 ∷ []) ∷ (7 ∷ 15 ∷ 8 ∷ 0 ∷ 0 ∷ []) ∷ [] }

-- a count of fifteen digits
abbrev most_digits15 : Case
most_digits15 = record { input = ascii "[)>\u{1e}15000000000000001\u{1d}A\u{1e}\u{4}"; lines = (0 ∷ 1 ∷ 3 ∷ []) ∷ (1 ∷ 15 ∷ 4 ∷ 2 ∷ 0 ∷ []) ∷ (2 ∷ 15 ∷ 6 ∷ 15 ∷ 0 ∷ []) ∷ (7 ∷ 15 ∷ 22 ∷ 1 ∷ 0 ∷ []) ∷ [] }

-- and of sixteen: 8
abbrev too_many_digits15 : Case
too_many_digits15 = record { input = ascii "[)>\u{1e}150000000000000001\u{1d}A\u{1e}\u{4}"; lines = (8 ∷ 4 ∷ []) ∷ [] }

-- no GS stands before the count: 8
abbrev separator_first15 : Case
separator_first15 = record { input = ascii "[)>\u{1e}15\u{1d}1\u{1d}A\u{1e}\u{4}"; lines = (8 ∷ 4 ∷ []) ∷ [] }

-- a count is digits: 8
abbrev no_count15 : Case
no_count15 = record { input = ascii "[)>\u{1e}15A\u{1d}A\u{1e}\u{4}"; lines = (8 ∷ 4 ∷ []) ∷ [] }

-- and ends with GS: 8
abbrev never_ends15 : Case
never_ends15 = record { input = ascii "[)>\u{1e}151"; lines = (8 ∷ 4 ∷ []) ∷ [] }

-- fewer bytes than counted: 9
abbrev too_short15 : Case
too_short15 = record { input = ascii "[)>\u{1e}153\u{1d}AB\u{1e}\u{4}"; lines = (9 ∷ 4 ∷ []) ∷ [] }

-- more bytes than counted: 9
abbrev too_long15 : Case
too_long15 = record { input = ascii "[)>\u{1e}151\u{1d}AB\u{1e}\u{4}"; lines = (9 ∷ 4 ∷ []) ∷ [] }

-- nothing behind its RS: 4
abbrev no_trailer15 : Case
no_trailer15 = record { input = ascii "[)>\u{1e}151\u{1d}A\u{1e}"; lines = (4 ∷ 10 ∷ []) ∷ [] }

-- 01 stands only first: 7
abbrev transport_behind12 : Case
transport_behind12 = record { input = ascii "[)>\u{1e}12\u{1d}PNR 1\u{1e}01\u{1d}02"; lines = (7 ∷ 13 ∷ []) ∷ [] }

-- and 02 only alone: 7
abbrev rest_behind15 : Case
rest_behind15 = record { input = ascii "[)>\u{1e}150\u{1d}\u{1e}02X"; lines = (7 ∷ 9 ∷ []) ∷ [] }

abbrev added_cases : List Case
added_cases =
    two_elements
    ∷ no_header12
    ∷ never_ends12
    ∷ odd_byte12
    ∷ no_space12
    ∷ no_value12
    ∷ lower_case12
    ∷ second_faulty12
    ∷ no_element12
    ∷ any_bytes15
    ∷ no_bytes15
    ∷ most_digits15
    ∷ too_many_digits15
    ∷ separator_first15
    ∷ no_count15
    ∷ never_ends15
    ∷ too_short15
    ∷ too_long15
    ∷ no_trailer15
    ∷ transport_behind12
    ∷ rest_behind15
    ∷ []

pub the_added : Stand Edition2025 added_cases
unfolding all_definitions
the_added = refl

pub unknown_in_2005 : map (λ (c : Case). printed Edition2005 c.input) added_cases ≡ map (λ (c : Case). (6 ∷ 4 ∷ []) ∷ []) added_cases
unfolding all_definitions
unknown_in_2005 = refl

-- behind others: 6 at the indicator in the edition of 2005
abbrev behind_elements : Bytes
behind_elements = ascii "[)>\u{1e}06\u{1d}1P7\u{1e}151\u{1d}A\u{1e}12\u{1d}PNR 1\u{1e}\u{4}"

pub behind_others : (edition : Edition) → printed edition behind_elements ≡ elim edition [ Edition2005 ↦ (6 ∷ 11 ∷ []) ∷ [] | Edition2025 ↦ (0 ∷ 3 ∷ 7 ∷ []) ∷ (1 ∷ 6 ∷ 4 ∷ 2 ∷ 0 ∷ []) ∷ (3 ∷ 6 ∷ 7 ∷ 3 ∷ 0 ∷ []) ∷ (1 ∷ 15 ∷ 11 ∷ 2 ∷ 1 ∷ []) ∷ (2 ∷ 15 ∷ 13 ∷ 1 ∷ 1 ∷ []) ∷ (7 ∷ 15 ∷ 15 ∷ 1 ∷ 1 ∷ []) ∷ (1 ∷ 12 ∷ 17 ∷ 2 ∷ 2 ∷ []) ∷ (3 ∷ 12 ∷ 20 ∷ 5 ∷ 2 ∷ []) ∷ [] ]
unfolding all_definitions
behind_others Edition2005 = refl
behind_others Edition2025 = refl

-- 6 in either edition: the numbers that neither has
abbrev lacking_in : List ℕ
lacking_in = 0 ∷ 8 ∷ 10 ∷ 11 ∷ 13 ∷ 14 ∷ 16 ∷ 19 ∷ 20 ∷ 25 ∷ 52 ∷ 98 ∷ 99 ∷ []

pub unknown_in_both : (edition : Edition) → map (λ f. printed edition (ascii "[)>\u{1e}" ++ (two_digits f ++ ascii "\u{1d}1P7\u{1e}\u{4}"))) lacking_in ≡ map (λ f. (6 ∷ 4 ∷ []) ∷ []) lacking_in
unfolding all_definitions
unknown_in_both Edition2005 = refl
unknown_in_both Edition2025 = refl
