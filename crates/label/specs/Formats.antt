-- Which formats there are, and what each one's body is made of (01, Envelope rules).
use Rattle.std.specs.Prelude.{ℕ, Bool, not, ◌&&◌, cond, List, [], ◌∷◌, ◌++◌, eqb}
use Rattle.label.specs.declared.Edition.{Edition}
use Rattle.label.specs.declared.Edition.TheVariants.{Edition2005, Edition2025}
use Rattle.label.specs.declared.Limit.{Limit}
use Rattle.label.specs.Bytes.{Bytes, EOT, RS, control, below80}
use Rattle.label.specs.Values.{type_length, compression_length}
use Rattle.label.specs.Elements.{element05, element06, element12}
use Rattle.label.specs.Segments.{tag, tag03}

infix 80 ◌is◌
-- 02: below 80, no RS, no EOT
unfoldable pub rest_byte : ℕ → Bool
rest_byte b = below80 b && not (eqb b RS) && not (eqb b EOT)

-- 07: below 80, none of the five control bytes
unfoldable pub text_byte : ℕ → Bool
text_byte b = below80 b && not (control b)

-- what a body is made of: transport fields, all the rest of the message, segments, elements, text, or a counted payload; with the rule
-- for a byte, a tag or an element where formats differ in it, and for how long the header values in front of a count are
pub data Rule : Type 0 where
  as_fields : Rule
  as_rest : (ℕ → Bool) → Rule
  as_segments : (Bytes → Bool) → Rule
  as_elements : (Bytes → Bool) → Rule
  as_text : (ℕ → Bool) → Rule
  as_counted : List Limit → Rule
  unknown : Rule

pub record Format : Type 0 where
  pub number : ℕ
  pub rule : Rule

abbrev pub ◌is◌ : ℕ → Rule → Format
n is r = record { number = n; rule = r }

-- the list of formats (01, Envelope rules)
abbrev pub formats2005 : List Format
formats2005 =
    1 is as_fields
    ∷ 2 is as_rest rest_byte
    ∷ 3 is as_segments tag03
    ∷ 4 is as_segments tag
    ∷ 5 is as_elements element05
    ∷ 6 is as_elements element06
    ∷ 7 is as_text text_byte
    ∷ 9 is as_counted (type_length ∷ compression_length ∷ [])
    ∷ []

-- what an edition adds to it (02, No. 3)
abbrev pub added : Edition → List Format
added Edition2005 = []
added Edition2025 = 12 is as_elements element12 ∷ 15 is as_counted [] ∷ []

-- the formats of an edition; those of 2005 keep their rules in both
abbrev pub formats : Edition → List Format
formats edition = formats2005 ++ added edition

-- the edition that has every format of the others, by which rows are laid out and walked over; only judging goes by the one that is picked
abbrev pub widest : Edition
widest = Edition2025

abbrev pub rule_in : ℕ → List Format → Rule
rule_in n [] = unknown
rule_in n (f ∷ fs) = cond (eqb n f.number) f.rule (rule_in n fs)

-- a format's rule, unknown where the edition has no such format
unfoldable pub rule_of : Edition → ℕ → Rule
rule_of edition n = rule_in n (formats edition)
