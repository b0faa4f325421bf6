-- Editions: what holds of each rule in the list of formats holds of the rule of every number; a format that an edition knows has the same rule in the
-- widest, by which rows are laid out and walked over; and the two editions have the same rule for every number but 12 and 15, which that of 2005 lacks.
use Prim.Native.Nat.{ℕ}
use mathlib.Core.Path.{◌≡◌, refl, sym, ap, ◌∙◌}
use mathlib.Core.Bool.{Bool, true, false, cond, true≢false, false≢true}
use mathlib.Core.Logic.{◌⊎◌, inl, inr}
use mathlib.Core.List.{List, [], ◌∷◌, ◌++◌}
use borrow.Author.Tests.{eqb-true}
use lib.Dec.{eqb}
use Rattle.std.proofs.lemmas.Bool.{and_parts}
use Rattle.label.specs.declared.Edition.{Edition}
use Rattle.label.specs.declared.Edition.TheVariants.{Edition2005, Edition2025}
use Rattle.label.specs.Bytes.{every}
use Rattle.label.specs.Elements.{element12}
use Rattle.label.specs.Formats.{Format, formats2005, added, formats, widest, rule_in, Rule, rule_of, as_fields, as_rest, as_segments, as_elements, as_text, as_counted, unknown}
use Rattle.label.specs.Message.{Each}

each_in : (Fact : Rule → Type 0) → Fact unknown → (n : ℕ) (fs : List Format) → Each (λ (f : Format). Fact f.rule) fs → Fact (rule_in n fs)
each_in Fact none n [] hs = none
each_in Fact none n (f ∷ fs) hs = by (eqb n f.number) (each_in Fact none n fs hs.1)
  where
    by : (t : Bool) → Fact (rule_in n fs) → Fact (cond t f.rule (rule_in n fs))
    by true later = hs.0
    by false later = later

pub each_rule : (Fact : Rule → Type 0) → Fact unknown → (edition : Edition) (n : ℕ) → Each (λ (f : Format). Fact f.rule) (formats edition) → Fact (rule_of edition n)
unfolding rule_of
each_rule Fact none edition n hs = each_in Fact none n (formats edition) hs

abbrev pub is_known : Rule → Bool
is_known as_fields = true
is_known (as_rest permitted) = true
is_known (as_segments is_tag) = true
is_known (as_elements is_element) = true
is_known (as_text permitted) = true
is_known (as_counted limits) = true
is_known unknown = false

-- a format that is in a list keeps its rule however many are added
in_longer : (n : ℕ) (fs gs : List Format) → is_known (rule_in n fs) ≡ true → rule_in n (fs ++ gs) ≡ rule_in n fs
in_longer n [] gs known = absurd (false≢true known)
in_longer n (f ∷ fs) gs known = by (eqb n f.number) (in_longer n fs gs) known
  where
    by : (t : Bool) → (is_known (rule_in n fs) ≡ true → rule_in n (fs ++ gs) ≡ rule_in n fs) → is_known (cond t f.rule (rule_in n fs)) ≡ true
        → cond t f.rule (rule_in n (fs ++ gs)) ≡ cond t f.rule (rule_in n fs)
    by true later known = refl
    by false later known = later known

pub known_in_2025 : (n : ℕ) → is_known (rule_of Edition2005 n) ≡ true → rule_of Edition2025 n ≡ rule_of Edition2005 n
unfolding rule_of
known_in_2025 n known = in_longer n formats2005 (added Edition2025) known

pub known_in_widest : (edition : Edition) (n : ℕ) (rule : Rule) → rule_of edition n ≡ rule → is_known rule ≡ true → rule_of widest n ≡ rule
known_in_widest Edition2005 n rule is known = known_in_2025 n (ap is_known is ∙ known) ∙ is
known_in_widest Edition2025 n rule is known = is

-- Where the editions differ

not_known : (rule : Rule) → is_known rule ≡ false → rule ≡ unknown
not_known as_fields h = absurd (true≢false h)
not_known (as_rest permitted) h = absurd (true≢false h)
not_known (as_segments is_tag) h = absurd (true≢false h)
not_known (as_elements is_element) h = absurd (true≢false h)
not_known (as_text permitted) h = absurd (true≢false h)
not_known (as_counted limits) h = absurd (true≢false h)
not_known unknown h = refl

-- a format that a list of known rules lacks has its rule from what is added
in_added : (n : ℕ) (fs gs : List Format) → every (λ (f : Format). is_known f.rule) fs ≡ true → is_known (rule_in n fs) ≡ false → rule_in n (fs ++ gs) ≡ rule_in n gs
in_added n [] gs all lacks = refl
in_added n (f ∷ fs) gs all lacks =
    let k = and_parts (is_known f.rule) (every (λ (f : Format). is_known f.rule) fs) all in
    by (eqb n f.number) k.0 (in_added n fs gs k.1) lacks
  where
    by : (t : Bool) → is_known f.rule ≡ true → (is_known (rule_in n fs) ≡ false → rule_in n (fs ++ gs) ≡ rule_in n gs) → is_known (cond t f.rule (rule_in n fs)) ≡ false
        → cond t f.rule (rule_in n (fs ++ gs)) ≡ rule_in n gs
    by true known later lacks = absurd (true≢false (sym known ∙ lacks))
    by false known later lacks = later lacks

lacking_in_2005 : (n : ℕ) → is_known (rule_of Edition2005 n) ≡ false → rule_of Edition2025 n ≡ rule_in n (added Edition2025)
unfolding rule_of
lacking_in_2005 n lacks = in_added n formats2005 (added Edition2025) refl lacks

numbers_added : (n : ℕ) → (rule_in n (added Edition2025) ≡ unknown) ⊎ ((n ≡ 12) ⊎ (n ≡ 15))
numbers_added n = by (eqb n 12) (eqb n 15) refl refl
  where
    by : (s t : Bool) → eqb n 12 ≡ s → eqb n 15 ≡ t → (cond s (as_elements element12) (cond t (as_counted []) unknown) ≡ unknown) ⊎ ((n ≡ 12) ⊎ (n ≡ 15))
    by true t is other = inr (inl (eqb-true n 12 is))
    by false true other is = inr (inr (eqb-true n 15 is))
    by false false neither nor = inl refl

-- a number has the same rule in both editions, or it is one that is added
pub rules_differ : (n : ℕ) → (rule_of Edition2025 n ≡ rule_of Edition2005 n) ⊎ ((rule_of Edition2005 n ≡ unknown) × ((n ≡ 12) ⊎ (n ≡ 15)))
rules_differ n = by_known (is_known (rule_of Edition2005 n)) refl
  where
    by_added : is_known (rule_of Edition2005 n) ≡ false → (rule_in n (added Edition2025) ≡ unknown) ⊎ ((n ≡ 12) ⊎ (n ≡ 15))
        → (rule_of Edition2025 n ≡ rule_of Edition2005 n) ⊎ ((rule_of Edition2005 n ≡ unknown) × ((n ≡ 12) ⊎ (n ≡ 15)))
    by_added lacks (inl none) = inl (lacking_in_2005 n lacks ∙ none ∙ sym (not_known (rule_of Edition2005 n) lacks))
    by_added lacks (inr is) = inr (not_known (rule_of Edition2005 n) lacks, is)

    by_known : (t : Bool) → is_known (rule_of Edition2005 n) ≡ t → (rule_of Edition2025 n ≡ rule_of Edition2005 n) ⊎ ((rule_of Edition2005 n ≡ unknown) × ((n ≡ 12) ⊎ (n ≡ 15)))
    by_known true known = inl (known_in_2025 n known)
    by_known false lacks = by_added lacks (numbers_added n)
