-- An indicator's two digits and its number tell each other; every format in the list has a number of two digits.
use Prim.Native.Nat.{ℕ, ◌+◌, ◌/◌, ◌%◌, ◌<◌}
use mathlib.Core.Path.{◌≡◌, refl}
use mathlib.Core.Bool.{Bool, true, false, cond}
use mathlib.Core.List.{List, [], ◌∷◌}
use native.Mathlib.Omega.{arith}
use borrow.Author.Tests.{leb-true, le-leb, ltb-true, eqb-true}
use lib.Dec.{leb, ltb, eqb}
use Rattle.std.proofs.lemmas.Bool.{and_parts}
use Rattle.std.specs.Cmp.Derive.{both_true}
use Rattle.label.specs.Bytes.{digit, between, every}
use Rattle.label.specs.Values.{value}
use Rattle.label.specs.declared.Edition.{Edition}
use Rattle.label.specs.declared.Edition.TheVariants.{Edition2005, Edition2025}
use Rattle.label.specs.Formats.{Format, formats, unknown, rule_in, rule_of}
use Rattle.label.specs.Written.{two_digits}

digit_of : (n : ℕ) → n < 10 → digit (0x30 + n) ≡ true
unfolding digit between
digit_of n h = both_true (le-leb 0x30 (0x30 + n) (omega arith)) (le-leb (0x30 + n) 0x39 (omega arith))

pub record Indicates (n : ℕ) : Type 0 where
  pub first : digit (0x30 + n / 10) ≡ true
  pub second : digit (0x30 + n % 10) ≡ true
  pub number : value (two_digits n) ≡ n

-- the two digits of a number below 100 are digits, and make that number
pub two_digits_lem : (n : ℕ) → n < 100 → Indicates n
two_digits_lem n h = record { first = digit_of (n / 10) (omega arith); second = digit_of (n % 10) (omega arith); number = omega arith }

-- two digits are the two digits of the number that they make
pub digits_two : (a b : ℕ) → digit a ≡ true → digit b ≡ true → two_digits (value (a ∷ b ∷ [])) ≡ a ∷ b ∷ []
unfolding digit between
digits_two a b ha hb =
    let ka = and_parts (leb 0x30 a) (leb a 0x39) ha in
    let kb = and_parts (leb 0x30 b) (leb b 0x39) hb in
    let la = leb-true 0x30 a ka.0 in
    let ga = leb-true a 0x39 ka.1 in
    let lb = leb-true 0x30 b kb.0 in
    let gb = leb-true b 0x39 kb.1 in
    let tens : 0x30 + value (a ∷ b ∷ []) / 10 ≡ a = omega arith in
    let units : 0x30 + value (a ∷ b ∷ []) % 10 ≡ b = omega arith in
    λ i. tens i ∷ units i ∷ []

-- every number in the list of formats is below 100, so a known format's is
numbers_small : (edition : Edition) → every (λ (f : Format). ltb f.number 100) (formats edition) ≡ true
numbers_small Edition2005 = refl
numbers_small Edition2025 = refl

small_by : (n : ℕ) (f : Format) (fs : List Format) (t : Bool) → eqb n f.number ≡ t → f.number < 100 → ((rule_in n fs ≡ unknown → ⊥) → n < 100) → (cond t f.rule (rule_in n fs) ≡ unknown → ⊥) → n < 100
small_by n f fs true e small later known = let same = eqb-true n f.number e in omega arith
small_by n f fs false e small later known = later known

small_in : (n : ℕ) (fs : List Format) → every (λ (f : Format). ltb f.number 100) fs ≡ true → (rule_in n fs ≡ unknown → ⊥) → n < 100
small_in n [] h known = absurd (known refl)
small_in n (f ∷ fs) h known =
    let k = and_parts (ltb f.number 100) (every (λ (f : Format). ltb f.number 100) fs) h in
    small_by n f fs (eqb n f.number) refl (ltb-true f.number 100 k.0) (small_in n fs k.1) known

pub known_small : (edition : Edition) (n : ℕ) → (rule_of edition n ≡ unknown → ⊥) → n < 100
unfolding rule_of
known_small edition n known = small_in n (formats edition) (numbers_small edition) known
