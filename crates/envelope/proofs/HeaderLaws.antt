-- An indicator's number by what its two bytes are worth, and what an envelope's reading makes of it.
use Rattle.std.specs.Prelude.{Some, None}
use Prim.Native.Nat.{ℕ, ◌+◌, ◌-◌, ◌*◌, ◌≤◌, ◌<◌}
use mathlib.Core.Path.{◌≡◌, refl, sym, ap, ◌∙◌}
use mathlib.Core.Bool.{Bool, true, false, ◌&&◌, cond}
use mathlib.Core.List.{[], ◌∷◌}
use native.Mathlib.Omega.{arith}
use borrow.Author.Tests.{leb-true, ltb-true, ltb-false, lt-ltb}
use lib.ListN.{length, get_or, drop, length-drop}
use lib.Dec.{leb, ltb}
use Rattle.std.proofs.lemmas.Bool.{and_parts, cond-true}
use Rattle.std.specs.Cmp.Derive.{both_true}
use Rattle.std.proofs.lemmas.List.{drop_more, take_rest}
use Rattle.label.specs.declared.Reason.TheVariants.{NoIndicator}
use Rattle.label.specs.Bytes.{Bytes, digit, between}
use Rattle.label.specs.Values.{value}
use Rattle.label.specs.declared.Edition.{Edition}
use Rattle.label.specs.Formats.{rule_of}
use Rattle.label.specs.ReadEnvelope.{refuse, must, read_by, read_envelope}
use Rattle.leaves.specs.Classes.{digit_of}
use Rattle.envelope.specs.Headers.{if_below, no_indicator, indicator_of}

-- a number if a test holds

some_if : (t : Bool) (n x : ℕ) → Some x ≡ cond t (Some n) None → (t ≡ true) × (n ≡ x)
some_if true n x is = let same : n ≡ x = cc in (refl, same)
some_if false n x is = let z : ◌≡◌ {A = ℕ} 0 1 = cc in absurd (omega arith)

none_if : (t : Bool) (n : ℕ) → None ≡ cond t (Some n) None → t ≡ false
none_if true n is = let z : ◌≡◌ {A = ℕ} 0 1 = cc in absurd (omega arith)
none_if false n is = refl

-- a number below a limit, or none
pub not_below : (limit n : ℕ) → None ≡ if_below limit n → limit ≤ n
not_below limit n none = ltb-false n limit (none_if (ltb n limit) n none)

-- the number that is there is below the limit
pub is_below : (limit n f : ℕ) → Some f ≡ if_below limit n → (n ≡ f) × (n < limit)
is_below limit n f some = let is = some_if (ltb n limit) n f some in (is.1, ltb-true n limit is.0)

-- the number that two digits make

value_small : (a b : ℕ) → digit a ≡ true → digit b ≡ true → value (a ∷ b ∷ []) < 100
unfolding digit between
value_small a b p q =
    let g = leb-true a 0x39 (and_parts (leb 0x30 a) (leb a 0x39) p).1 in
    let h = leb-true b 0x39 (and_parts (leb 0x30 b) (leb b 0x39) q).1 in
    omega arith

pub indicator_made : (bs : Bytes) (x y : ℕ) → 2 ≤ length bs → Some x ≡ digit_of (get_or bs 0 0) → Some y ≡ digit_of (get_or bs 1 0) → Some (x * 10 + y) ≡ if_below no_indicator (indicator_of bs)
indicator_made [] x y long ten unit = absurd (omega arith)
indicator_made (a ∷ []) x y long ten unit = absurd (omega arith)
indicator_made (a ∷ (b ∷ bs)) x y long ten unit =
    let tens = some_if (digit a) (a - 0x30) x ten in
    let units = some_if (digit b) (b - 0x30) y unit in
    let small = value_small a b tens.0 units.0 in
    let is : value (a ∷ b ∷ []) ≡ x * 10 + y = omega (arith, tens.1, units.1) in
    sym (ap (if_below no_indicator) (cond-true _ _ _ (both_true tens.0 units.0) ∙ is) ∙ cond-true _ _ _ (lt-ltb (x * 10 + y) no_indicator (omega arith)))

pub ruleset indicator_steps = (take_rest, indicator_made)

-- two bytes and what follows
pub drop_two : (m : Bytes) (at : ℕ) → at + 2 ≤ length m → drop at m ≡ get_or m at 0 ∷ (get_or m (at + 1) 0 ∷ drop (at + 2) m)
drop_two m at h =
    let two : at + 1 + 1 ≡ at + 2 = omega arith in
    drop_more m at 0 (omega arith)
    ∙ ap (λ r. get_or m at 0 ∷ r) (drop_more m (at + 1) 0 (omega arith) ∙ ap (λ n. get_or m (at + 1) 0 ∷ drop n m) two)

-- the reading of an envelope, by its indicator's number

pub read_none : (edition : Edition) (first : Bool) (bs : Bytes) → indicator_of bs ≡ no_indicator → read_envelope edition first bs ≡ refuse NoIndicator
unfolding read_envelope
read_none edition first [] is = refl
read_none edition first (a ∷ []) is = refl
read_none edition first (a ∷ (b ∷ bs)) is = by (digit a) (digit b) refl refl is
  where
    by : (s t : Bool) → digit a ≡ s → digit b ≡ t → cond (s && t) (value (a ∷ b ∷ [])) no_indicator ≡ no_indicator → read_envelope edition first (a ∷ (b ∷ bs)) ≡ refuse NoIndicator
    by true true p q is = let small = value_small a b p q in absurd (omega arith)
    by true false p q is = ap (λ t. must t NoIndicator (read_by (rule_of edition (value (a ∷ b ∷ []))) first (value (a ∷ b ∷ [])) bs)) (λ i. p i && q i)
    by false t p q is = ap (λ t. must t NoIndicator (read_by (rule_of edition (value (a ∷ b ∷ []))) first (value (a ∷ b ∷ [])) bs)) (ap (λ s. s && digit b) p)

pub read_some : (edition : Edition) (first : Bool) (f : ℕ) (bs : Bytes) → indicator_of bs ≡ f → f < no_indicator → read_envelope edition first bs ≡ read_by (rule_of edition f) first f (drop 2 bs)
unfolding read_envelope
read_some edition first f [] is small = absurd (omega arith)
read_some edition first f (a ∷ []) is small = absurd (omega arith)
read_some edition first f (a ∷ (b ∷ bs)) is small = by (digit a) (digit b) refl refl is
  where
    by : (s t : Bool) → digit a ≡ s → digit b ≡ t → cond (s && t) (value (a ∷ b ∷ [])) no_indicator ≡ f → read_envelope edition first (a ∷ (b ∷ bs)) ≡ read_by (rule_of edition f) first f bs
    by true true p q is = ap (λ t. must t NoIndicator (read_by (rule_of edition (value (a ∷ b ∷ []))) first (value (a ∷ b ∷ [])) bs)) (λ i. p i && q i) ∙ ap (λ n. read_by (rule_of edition n) first n bs) is
    by true false p q is = absurd (omega arith)
    by false t p q is = absurd (omega arith)

pub indicator_limit : (bs : Bytes) → indicator_of bs ≤ no_indicator
indicator_limit [] = omega arith
indicator_limit (a ∷ []) = omega arith
indicator_limit (a ∷ (b ∷ bs)) = by (digit a) (digit b) refl refl
  where
    by : (s t : Bool) → digit a ≡ s → digit b ≡ t → cond (s && t) (value (a ∷ b ∷ [])) no_indicator ≤ no_indicator
    by true true p q = let small = value_small a b p q in omega arith
    by true false p q = omega arith
    by false t p q = omega arith

pub indicator_inside : (m : Bytes) (at : ℕ) → indicator_of (drop at m) < no_indicator → at + 2 ≤ length m
indicator_inside m at there = by (drop at m) refl there
  where
    by : (bs : Bytes) → drop at m ≡ bs → indicator_of bs < no_indicator → at + 2 ≤ length m
    by [] is there = absurd (omega arith)
    by (a ∷ []) is there = absurd (omega arith)
    by (a ∷ (b ∷ bs)) is there = omega (arith, ap length is, length-drop at m)
