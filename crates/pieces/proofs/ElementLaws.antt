-- What an element of 05, 06 or 12 is, by the tests that the code makes of its length and of one byte after another.
use Prim.Native.Nat.{ℕ, zero, suc, ◌+◌, ◌≤◌, ◌<◌}
use mathlib.Core.Path.{◌≡◌, refl, sym, ap, ◌∙◌}
use mathlib.Core.Bool.{Bool, true, false, ◌&&◌, cond, and-true}
use mathlib.Core.List.{[], ◌∷◌}
use native.Mathlib.Omega.{arith}
use borrow.Author.Tests.{le-leb, lt-leb, leb-true, eq-eqb, ne_eqb}
use lib.ListN.{length, get_or, take, drop}
use lib.Dec.{leb, eqb}
use Rattle.std.specs.List.{prefix_len}
use Rattle.label.specs.Bytes.{Bytes, ascii, digit, capital, capital_or_digit, between, every, same_bytes}
use Rattle.label.specs.Elements.{element05, capital_and_more, after_digits, element12}

pub element05_short : (s : Bytes) → length s < 3 → false ≡ element05 s
unfolding element05
element05_short s short = sym (ap (λ t. t && every digit (take 2 s)) (lt-leb 3 (length s) short))

pub element05_long : (s : Bytes) → 3 ≤ length s → (digit (get_or s 0 0) && digit (get_or s 1 0)) ≡ element05 s
unfolding element05
element05_long [] long = absurd (omega arith)
element05_long (a ∷ []) long = absurd (omega arith)
element05_long (a ∷ (b ∷ [])) long = absurd (omega arith)
element05_long (a ∷ (b ∷ (c ∷ s))) long =
    sym (ap (λ t. t && (digit a && (digit b && true))) (le-leb 3 (suc (suc (suc (length s)))) (omega arith)) ∙ ap (λ t. digit a && t) (and-true (digit b)))

capital_first : (s : Bytes) → 2 ≤ length s → (leb 0x41 (get_or s 0 0) && leb (get_or s 0 0) 0x5A) ≡ capital_and_more s
unfolding capital_and_more capital between
capital_first [] long = absurd (omega arith)
capital_first (b ∷ []) long = absurd (omega arith)
capital_first (b ∷ (x ∷ s)) long = sym (and-true (leb 0x41 b && leb b 0x5A))

pub capital_front : (s : Bytes) → 2 ≤ length s → 0x41 ≤ get_or s 0 0 → get_or s 0 0 ≤ 0x5A → true ≡ capital_and_more s
capital_front s long from to = sym (λ i. le-leb _ _ from i && le-leb _ _ to i) ∙ capital_first s long

pub no_capital : (s : Bytes) → (2 ≤ length s → 0x41 ≤ get_or s 0 0 → get_or s 0 0 ≤ 0x5A → ⊥) → false ≡ capital_and_more s
unfolding capital_and_more capital between
no_capital [] none = refl
no_capital (b ∷ []) none = by (leb 0x41 b && leb b 0x5A)
  where
    by : (t : Bool) → false ≡ (t && false)
    by true = refl
    by false = refl
no_capital (b ∷ (x ∷ s)) none = by (leb 0x41 b) (leb b 0x5A) refl refl
  where
    by : (l r : Bool) → leb 0x41 b ≡ l → leb b 0x5A ≡ r → false ≡ ((l && r) && true)
    by false r low high = refl
    by true false low high = refl
    by true true low high = absurd (none (omega arith) (leb-true 0x41 b low) (leb-true b 0x5A high))

-- behind the digits in front, n at most, stands the capital
pub behind_digits : (n : ℕ) (s : Bytes) → capital_and_more (drop (prefix_len digit (take n s)) s) ≡ after_digits n s
unfolding after_digits capital_and_more
behind_digits zero s = refl
behind_digits (suc n) [] = refl
behind_digits (suc n) (b ∷ s) = by (digit b) (behind_digits n s)
  where
    by : (t : Bool) → capital_and_more (drop (prefix_len digit (take n s)) s) ≡ after_digits n s
        → capital_and_more (drop (cond t (1 + prefix_len digit (take n s)) 0) (b ∷ s)) ≡ cond t (after_digits n s) (capital_and_more (b ∷ s))
    by true rest =
        let further : 1 + prefix_len digit (take n s) ≡ suc (prefix_len digit (take n s)) = omega arith in
        ap (λ k. capital_and_more (drop k (b ∷ s))) further ∙ rest
    by false rest = refl

-- 12

pub element12_short : (s : Bytes) → length s < 5 → false ≡ element12 s
unfolding element12
element12_short s short = sym (ap (λ t. t && every capital_or_digit (take 3 s) && same_bytes (take 1 (drop 3 s)) (ascii " ")) (lt-leb 5 (length s) short))

pub element12_long : (s : Bytes) → 5 ≤ length s → (((capital_or_digit (get_or s 0 0) && capital_or_digit (get_or s 1 0)) && capital_or_digit (get_or s 2 0)) && eqb (get_or s 3 0) 0x20) ≡ element12 s
unfolding element12
element12_long [] long = absurd (omega arith)
element12_long (a ∷ []) long = absurd (omega arith)
element12_long (a ∷ (b ∷ [])) long = absurd (omega arith)
element12_long (a ∷ (b ∷ (c ∷ []))) long = absurd (omega arith)
element12_long (a ∷ (b ∷ (c ∷ (d ∷ [])))) long = absurd (omega arith)
element12_long (a ∷ (b ∷ (c ∷ (d ∷ (e ∷ s))))) long =
    by (capital_or_digit a) (capital_or_digit b) (capital_or_digit c) (eqb d 0x20)
    ∙ sym (ap (λ t. t && (capital_or_digit a && (capital_or_digit b && (capital_or_digit c && true))) && (eqb d 0x20 && true)) (le-leb 5 (suc (suc (suc (suc (suc (length s)))))) (omega arith)))
  where
    by : (a b c d : Bool) → (((a && b) && c) && d) ≡ (true && (a && (b && (c && true))) && (d && true))
    by true true true true = refl
    by true true true false = refl
    by true true false d = refl
    by true false c d = refl
    by false b c d = refl

-- with five bytes it goes by the space and the three in front of it
pub spaced : (s : Bytes) → 5 ≤ length s → get_or s 3 0 ≡ 0x20 → ((capital_or_digit (get_or s 0 0) && capital_or_digit (get_or s 1 0)) && capital_or_digit (get_or s 2 0)) ≡ element12 s
spaced s long is =
    let three = (capital_or_digit (get_or s 0 0) && capital_or_digit (get_or s 1 0)) && capital_or_digit (get_or s 2 0) in
    sym (ap (λ t. three && t) (eq-eqb _ _ is) ∙ and-true three) ∙ element12_long s long

pub no_space : (s : Bytes) → 5 ≤ length s → (get_or s 3 0 ≡ 0x20 → ⊥) → false ≡ element12 s
no_space s long other =
    let three = (capital_or_digit (get_or s 0 0) && capital_or_digit (get_or s 1 0)) && capital_or_digit (get_or s 2 0) in
    sym (ap (λ t. three && t) (ne_eqb _ _ other) ∙ by three) ∙ element12_long s long
  where
    by : (t : Bool) → (t && false) ≡ false
    by true = refl
    by false = refl
