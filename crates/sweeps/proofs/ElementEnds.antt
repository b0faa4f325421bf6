-- Laws of elements that are taken from a message byte by byte: where the digits in front end, and that what follows makes an element of 06.
use Prim.Native.Nat.{ℕ, zero, suc, ◌+◌, ◌-◌, ◌≤◌, ◌<◌}
use mathlib.Core.Path.{◌≡◌, refl, sym, ap, ◌∙◌}
use mathlib.Core.Bool.{Bool, true, false, not, ◌||◌, cond}
use mathlib.Core.List.{[], ◌∷◌}
use native.Mathlib.Nat.{add-zero}
use native.Mathlib.Omega.{arith}
use borrow.Author.Tests.{leb-true, le-leb, ltb-false}
use lib.ListN.{length, get_or, take, drop}
use lib.Seq.{drop-drop, get_or-drop}
use lib.Dec.{leb, ltb}
use Rattle.std.specs.List.{prefix_len}
use Rattle.std.proofs.lemmas.Bool.{and_parts, or_parts}
use Rattle.std.specs.Cmp.Derive.{both_true}
use Rattle.std.proofs.lemmas.List.{drop_more, drop-take}
use Rattle.label.specs.Bytes.{Bytes, between, plain, digit, capital, is_empty}
use Rattle.label.specs.Elements.{capital_and_more, after_digits, element06}
use Rattle.label.proofs.Tests.{Implies}
use Rattle.walk.specs.Cursors.{plain_run}
use Rattle.sweeps.specs.Quick.{Framed, digit_run, RunsTo, PassesTo}
use Rattle.walk.proofs.Offsets.{run_by}
use Rattle.walk.proofs.Shaped.{digit_plain}
use Rattle.sweeps.proofs.Framing.{class_behind, digit_behind}

-- one turn over the digits in front
digits_by : (m : Bytes) (i : ℕ) → i < length m → (n : ℕ) (t : Bool) → digit (get_or m i 0) ≡ t → digit_run (suc n) (drop i m) ≡ cond t (suc (digit_run n (drop (i + 1) m))) 0
digits_by m i inside n t is = ap (digit_run (suc n)) (drop_more m i 0 inside) ∙ ap (λ t. cond t (suc (digit_run n (drop (i + 1) m))) 0) is

-- the digits in front are counted, and end before the message does
pub digits_counted : (n : ℕ) (bs : Bytes) → prefix_len digit (take n bs) ≡ digit_run n bs
digits_counted zero bs = refl
digits_counted (suc n) [] = refl
digits_counted (suc n) (b ∷ bs) = ap (λ k. cond (digit b) k 0) (ap (λ k. 1 + k) (digits_counted n bs) ∙ omega arith)

pub digits_inside : (m : Bytes) → Framed m → (n at : ℕ) → at < length m → at + digit_run n (drop at m) < length m
digits_inside m framed zero at inside = omega arith
digits_inside m framed (suc n) at inside = by (digit (get_or m at 0)) refl (digits_inside m framed n (at + 1))
  where
    by : (t : Bool) → digit (get_or m at 0) ≡ t → (at + 1 < length m → at + 1 + digit_run n (drop (at + 1) m) < length m) → at + digit_run (suc n) (drop at m) < length m
    by true is later = omega (arith, digits_by m at inside n true is, later (digit_behind m framed at inside is))
    by false is later = omega (arith, digits_by m at inside n false is)

-- a run of plain bytes goes over the digits in front
run_digits : (n : ℕ) (bs : Bytes) → plain_run bs ≡ digit_run n bs + plain_run (drop (digit_run n bs) bs)
run_digits zero bs = omega arith
run_digits (suc n) [] = omega arith
run_digits (suc n) (b ∷ bs) = by (digit b) refl (run_digits n bs)
  where
    by : (t : Bool) → digit b ≡ t → plain_run bs ≡ digit_run n bs + plain_run (drop (digit_run n bs) bs)
        → cond (plain b) (suc (plain_run bs)) 0 ≡ cond t (suc (digit_run n bs)) 0 + plain_run (drop (cond t (suc (digit_run n bs)) 0) (b ∷ bs))
    by true is later = ap (λ t. cond t (suc (plain_run bs)) 0) (digit_plain b is) ∙ omega (arith, later)
    by false is later = omega arith

-- in a run of plain bytes, and the rest cut off, the digits in front are the same
digits_in_run : (n : ℕ) (bs : Bytes) → digit_run n (take (plain_run bs) bs) ≡ digit_run n bs
digits_in_run zero bs = refl
digits_in_run (suc n) [] = refl
digits_in_run (suc n) (b ∷ bs) = by (plain b) (digit b) refl refl (digits_in_run n bs)
  where
    by : (s t : Bool) → plain b ≡ s → digit b ≡ t → digit_run n (take (plain_run bs) bs) ≡ digit_run n bs
        → digit_run (suc n) (take (cond s (suc (plain_run bs)) 0) (b ∷ bs)) ≡ cond t (suc (digit_run n bs)) 0
    by true true p q later = ap (λ t. cond t (suc (digit_run n (take (plain_run bs) bs))) 0) q ∙ ap suc later
    by true false p q later = ap (λ t. cond t (suc (digit_run n (take (plain_run bs) bs))) 0) q
    by false true p q later = let z : ◌≡◌ {A = Bool} true false = sym (digit_plain b q) ∙ p in cc
    by false false p q later = refl

-- an element of 06 by what follows its digits
after_digits_lem : (n : ℕ) (bs : Bytes) → after_digits n bs ≡ capital_and_more (drop (digit_run n bs) bs)
unfolding after_digits capital_and_more
after_digits_lem zero bs = refl
after_digits_lem (suc n) [] = refl
after_digits_lem (suc n) (b ∷ bs) = by (digit b) (after_digits_lem n bs)
  where
    by : (t : Bool) → after_digits n bs ≡ capital_and_more (drop (digit_run n bs) bs)
        → cond t (after_digits n bs) (capital_and_more (b ∷ bs)) ≡ capital_and_more (drop (cond t (suc (digit_run n bs)) 0) (b ∷ bs))
    by true later = later
    by false later = refl

-- a capital and at least one plain byte behind it
capital_plain : Implies capital plain
unfolding capital plain between
capital_plain b is =
    let k = and_parts (leb 0x41 b) (leb b 0x5A) is in
    both_true (le-leb 0x20 b (omega (arith, leb-true 0x41 b k.0))) (le-leb b 0x7E (omega (arith, leb-true b 0x5A k.1)))

more_there : (bs : Bytes) → 1 ≤ plain_run bs → not (is_empty (take (plain_run bs) bs)) ≡ true
more_there [] some = absurd (omega arith)
more_there (b ∷ bs) some = by (plain b) refl some
  where
    by : (t : Bool) → plain b ≡ t → 1 ≤ cond t (suc (plain_run bs)) 0 → not (is_empty (take (cond t (suc (plain_run bs)) 0) (b ∷ bs))) ≡ true
    by true is some = refl
    by false is some = absurd (omega arith)

capital_run : (bs : Bytes) → 2 ≤ plain_run bs → capital (get_or bs 0 0) ≡ true → capital_and_more (take (plain_run bs) bs) ≡ true
unfolding capital_and_more
capital_run [] some is = absurd (omega arith)
capital_run (b ∷ bs) some is = by (plain b) (capital_plain b is) some
  where
    by : (t : Bool) → t ≡ true → 2 ≤ cond t (suc (plain_run bs)) 0 → capital_and_more (take (cond t (suc (plain_run bs)) 0) (b ∷ bs)) ≡ true
    by true yes_plain some = both_true is (more_there bs (omega arith))
    by false not_plain some = absurd (omega arith)

-- 06: digits, a capital, and at least one byte more
pub run_06 : (bs : Bytes) → 2 ≤ plain_run (drop (digit_run 3 bs) bs) → capital (get_or bs (digit_run 3 bs) 0) ≡ true
    → (plain_run bs ≡ digit_run 3 bs + plain_run (drop (digit_run 3 bs) bs)) × (element06 (take (plain_run bs) bs) ≡ true)
unfolding element06
run_06 bs some is =
    let d = digit_run 3 bs in
    let rest = drop d bs in (
      run_digits 3 bs,
      after_digits_lem 3 (take (plain_run bs) bs)
          ∙ ap (λ n. capital_and_more (drop n (take (plain_run bs) bs))) (digits_in_run 3 bs)
          ∙ ap (λ n. capital_and_more (drop d (take n bs))) (run_digits 3 bs)
          ∙ ap capital_and_more (drop-take d (plain_run rest) bs)
          ∙ capital_run rest some (ap capital (get_or-drop d bs 0 0 ∙ ap (λ n. get_or bs n 0) (add-zero d)) ∙ is),
    )

-- the same of a message, from an offset on
module _ (m : Bytes) (at end : ℕ) where
  first_byte : (n : ℕ) → get_or (drop at m) n 0 ≡ get_or m (at + n) 0
  first_byte n = get_or-drop at m n 0

  module _ (c : ℕ) (is_capital : capital (get_or m c 0) ≡ true) where
    pub behind_capital : Framed m → c < length m → c + 1 < length m
    unfolding plain between
    behind_capital framed inside = class_behind m framed c inside plain refl (capital_plain (get_or m c 0) is_capital)

    -- the run from a capital on is one longer than the run behind it
    from_capital : c < length m → RunsTo plain m (c + 1) end → end ≡ c + plain_run (drop c m)
    from_capital inside to = omega (arith, run_by m c inside plain true (capital_plain (get_or m c 0) is_capital), to.runs)

    pub passes_06 : c ≡ at + digit_run 3 (drop at m) → c < length m → RunsTo plain m (c + 1) end → c + 2 ≤ end → PassesTo element06 m at end
    passes_06 is inside to some =
        let d = digit_run 3 (drop at m) in
        let there : drop d (drop at m) ≡ drop c m = drop-drop d at m ∙ ap (λ n. drop n m) (sym is) in
        let long = ap plain_run there in
        let from = from_capital inside to in
        let so = run_06 (drop at m) (omega (arith, long, from)) (ap capital (first_byte d ∙ ap (λ n. get_or m n 0) (sym is)) ∙ is_capital) in
        let whole : end - at ≡ plain_run (drop at m) = omega (arith, so.0, long, from, is) in
        record { runs = record { runs = omega (arith, so.0, long, from, is); inside = to.inside }; passes = ap (λ n. element06 (take n (drop at m))) whole ∙ so.1 }
