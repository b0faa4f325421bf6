-- Header values and the number of a count, by the tests and turns that the code makes.
use Rattle.std.specs.Prelude.{Ok, Err}
use Prim.Native.Nat.{ℕ, suc, ◌+◌, ◌-◌, ◌*◌, ◌^◌, ◌≤◌, ◌<◌}
use mathlib.Core.Path.{◌≡◌, refl, sym, ap, ◌∙◌}
use mathlib.Core.Bool.{Bool, true, false, not, ◌&&◌, ◌||◌, cond}
use mathlib.Core.List.{[], ◌∷◌}
use native.Mathlib.Omega.{arith}
use native.Mathlib.Nat.{pow-le-pow_right}
use borrow.Author.Tests.{lt-ltb}
use lib.ListN.{length, take, drop, length-drop}
use lib.Dec.{leb, ltb, eqb, eqb-zero-suc, eqb-suc-suc}
use lib.Pointwise.{pointwise}
use Rattle.std.proofs.lemmas.Cmp.{nat_eq_equiv}
use Rattle.std.proofs.lemmas.Bool.Decides.{nat_tests}
use Rattle.label.specs.Bytes.{Bytes, GS, every}
use Rattle.label.specs.ReadMessage.{agreement}
use Rattle.label.proofs.Places.{agreement_inside}
use Rattle.leaves.specs.Seek.{seek}
use Rattle.envelope.specs.Headers.{value_end, value_found}
use Rattle.envelope.specs.Judged.{Judged, no_envelope}
use Rattle.envelope.specs.Formats.{after_value}
use Rattle.label.specs.declared.Reason.TheVariants.{BadFormatHeader}

-- Header values

module _ (least most : ℕ) (class : ℕ → Bool) (m : Bytes) (at end : ℕ) (inside : at ≤ length m) (is : end ≡ at + seek GS (drop at m)) where
  first : end - at ≡ seek GS (drop at m)
  first = omega arith

  -- the tests, with the code's own numbers
  by_tests : (t u w : Bool) → ltb (seek GS (drop at m)) (length (drop at m)) ≡ t → (leb least (end - at) && leb (end - at) most) ≡ u → every class (take (end - at) (drop at m)) ≡ w
      → cond (t && u && w) end (length m) ≡ value_end least most class m at
  by_tests t u w p q r =
      sym (λ i. cond (p i && (ap (λ n. leb least n && leb n most) (sym first) ∙ q) i && (ap (λ n. every class (take n (drop at m))) (sym first) ∙ r) i) (sym is i) (length m))

  size_by : (t : Bool) → (ltb (end - at) least || ltb most (end - at)) ≡ t → (leb least (end - at) && leb (end - at) most) ≡ not t
  size_by t h = grind (arith, nat_tests)

  here : end < length m → ltb (seek GS (drop at m)) (length (drop at m)) ≡ true
  here some = let long = length-drop at m in lt-ltb (seek GS (drop at m)) (length (drop at m)) (omega arith)

  pub value_bytes_lem : end < length m → (ltb (end - at) least || ltb most (end - at)) ≡ false → every class (take (end - at) (drop at m)) ≡ true → end ≡ value_end least most class m at
  value_bytes_lem some h r = by_tests true true true (here some) (size_by false h) r

-- what follows a header value that was found
pub found_after : (m : Bytes) (end next : ℕ) (then : ℕ → Judged) → Ok next ≡ value_found m end → after_value m end then ≡ then (next + 1)
found_after m end next then found = by (ltb end (length m)) found
  where
    by : (t : Bool) → Ok next ≡ cond t (Ok end) (Err BadFormatHeader) → cond t (then (end + 1)) (no_envelope BadFormatHeader) ≡ then (next + 1)
    by true is = let same : end ≡ next = cc in ap (λ n. then (n + 1)) same
    by false is = let z : ◌≡◌ {A = ℕ} 0 1 = cc in absurd (omega arith)

-- Counts

-- what n can be after i bytes
abbrev pub Bounded : ℕ → ℕ → Type 0
Bounded n i = n + 23 ≤ 24 * 10 ^ i

-- one more byte, of fifteen at the most
pub count_small : (n i w : ℕ) → i ≤ 14 → w ≤ 207 → Bounded n i → n * 10 + w < 10000000000000000000
count_small n i w h few bounded = omega (arith, pow-le-pow_right {n = 10} (omega arith) {i = i} {j = 14} h)

-- What a header that was found says of the message's length

pub begins_long : (text m : Bytes) (at : ℕ) → at ≤ length m → agreement text (drop at m) ≡ length text → at + length text ≤ length m
begins_long text m at inside is = omega (arith, agreement_inside text (drop at m), length-drop at m)

-- bytes that begin with a text agree with all of it
pub begins_text : (text bs : Bytes) → pointwise eqb text (take (length text) bs) ≡ eqb (agreement text bs) (length text)
begins_text [] bs = refl
begins_text (h ∷ hs) [] = sym (eqb-zero-suc (length hs))
begins_text (h ∷ hs) (b ∷ bs) = by (eqb h b) (nat_eq_equiv.symm h b) (begins_text hs bs)
  where
    by : (t : Bool) → t ≡ eqb b h → pointwise eqb hs (take (length hs) bs) ≡ eqb (agreement hs bs) (length hs)
        → (t && pointwise eqb hs (take (length hs) bs)) ≡ eqb (cond (eqb b h) (suc (agreement hs bs)) 0) (suc (length hs))
    by true is behind = behind ∙ sym (eqb-suc-suc (agreement hs bs) (length hs)) ∙ ap (λ t. eqb (cond t (suc (agreement hs bs)) 0) (suc (length hs))) is
    by false is behind = sym (eqb-zero-suc (length hs)) ∙ ap (λ t. eqb (cond t (suc (agreement hs bs)) 0) (suc (length hs))) is
