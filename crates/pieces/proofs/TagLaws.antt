-- What a tag is, and `BIN`, by the tests that the code makes of the length, the first byte and all bytes.
use Prim.Native.Nat.{suc, ◌≤◌, ◌<◌}
use mathlib.Core.Path.{◌≡◌, refl, sym, ap, ◌∙◌}
use mathlib.Core.Bool.{Bool, true, false, ◌&&◌, and-true}
use mathlib.Core.List.{[], ◌∷◌}
use native.Mathlib.Omega.{arith}
use borrow.Author.Tests.{le-leb, lt-leb}
use lib.ListN.{length, get_or, take}
use lib.Dec.{leb, eqb}
use Rattle.label.specs.Bytes.{Bytes, between, capital, capital_or_digit, every, same_bytes}
use Rattle.label.specs.Limits.{long_as}
use Rattle.label.specs.Segments.{tag}

pub tag_short : (s : Bytes) → length s < 2 → false ≡ tag s
unfolding tag long_as
tag_short s short = sym (ap (λ t. t && leb (length s) 3 && every capital (take 1 s) && every capital_or_digit s) (lt-leb 2 (length s) short))

pub tag_too_long : (s : Bytes) → 3 < length s → false ≡ tag s
unfolding tag long_as
tag_too_long s long = sym (ap (λ t. leb 2 (length s) && t && every capital (take 1 s) && every capital_or_digit s) (lt-leb (length s) 3 long) ∙ by (leb 2 (length s)))
  where
    by : (t : Bool) → (t && false && every capital (take 1 s) && every capital_or_digit s) ≡ false
    by true = refl
    by false = refl

-- of another length than two and three
pub no_tag : (s : Bytes) → (length s ≡ 2 → ⊥) → (length s ≡ 3 → ⊥) → false ≡ tag s
no_tag [] two three = tag_short [] (omega arith)
no_tag (a ∷ []) two three = tag_short (a ∷ []) (omega arith)
no_tag (a ∷ (b ∷ [])) two three = absurd (two refl)
no_tag (a ∷ (b ∷ (c ∷ []))) two three = absurd (three refl)
no_tag (a ∷ (b ∷ (c ∷ (d ∷ s)))) two three = tag_too_long (a ∷ (b ∷ (c ∷ (d ∷ s)))) (omega arith)

pub tag_long : (s : Bytes) → 2 ≤ length s → ((leb (length s) 3 && (leb 0x41 (get_or s 0 0) && leb (get_or s 0 0) 0x5A)) && every capital_or_digit s) ≡ tag s
unfolding tag long_as capital between
tag_long [] long = absurd (omega arith)
tag_long (a ∷ s) long =
    sym (ap (λ t. t && leb (suc (length s)) 3 && (capital a && true) && every capital_or_digit (a ∷ s)) (le-leb 2 (suc (length s)) long)
    ∙ ap (λ t. leb (suc (length s)) 3 && t && every capital_or_digit (a ∷ s)) (and-true (capital a)))

pub tag_there : (s : Bytes) → 2 ≤ length s → length s < 4 → ((leb 0x41 (get_or s 0 0) && leb (get_or s 0 0) 0x5A) && every capital_or_digit s) ≡ tag s
tag_there s long short = sym (ap (λ t. (t && (leb 0x41 (get_or s 0 0) && leb (get_or s 0 0) 0x5A)) && every capital_or_digit s) (le-leb (length s) 3 (omega arith))) ∙ tag_long s long

-- bytes of other lengths differ
pub other_length : (xs ys : Bytes) → (length xs ≡ length ys → ⊥) → false ≡ same_bytes xs ys
other_length [] [] other = absurd (other refl)
other_length [] (y ∷ ys) other = refl
other_length (x ∷ xs) [] other = refl
other_length (x ∷ xs) (y ∷ ys) other = by (eqb x y) ∙ ap (λ t. eqb x y && t) (other_length xs ys (λ same. other (ap suc same)))
  where
    by : (t : Bool) → false ≡ (t && false)
    by true = refl
    by false = refl
