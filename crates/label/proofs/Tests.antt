-- Laws of tests: one of two tests, a test over a list, over lists behind one another, of the same bytes, and of classes of bytes.
use Prim.Native.Nat.{ℕ, ◌≤◌, ◌<◌}
use mathlib.Core.Path.{◌≡◌, refl, sym, ap, ◌∙◌}
use mathlib.Core.Bool.{Bool, true, false, not, ◌||◌, false≢true, true≢false}
use mathlib.Core.List.{List, [], ◌∷◌, ◌++◌}
use native.Mathlib.Omega.{arith}
use borrow.Author.Tests.{leb-true, eqb-true, eq-eqb, ne_eqb}
use lib.Dec.{eqb}
use Rattle.std.proofs.lemmas.Bool.{and_parts}
use Rattle.std.specs.Cmp.Derive.{both_true}
use Rattle.label.specs.Bytes.{Bytes, between, plain, digit, every, same_bytes}

-- one of two tests, and not the second
pub or_not : (a b : Bool) → (a || b) ≡ true → b ≡ false → a ≡ true
or_not true b h e = refl
or_not false b h e = absurd (true≢false (sym h ∙ e))

-- one test holds wherever another does
abbrev pub Implies : {A : Type 0} → (A → Bool) → (A → Bool) → Type 0
Implies {A} p q = (x : A) → p x ≡ true → q x ≡ true

pub every_implies : {A : Type 0} (p q : A → Bool) → Implies p q → Implies (every p) (every q)
every_implies p q h [] e = refl
every_implies p q h (x ∷ xs) e =
    let b = and_parts (p x) (every p xs) e in
    both_true (h x b.0) (every_implies p q h xs b.1)

pub every_append : {A : Type 0} (p : A → Bool) (xs ys : List A) → every p xs ≡ true → every p ys ≡ true → every p (xs ++ ys) ≡ true
every_append p [] ys e h = h
every_append p (x ∷ xs) ys e h =
    let b = and_parts (p x) (every p xs) e in
    both_true b.0 (every_append p xs ys b.1 h)

-- bytes that pass for the same are the same, and the other way round
pub same_bytes_lem : (xs ys : Bytes) → same_bytes xs ys ≡ true → xs ≡ ys
same_bytes_lem [] [] h = refl
same_bytes_lem [] (y ∷ ys) h = absurd (false≢true h)
same_bytes_lem (x ∷ xs) [] h = absurd (false≢true h)
same_bytes_lem (x ∷ xs) (y ∷ ys) h =
    let k = and_parts (eqb x y) (same_bytes xs ys) h in
    λ i. eqb-true x y k.0 i ∷ same_bytes_lem xs ys k.1 i

pub bytes_same : (bs : Bytes) → same_bytes bs bs ≡ true
bytes_same [] = refl
bytes_same (b ∷ bs) = both_true (eq-eqb b b refl) (bytes_same bs)

-- no byte of bs is c
abbrev pub free : ℕ → Bytes → Bool
free c bs = every (λ b. not (eqb b c)) bs

-- a class whose bytes are all other than c
abbrev pub Without : ℕ → (ℕ → Bool) → Type 0
Without c class = (b : ℕ) → class b ≡ true → eqb b c ≡ false

pub free_of : (c : ℕ) (class : ℕ → Bool) → Without c class → (bs : Bytes) → every class bs ≡ true → free c bs ≡ true
free_of c class without bs h = every_implies class (λ b. not (eqb b c)) (λ b e. ap not (without b e)) bs h

-- bytes from first on are not c, which stands before it
pub between_without : (first last c : ℕ) → c < first → Without c (between first last)
unfolding between
between_without first last c before b h =
    let least : first ≤ b = leb-true first b (and_parts _ _ h).0 in
    ne_eqb b c (λ same. omega arith)

-- plain bytes and digits are no control bytes
pub plain_without : (c : ℕ) → c < 0x20 → Without c plain
unfolding plain
plain_without c before = between_without 0x20 0x7E c before

pub digit_without : (c : ℕ) → c < 0x30 → Without c digit
unfolding digit
digit_without c before = between_without 0x30 0x39 c before

-- a class of two, and of one byte
pub without_or : (c : ℕ) (p q : ℕ → Bool) → Without c p → Without c q → Without c (λ b. p b || q b)
without_or c p q hp hq b h = by (p b) (q b) refl refl h
  where
    by : (x y : Bool) → p b ≡ x → q b ≡ y → (x || y) ≡ true → eqb b c ≡ false
    by true y e f t = hp b e
    by false y e f t = hq b (f ∙ t)

pub without_one : (c d : ℕ) → eqb d c ≡ false → Without c (λ b. eqb b d)
without_one c d other b h = ap (λ x. eqb x c) (eqb-true b d h) ∙ other
