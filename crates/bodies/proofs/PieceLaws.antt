-- Pieces one after the other: a turn of a loop that takes the next piece, how many there are, and whether the last is empty.
use Prim.Native.Nat.{ℕ, suc, ◌+◌, ◌-◌, ◌≤◌, ◌<◌}
use mathlib.Core.Path.{◌≡◌, refl, sym, ap, ◌∙◌}
use mathlib.Core.Bool.{Bool, true, false, cond, true≢false}
use mathlib.Core.List.{List, [], ◌∷◌, ◌++◌}
use native.Mathlib.Omega.{arith}
use borrow.Author.Tests.{le-leb, lt-leb, ltb-true, ltb-false, eqb-true, eq-eqb}
use lib.ListN.{length, get_or, take, drop, length-drop}
use lib.Seq.{drop-drop, split_at, drop-length}
use lib.Dec.{eqb, leb, ltb}
use Rattle.std.proofs.lemmas.Bool.Decides.{nat_tests}
use Rattle.label.specs.Bytes.{Bytes, is_empty}
use Rattle.label.specs.Pieces.{piece_with, pieces, last_is_empty}
use Rattle.label.proofs.Splitting.{pieces_one, pieces_front, pieces_some, last_of_terminated}
use Rattle.leaves.specs.Seek.{seek}
use Rattle.pieces.proofs.SeekLaws.{seek_free, seek_found, seek_absent}

-- two tests of orders that say the same
pub leb_same : (a b c d : ℕ) → (a ≤ b → c ≤ d) → (c ≤ d → a ≤ b) → leb a b ≡ leb c d
leb_same a b c d there back = grind (arith, nat_tests)

-- the first piece, and the others where a separator follows
pub pieces_by_seek : (c : ℕ) (bs : Bytes) → pieces c bs ≡ take (seek c bs) bs ∷ cond (ltb (seek c bs) (length bs)) (pieces c (drop (seek c bs + 1) bs)) []
pieces_by_seek c bs = by (ltb (seek c bs) (length bs)) refl
  where
    by : (t : Bool) → ltb (seek c bs) (length bs) ≡ t → pieces c bs ≡ take (seek c bs) bs ∷ cond t (pieces c (drop (seek c bs + 1) bs)) []
    by true inside =
        ap (pieces c) (seek_found c bs (ltb-true _ _ inside)) ∙ pieces_front c (take (seek c bs) bs) (drop (seek c bs + 1) bs) (seek_free c bs)
    by false past =
        ap (pieces c) (sym (seek_absent c bs (ltb-false _ _ past))) ∙ pieces_one c (take (seek c bs) bs) (seek_free c bs)

-- the pieces from an index on; none from behind the end on
abbrev pub pieces_from : ℕ → Bytes → ℕ → List Bytes
pieces_from c s at = cond (leb at (length s)) (pieces c (drop at s)) []

pub pieces_start : (c : ℕ) (s : Bytes) → pieces_from c s 0 ≡ pieces c s
pieces_start c s = ap (λ t. cond t (pieces c s) []) (le-leb 0 (length s) (omega arith))

pub pieces_turn : (c : ℕ) (s : Bytes) (at end : ℕ) → at ≤ length s → end ≡ at + seek c (drop at s) → pieces_from c s at ≡ take (end - at) (drop at s) ∷ pieces_from c s (end + 1)
pieces_turn c s at end inside is =
    let k = seek c (drop at s) in
    let long = length-drop at s in
    let same : ltb k (length (drop at s)) ≡ leb (end + 1) (length s) = leb_same (suc k) (length (drop at s)) (end + 1) (length s) (λ h. omega arith) (λ h. omega arith) in
    let first : end - at ≡ k = omega arith in
    let next : at + (k + 1) ≡ end + 1 = omega arith in
    ap (λ t. cond t (pieces c (drop at s)) []) (le-leb at (length s) inside)
    ∙ pieces_by_seek c (drop at s)
    ∙ (λ i. take (sym first i) (drop at s) ∷ cond (same i) (pieces c ((drop-drop (k + 1) at s ∙ ap (λ n. drop n s) next) i)) [])

pub pieces_done : (c : ℕ) (s : Bytes) (at : ℕ) → length s < at → pieces_from c s at ≡ []
pieces_done c s at over = ap (λ t. cond t (pieces c (drop at s)) []) (lt-leb at (length s) over)

-- The last piece

last_with : (t : Bool) (b : ℕ) (ps : List Bytes) → is_empty ps ≡ false → last_is_empty ps ≡ false → last_is_empty (piece_with t b ps) ≡ false
last_with true b [] some h = absurd (true≢false some)
last_with true b (p ∷ ps) some h = h
last_with false b [] some h = absurd (true≢false some)
last_with false b (p ∷ []) some h = refl
last_with false b (p ∷ (q ∷ ps)) some h = h

last_other : (c : ℕ) (xs : Bytes) (x : ℕ) → eqb x c ≡ false → last_is_empty (pieces c (xs ++ (x ∷ []))) ≡ false
last_other c [] x other = ap (λ t. last_is_empty (piece_with t x ([] ∷ []))) other
last_other c (b ∷ xs) x other = last_with (eqb b c) b (pieces c (xs ++ (x ∷ []))) (pieces_some c (xs ++ (x ∷ []))) (last_other c xs x other)

with_append : (t : Bool) (b : ℕ) (ps qs : List Bytes) → is_empty ps ≡ false → piece_with t b (ps ++ qs) ≡ piece_with t b ps ++ qs
with_append true b ps qs some = refl
with_append false b [] qs some = absurd (true≢false some)
with_append false b (p ∷ ps) qs some = refl

-- a separator at the end makes one more piece, which is empty
pub pieces_ended : (c : ℕ) (xs : Bytes) → pieces c (xs ++ (c ∷ [])) ≡ pieces c xs ++ ([] ∷ [])
pieces_ended c [] = ap (λ t. piece_with t c ([] ∷ [])) (eq-eqb c c refl)
pieces_ended c (b ∷ xs) = ap (piece_with (eqb b c) b) (pieces_ended c xs) ∙ with_append (eqb b c) b (pieces c xs) ([] ∷ []) (pieces_some c xs)

-- bytes are those before the last, and the last
pub before_last : (s : Bytes) → (length s ≡ 0 → ⊥) → s ≡ take (length s - 1) s ++ (get_or s (length s - 1) 0 ∷ [])
before_last s some =
    let one : suc (length s - 1) ≡ length s = omega (arith, some) in
    split_at s (length s - 1) 0 (omega arith) ∙ ap (λ r. take (length s - 1) s ++ (get_or s (length s - 1) 0 ∷ r)) (ap (λ n. drop n s) one ∙ drop-length s)

pub last_is : (c : ℕ) (s : Bytes) → (length s ≡ 0 → ⊥) → eqb (get_or s (length s - 1) 0) c ≡ last_is_empty (pieces c s)
last_is c s some = by (eqb x c) refl ∙ sym (ap (λ l. last_is_empty (pieces c l)) (before_last s some))
  where
    x : ℕ
    x = get_or s (length s - 1) 0

    init : Bytes
    init = take (length s - 1) s

    by : (t : Bool) → eqb x c ≡ t → t ≡ last_is_empty (pieces c (init ++ (x ∷ [])))
    by true is =
        sym (ap (λ y. last_is_empty (pieces c (init ++ (y ∷ [])))) (eqb-true x c is) ∙ ap last_is_empty (pieces_ended c init) ∙ last_of_terminated (pieces c init))
    by false is = sym (last_other c init x is)
