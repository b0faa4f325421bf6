-- Where the first separator is, and so the first piece and the others.
use Prim.Native.Nat.{ℕ, suc, ◌+◌, ◌≤◌, ◌<◌}
use mathlib.Core.Path.{◌≡◌, refl, sym, ap, ◌∙◌, subst}
use mathlib.Core.Bool.{Bool, true, false, not, cond, true≢false}
use mathlib.Core.List.{[], ◌∷◌, ◌++◌}
use native.Mathlib.Omega.{arith}
use native.Mathlib.Numerals.{add-one}
use borrow.Author.Tests.{eqb-true, eq-eqb, not-true}
use Rattle.leaves.proofs.Turns.{seek_within}
use lib.ListN.{length, take, drop, length-drop}
use lib.Seq.{take_all}
use lib.Dec.{eqb}
use Rattle.std.proofs.lemmas.Bool.{and_parts}
use Rattle.std.specs.Cmp.Derive.{both_true}
use Rattle.label.specs.Bytes.{Bytes}
use Rattle.label.specs.Pieces.{Cut, found, absent, cut}
use Rattle.label.proofs.Tests.{free}
use Rattle.label.proofs.Splitting.{cut_front, CutSo, cut_so}
use Rattle.leaves.specs.Seek.{seek}

free_by : (t : Bool) (c b : ℕ) (bs : Bytes) → eqb b c ≡ t → free c (take (seek c bs) bs) ≡ true → free c (take (cond t 0 (suc (seek c bs))) (b ∷ bs)) ≡ true
free_by true c b bs is h = refl
free_by false c b bs is h = both_true (ap not is) h

-- before the first c there is none
pub seek_free : (c : ℕ) (bs : Bytes) → free c (take (seek c bs) bs) ≡ true
seek_free c [] = refl
seek_free c (b ∷ bs) = free_by (eqb b c) c b bs refl (seek_free c bs)

found_by : (t : Bool) (c b : ℕ) (bs : Bytes) → eqb b c ≡ t → (seek c bs < length bs → bs ≡ take (seek c bs) bs ++ (c ∷ drop (suc (seek c bs)) bs)) → cond t 0 (suc (seek c bs)) < suc (length bs)
    → b ∷ bs ≡ take (cond t 0 (suc (seek c bs))) (b ∷ bs) ++ (c ∷ drop (suc (cond t 0 (suc (seek c bs)))) (b ∷ bs))
found_by true c b bs is h inside = ap (λ x. x ∷ bs) (eqb-true b c is)
found_by false c b bs is h inside = ap (λ r. b ∷ r) (h (omega arith))

seek_at : (c : ℕ) (bs : Bytes) → seek c bs < length bs → bs ≡ take (seek c bs) bs ++ (c ∷ drop (suc (seek c bs)) bs)
seek_at c [] inside = absurd (omega arith)
seek_at c (b ∷ bs) inside = found_by (eqb b c) c b bs refl (seek_at c bs) inside

-- the bytes are those before it, it, and those behind it
pub seek_found : (c : ℕ) (bs : Bytes) → seek c bs < length bs → bs ≡ take (seek c bs) bs ++ (c ∷ drop (seek c bs + 1) bs)
seek_found c bs inside = seek_at c bs inside ∙ ap (λ n. take (seek c bs) bs ++ (c ∷ drop n bs)) (sym (add-one (seek c bs)))

-- where there is none, all bytes stand before
pub seek_absent : (c : ℕ) (bs : Bytes) → length bs ≤ seek c bs → take (seek c bs) bs ≡ bs
seek_absent c bs past = take_all (seek c bs) bs past

pub cut_found : (c : ℕ) (bs : Bytes) → seek c bs < length bs → cut c bs ≡ found (take (seek c bs) bs) (drop (seek c bs + 1) bs)
cut_found c bs inside = ap (cut c) (seek_found c bs inside) ∙ cut_front c (take (seek c bs) bs) (drop (seek c bs + 1) bs) (seek_free c bs)

-- a separator that stands among bytes is one of them
separator_inside : (c : ℕ) (p rest : Bytes) → free c (p ++ (c ∷ rest)) ≡ true → ⊥
separator_inside c [] rest h = true≢false (sym (eq-eqb c c refl) ∙ not-true (eqb c c) (and_parts (not (eqb c c)) (free c rest) h).0)
separator_inside c (b ∷ p) rest h = separator_inside c p rest (and_parts (not (eqb b c)) (free c (p ++ (c ∷ rest))) h).1

free_cut : (c : ℕ) (bs : Bytes) → free c bs ≡ true → cut c bs ≡ absent
free_cut c bs h = by (cut c bs) (cut_so c bs)
  where
    by : (k : Cut) → CutSo c bs k → k ≡ absent
    by (found p rest) so = absurd (separator_inside c p rest (subst (λ (x : Bytes). free c x ≡ true) so.bytes h))
    by absent so = refl

pub cut_absent : (c : ℕ) (bs : Bytes) → length bs ≤ seek c bs → cut c bs ≡ absent
cut_absent c bs past = free_cut c bs (subst (λ (x : Bytes). free c x ≡ true) (seek_absent c bs past) (seek_free c bs))

-- what is found from inside lies inside or at the end
pub find_inside : (c : ℕ) (s : Bytes) (from : ℕ) → from ≤ length s → from + seek c (drop from s) ≤ length s
find_inside c s from inside = omega (arith, seek_within c (drop from s), length-drop from s)
