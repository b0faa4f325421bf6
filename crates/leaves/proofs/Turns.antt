-- What a test of all, a search and a tally say of bytes, by the byte at an index and those behind it, by a byte more, and by bytes in front of others.
use Prim.Native.Nat.{ℕ, zero, suc, ◌+◌, ◌*◌, ◌≤◌, ◌<◌}
use mathlib.Core.Path.{◌≡◌, refl, sym, ap, ◌∙◌}
use mathlib.Core.Bool.{Bool, true, false, not, ◌&&◌, cond}
use mathlib.Core.List.{List, [], ◌∷◌, ◌++◌}
use native.Mathlib.Omega.{arith}
use borrow.Author.Tests.{not-true}
use lib.Dec.{eqb}
use lib.ListN.{length, get_or, take, drop, length-drop, length-take, take-append-drop}
use lib.Seq.{drop-drop}
use Rattle.std.proofs.lemmas.List.Recursion.{and_push}
use Rattle.std.proofs.lemmas.Bool.{and_parts}
use Rattle.std.proofs.lemmas.List.{drop_more}
use Rattle.label.specs.Bytes.{Bytes, every}
use Rattle.leaves.specs.Seek.{seek, tally_of}

-- four numbers from an index on
pub four_there : (ns : List ℕ) (at : ℕ) → at + 4 ≤ length ns → drop at ns ≡ get_or ns at 0 ∷ get_or ns (at + 1) 0 ∷ get_or ns (at + 2) 0 ∷ get_or ns (at + 3) 0 ∷ drop (at + 4) ns
four_there ns at fits =
    let two : at + 1 + 1 ≡ at + 2 = omega arith in
    let three : at + 2 + 1 ≡ at + 3 = omega arith in
    let four : at + 3 + 1 ≡ at + 4 = omega arith in
    drop_more ns at 0 (omega arith)
    ∙ ap (λ r. get_or ns at 0 ∷ r) (drop_more ns (at + 1) 0 (omega arith) ∙ ap (λ n. get_or ns (at + 1) 0 ∷ drop n ns) two)
    ∙ ap (λ r. get_or ns at 0 ∷ get_or ns (at + 1) 0 ∷ r) (drop_more ns (at + 2) 0 (omega arith) ∙ ap (λ n. get_or ns (at + 2) 0 ∷ drop n ns) three)
    ∙ ap (λ r. get_or ns at 0 ∷ get_or ns (at + 1) 0 ∷ get_or ns (at + 2) 0 ∷ r) (drop_more ns (at + 3) 0 (omega arith) ∙ ap (λ n. get_or ns (at + 3) 0 ∷ drop n ns) four)

-- a byte more
pub every_push : (p : ℕ → Bool) (s : Bytes) (b : ℕ) → every p (s ++ b ∷ []) ≡ (every p s && p b)
every_push p s b = and_push (every p) p refl (λ x xs. refl) s b

pub seek_within : (c : ℕ) (s : Bytes) → seek c s ≤ length s
seek_within c [] = omega arith
seek_within c (b ∷ s) = by (eqb b c) (seek_within c s)
  where
    by : (t : Bool) → seek c s ≤ length s → cond t 0 (suc (seek c s)) ≤ suc (length s)
    by true here = omega arith
    by false here = omega arith

-- bytes that lack c in front of others
pub seek_behind : (c : ℕ) (p rest : Bytes) → every (λ b. not (eqb b c)) p ≡ true → seek c (p ++ rest) ≡ length p + seek c rest
seek_behind c [] rest lacks = omega arith
seek_behind c (b ∷ p) rest lacks =
    let k = and_parts (not (eqb b c)) (every (λ b. not (eqb b c)) p) lacks in
    ap (λ t. cond t 0 (suc (seek c (p ++ rest)))) (not-true (eqb b c) k.0) ∙ ap suc (seek_behind c p rest k.1) ∙ omega arith

-- a block that lacks it is passed over
pub seek_block : (c : ℕ) (s : Bytes) (i n : ℕ) → i + n ≤ length s → every (λ b. not (eqb b c)) (take n (drop i s)) ≡ true → seek c (drop i s) ≡ n + seek c (drop (i + n) s)
seek_block c s i n inside lacks =
    let long : length (take n (drop i s)) ≡ n = omega (arith, length-take n (drop i s), length-drop i s) in
    ap (seek c) (sym (take-append-drop n (drop i s)))
    ∙ seek_behind c (take n (drop i s)) (drop n (drop i s)) lacks
    ∙ (λ j. long j + seek c (drop-drop n i s j))

pub tally_behind : (c : ℕ) (p rest : Bytes) → tally_of c (p ++ rest) ≡ tally_of c p + tally_of c rest
tally_behind c [] rest = omega arith
tally_behind c (b ∷ p) rest = by (eqb b c) (tally_behind c p rest)
  where
    by : (t : Bool) → tally_of c (p ++ rest) ≡ tally_of c p + tally_of c rest
        → cond t (suc (tally_of c (p ++ rest))) (tally_of c (p ++ rest)) ≡ cond t (suc (tally_of c p)) (tally_of c p) + tally_of c rest
    by true same = omega arith
    by false same = same

-- blocks that lack it are passed over, one behind another
pub seek_blocks : (c size : ℕ) (s : Bytes) (n : ℕ) → n * size ≤ length s → ((k : ℕ) → k < n → every (λ b. not (eqb b c)) (take size (drop (k * size) s)) ≡ true) → seek c s ≡ n * size + seek c (drop (n * size) s)
seek_blocks c size s zero inside lack =
    let none : 0 ≡ 0 * size = omega arith in
    omega (arith, ap (λ n. seek c (drop n s)) none)
seek_blocks c size s (suc n) inside lack =
    let front : seek c s ≡ n * size + seek c (drop (n * size) s) = seek_blocks c size s n (omega arith) (λ k below. lack k (omega arith)) in
    let block : seek c (drop (n * size) s) ≡ size + seek c (drop (n * size + size) s) = seek_block c s (n * size) size (omega arith) (lack n (omega arith)) in
    let next : n * size + size ≡ suc n * size = omega arith in
    front ∙ ap (λ k. n * size + k) (block ∙ ap (λ k. size + seek c (drop k s)) next) ∙ omega arith

pub tally_inside : (c : ℕ) (bs : Bytes) → tally_of c bs ≤ length bs
tally_inside c [] = omega arith
tally_inside c (b ∷ bs) = by (eqb b c) (tally_inside c bs)
  where
    by : (t : Bool) → tally_of c bs ≤ length bs → cond t (suc (tally_of c bs)) (tally_of c bs) ≤ suc (length bs)
    by true h = omega arith
    by false h = omega arith
