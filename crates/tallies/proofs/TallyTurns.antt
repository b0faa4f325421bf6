-- The tally of bytes cut in two, and of the bytes up to and with the next.
use Rattle.std.proofs.Common.{ℕ, zero, suc, ◌+◌, ◌<◌, ◌≤◌, ◌≡◌, ◌∙◌, [], ◌∷◌, length, take, drop, take-append-drop, cond, eqb, true, false, Bool, arith, refl, ap, sym}
use lib.ListN.{get_or}
use mir.Val.{bool_byte}
use Rattle.label.specs.Bytes.{Bytes}
use Rattle.leaves.specs.Seek.{tally_of}
use Rattle.leaves.proofs.Turns.{tally_behind}

pub tally_cut : (c n : ℕ) (xs : Bytes) → tally_of c xs ≡ tally_of c (take n xs) + tally_of c (drop n xs)
tally_cut c n xs = ap (tally_of c) (sym (take-append-drop n xs)) ∙ tally_behind c (take n xs) (drop n xs)

pub tally_next : (c : ℕ) (xs : Bytes) (i : ℕ) → i < length xs → tally_of c (take (suc i) xs) ≡ tally_of c (take i xs) + bool_byte (eqb (get_or xs i 0) c)
tally_next c [] i none = absurd (omega arith)
tally_next c (x ∷ xs) zero inside = by (eqb x c)
  where
    by : (t : Bool) → cond t 1 0 ≡ 0 + bool_byte t
    by true = refl
    by false = refl
tally_next c (x ∷ xs) (suc i) inside = by (eqb x c) (tally_next c xs i (omega arith))
  where
    by : (t : Bool) → tally_of c (take (suc i) xs) ≡ tally_of c (take i xs) + bool_byte (eqb (get_or xs i 0) c)
        → cond t (suc (tally_of c (take (suc i) xs))) (tally_of c (take (suc i) xs)) ≡ cond t (suc (tally_of c (take i xs))) (tally_of c (take i xs)) + bool_byte (eqb (get_or xs i 0) c)
    by true more = omega (arith, more)
    by false more = more

pub bool_small : (t : Bool) → bool_byte t ≤ 1
bool_small true = omega arith
bool_small false = omega arith
