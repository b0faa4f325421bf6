-- Laws of offsets: what a digit is worth, the offset so many bytes further, and one turn of a run of bytes of a class.
use Prim.Native.Nat.{ℕ, suc, ◌+◌, ◌-◌, ◌≤◌, ◌<◌}
use mathlib.Core.Path.{◌≡◌, ap, ◌∙◌}
use mathlib.Core.Bool.{Bool, true, cond}
use native.Mathlib.Omega.{arith}
use borrow.Author.Tests.{leb-true}
use lib.ListN.{length, get_or, drop, length-take, length-drop}
use lib.Dec.{leb}
use Rattle.std.proofs.lemmas.Bool.{and_parts}
use Rattle.std.proofs.lemmas.List.{drop_more}
use Rattle.label.specs.Bytes.{Bytes, between, digit}
use Rattle.walk.specs.Cursors.{ahead, run_of}

pub digit_value : (b : ℕ) → digit b ≡ true → (0x30 ≤ b) × (b ≤ 0x39)
unfolding digit between
digit_value b is =
    let k = and_parts (leb 0x30 b) (leb b 0x39) is in
    (leb-true 0x30 b k.0, leb-true b 0x39 k.1)

module _ (m : Bytes) (at n : ℕ) where
  pub ahead_inside : n ≤ length m - at → at + n ≡ ahead m at n
  ahead_inside inside = omega (arith, length-take n (drop at m), length-drop at m)

module _ (m : Bytes) (i : ℕ) (inside : i < length m) where
  pub run_by : (class : ℕ → Bool) (t : Bool) → class (get_or m i 0) ≡ t → run_of class (drop i m) ≡ cond t (suc (run_of class (drop (i + 1) m))) 0
  run_by class t is = ap (run_of class) (drop_more m i 0 inside) ∙ ap (λ t. cond t (suc (run_of class (drop (i + 1) m))) 0) is
