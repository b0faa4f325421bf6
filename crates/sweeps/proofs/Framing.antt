-- Laws of a message that ends with EOT: a byte that is none has another behind it; and how such a frame is told.
use Prim.Native.Nat.{ℕ, ◌+◌, ◌-◌, ◌≤◌, ◌<◌}
use mathlib.Core.Path.{◌≡◌, refl, sym, ap, ◌∙◌}
use mathlib.Core.Bool.{Bool, true, false, ◌&&◌, true≢false}
use native.Mathlib.Omega.{arith}
use borrow.Author.Tests.{leb-true, ltb-true, ltb-false, eqb-true}
use lib.ListN.{length, get_or}
use lib.Dec.{eqb, leb, ltb}
use Rattle.std.proofs.lemmas.Bool.{and_parts}
use Rattle.label.specs.Bytes.{Bytes, EOT, between, digit}
use Rattle.label.specs.Limits.{longest}
use Rattle.label.specs.Message.{header}
use Rattle.label.specs.ReadMessage.{agreement}
use Rattle.sweeps.specs.Quick.{IfSo, Framed, Headed}

module _ (m : Bytes) (framed : Framed m) (i : ℕ) (inside : i < length m) where
  pub more_behind : (get_or m i 0 ≡ EOT → ⊥) → i + 1 < length m
  more_behind other = by (ltb (i + 1) (length m)) refl
    where
      by : (t : Bool) → ltb (i + 1) (length m) ≡ t → i + 1 < length m
      by true h = ltb-true (i + 1) (length m) h
      by false h =
          let past = ltb-false (i + 1) (length m) h in
          let last : i ≡ length m - 1 = omega arith in
          absurd (other (ap (λ n. get_or m n 0) last ∙ framed.ends))

  -- a byte of a class that EOT is not of
  pub class_behind : (class : ℕ → Bool) → class EOT ≡ false → class (get_or m i 0) ≡ true → i + 1 < length m
  class_behind class none_of is = more_behind (λ e. true≢false (sym is ∙ ap class e ∙ none_of))

  -- a byte that is a number other than EOT
  pub byte_behind : (b : ℕ) → get_or m i 0 ≡ b → (b ≡ EOT → ⊥) → i + 1 < length m
  byte_behind b is other = more_behind (λ e. other (sym is ∙ e))

  pub digit_behind : digit (get_or m i 0) ≡ true → i + 1 < length m
  unfolding digit between
  digit_behind is = class_behind digit refl is

-- how such a frame is told
pub headed_by : (m : Bytes) (same : Bool) → length header + 1 < length m → length m ≤ longest → same ≡ leb (length header) (agreement header m) → IfSo (same && eqb (get_or m (length m - 1) 0) EOT) (Headed m)
headed_by m same long short is so =
    let k = and_parts same (eqb (get_or m (length m - 1) 0) EOT) so in
    record {
      framed = record { some = omega arith; short = short; ends = eqb-true _ EOT k.1 };
      begins = leb-true (length header) (agreement header m) (sym is ∙ k.0);
      long = long;
    }
