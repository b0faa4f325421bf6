-- What is found of segments whose header is as it should be.
use Prim.Native.Nat.{ℕ, ◌+◌, ◌-◌, ◌≤◌}
use mathlib.Core.Path.{◌≡◌, sym, ap}
use mathlib.Core.Bool.{true, not}
use mathlib.Core.List.{[], ◌∷◌}
use native.Mathlib.Omega.{arith}
use borrow.Author.Tests.{eq-eqb, le-ltb}
use lib.ListN.{length, take, drop}
use Rattle.std.specs.Cmp.Derive.{both_true}
use Rattle.std.proofs.lemmas.Bool.{cond-true}
use Rattle.label.specs.Bytes.{Bytes, FS, GS, US, capital_or_digit, every}
use Rattle.label.specs.Values.{release_length}
use Rattle.label.specs.ReadMessage.{agreement}
use Rattle.pieces.specs.declared.Kind.{Kind}
use Rattle.envelope.specs.Bodies.{body_found}
use Rattle.envelope.specs.Formats.{segments_found}

module _ (k : Kind) (m : Bytes) (at : ℕ) (inside : at ≤ length m) where
  pub segments_body : release_length ≤ length m - at → every capital_or_digit (take release_length (drop at m)) ≡ true → agreement (FS ∷ GS ∷ US ∷ []) (drop (at + release_length) m) ≡ 3
      → body_found k 2 m (at + release_length + 3) ≡ segments_found k m at
  segments_body long class marks =
      sym (cond-true _ _ _ (both_true (both_true (ap not (le-ltb (length m) (at + release_length) (omega arith))) class) (eq-eqb _ 3 marks)))
