-- The walk over a message's envelopes. Its bound never runs out: with any two bounds above the number of bytes it answers the same, and so it is one
-- step and then the walk again.
use Prim.Native.Nat.{ℕ, zero, suc, ◌<◌}
use mathlib.Core.Path.{◌≡◌, refl, ap}
use mathlib.Core.Bool.{Bool, true, false}
use mathlib.Core.List.{[], ◌∷◌}
use native.Mathlib.Omega.{arith}
use lib.ListN.{length}
use lib.Dec.{eqb}
use Rattle.label.specs.Bytes.{Bytes, EOT}
use Rattle.label.specs.declared.Edition.{Edition}
use Rattle.label.specs.ReadEnvelope.{Step, closed, whole, refuse, refuse_at, read_envelope}
use Rattle.label.specs.ReadMessage.{Outcome, and_then, after_trailer, at_boundary, follow, walk, unbounded_walk}
use Rattle.label.proofs.EnvelopeSound.{StepSo, step_so}
use Rattle.label.proofs.MessageBytes.{left_shorter}

-- how a step goes on asks only about what is left, which is shorter
boundary_agree : (m : Bytes) (next next' : Bytes → Outcome) (left : Bytes) → next left ≡ next' left → at_boundary m next left ≡ at_boundary m next' left
boundary_agree m next next' [] same = refl
boundary_agree m next next' (b ∷ more) same = by (eqb b EOT)
  where
    by : (t : Bool) → ◌≡◌ {A = Outcome} (elim t [ true ↦ after_trailer m more | false ↦ next (b ∷ more) ]) (elim t [ true ↦ after_trailer m more | false ↦ next' (b ∷ more) ])
    by true = refl
    by false = same

follow_agree : (edition : Edition) (m : Bytes) (next next' : Bytes → Outcome) (first : Bool) (bs : Bytes) (s : Step) → StepSo edition first bs s
    → ((left : Bytes) → length left < length bs → next left ≡ next' left) → follow m next bs s ≡ follow m next' bs s
follow_agree edition m next next' first bs (closed e left) so same = ap (and_then e) (boundary_agree m next next' left (same left (left_shorter e bs left so.bytes)))
follow_agree edition m next next' first bs (whole e) so same = refl
follow_agree edition m next next' first bs (refuse r) so same = refl
follow_agree edition m next next' first bs (refuse_at r from) so same = refl

pub bound_is_enough : (edition : Edition) (m : Bytes) (n k : ℕ) (first : Bool) (bs : Bytes) → length bs < n → length bs < k → walk edition m n first bs ≡ walk edition m k first bs
unfolding walk
bound_is_enough edition m zero k first bs hn hk = absurd (omega arith)
bound_is_enough edition m (suc n) zero first bs hn hk = absurd (omega arith)
bound_is_enough edition m (suc n) (suc k) first bs hn hk =
    follow_agree edition m (walk edition m n false) (walk edition m k false) first bs (read_envelope edition first bs) (step_so edition first bs)
    (λ left shorter. bound_is_enough edition m n k false left (omega arith) (omega arith))

-- with no bound it is one step, and then the walk
pub one_step_then_walk : (edition : Edition) (m : Bytes) (first : Bool) (bs : Bytes) → unbounded_walk edition m first bs ≡ follow m (unbounded_walk edition m false) bs (read_envelope edition first bs)
unfolding unbounded_walk walk
one_step_then_walk edition m first bs =
    follow_agree edition m (walk edition m (length bs) false) (unbounded_walk edition m false) first bs (read_envelope edition first bs) (step_so edition first bs)
    (λ left shorter. bound_is_enough edition m (length bs) (suc (length left)) false left shorter (omega arith))
