-- The sweep over a message, an envelope at a time: where it stands, that a swept envelope keeps this, and that EOT behind the last one makes the message good.
use Rattle.std.specs.Prelude.{Ok}
use Prim.Native.Nat.{ℕ, ◌+◌, ◌-◌, ◌≤◌, ◌<◌}
use mathlib.Core.Path.{◌≡◌, refl, sym, ap, ◌∙◌, subst}
use mathlib.Core.Bool.{Bool, true, false}
use mathlib.Core.List.{List}
use native.Mathlib.Omega.{arith}
use borrow.Author.Tests.{ne_eqb, eq-eqb, le-ltb}
use lib.ListN.{length, get_or, drop}
use Rattle.std.specs.Prelude.{Result, Ok, Err}
use Rattle.std.proofs.lemmas.Bool.{cond-false}
use Rattle.label.specs.declared.Counts.{Counts}
use Rattle.label.specs.declared.Edition.{Edition}
use Rattle.label.specs.Bytes.{Bytes, EOT}
use Rattle.label.specs.Limits.{most_rows}
use Rattle.label.specs.ReadMessage.{reading, unbounded_walk}
use Rattle.judge.specs.declared.State.{State}
use Rattle.judge.specs.Shown.{placed, judged_as, tallied, limited}
use Rattle.judge.specs.Turns.{go, result_from, result_after, Sound, Further, boundary_turn}
use Rattle.judge.proofs.WalkLaws.{boundary_next, boundary_last, ClosedBy, closed_first, closed_further}
use Rattle.judge.proofs.JudgeLaws.{judge_walk}
use Rattle.sweeps.specs.declared.Unswept.{Unswept}
use Rattle.walk.specs.Cursors.{indicator_at, first_cursor}
use Rattle.sweeps.proofs.Framing.{more_behind}
use Rattle.sweeps.specs.Quick.{Passed, Headed, Kept, Noted, EnvelopeSwept, FirstAt, EndsSo, SweptSo}

abbrev counts_of : ℕ → ℕ → Counts
counts_of envelopes rows = record { envelopes = envelopes; rows = rows }

abbrev state_of : ℕ → ℕ → ℕ → State
state_of at envelopes rows = record { at = at; counts = counts_of envelopes rows }

-- where the sweep stands: from here on the message comes to what it comes to from its header on, with the envelopes and rows gone over
pub record Going (edition : Edition) (m : Bytes) (from : ℕ) (notes : List ℕ) (at envelopes rows : ℕ) : Type 0 where
  pub headed : Headed m
  pub first : Bool
  pub only : FirstAt at first
  pub behind : 4 ≤ at
  pub inside : at + 1 < length m
  pub sound : Sound m (state_of at envelopes rows)
  pub same : result_from edition m first (state_of at envelopes rows) ≡ tallied 0 0 (unbounded_walk edition m true (drop 4 m))
  pub noted : Noted m from notes rows (indicator_at m at)

pub going_first : (edition : Edition) (m : Bytes) (from : ℕ) (notes : List ℕ) → Headed m → Going edition m from notes 4 0 0
unfolding first_cursor
going_first edition m from notes headed = record {
  headed = headed;
  first = true;
  only = λ is. refl;
  behind = omega arith;
  inside = headed.long;
  sound = record { inside = omega (arith, headed.long); few_envelopes = omega arith; few_rows = omega arith };
  same = refl;
  noted = record { stands = refl; kept = λ k fits less. absurd (omega arith) };
}

module _ (edition : Edition) (m : Bytes) (from : ℕ) (notes : List ℕ) (at envelopes rows : ℕ) (going : Going edition m from notes at envelopes rows) (p : Passed) (new : List ℕ) (swept : EnvelopeSwept edition m from at rows p new) where
  abbrev here : State
  here = state_of at envelopes rows

  sum : rows + (p.rows - rows) ≡ p.rows
  sum = omega (arith, swept.more)

  closed : ClosedBy edition m going.first here going.sound p.next (p.rows - rows)
  closed = closed_first edition m going.first here going.sound p.next (p.rows - rows) (ap (placed here.at) (swept.closes going.first going.only))

  turned : result_after edition m (boundary_turn m p.next (counts_of (envelopes + 1) p.rows)) ≡ result_from edition m going.first here
  turned = subst (λ (n : ℕ). result_after edition m (boundary_turn m p.next (counts_of (envelopes + 1) n)) ≡ result_from edition m going.first here) sum closed.same

  further : Further m here.at (boundary_turn m p.next (counts_of (envelopes + 1) p.rows))
  further = subst (λ (n : ℕ). Further m here.at (boundary_turn m p.next (counts_of (envelopes + 1) n))) sum (closed_further edition m going.first here going.sound p.next (p.rows - rows) closed)

  goes : (get_or m p.next 0 ≡ EOT → ⊥) → boundary_turn m p.next (counts_of (envelopes + 1) p.rows) ≡ go (state_of p.next (envelopes + 1) p.rows)
  goes other = sym (boundary_next m p.next (counts_of (envelopes + 1) p.rows) swept.inside (ne_eqb (get_or m p.next 0) EOT other))

  -- another envelope
  gone_on : (get_or m p.next 0 ≡ EOT → ⊥) → Sound m (state_of p.next (envelopes + 1) p.rows) × (at < p.next)
  gone_on other = subst (Further m here.at) (goes other) further

  pub further_on : (get_or m p.next 0 ≡ EOT → ⊥) → at < p.next
  further_on other = (gone_on other).1

  pub going_on : (get_or m p.next 0 ≡ EOT → ⊥) → Going edition m from new p.next (envelopes + 1) p.rows
  going_on other =
      let so = gone_on other in
      let later = so.1 in
      record {
        headed = going.headed;
        first = false;
        only = λ is. absurd (omega (arith, later, going.behind, is));
        behind = omega (arith, later, going.behind);
        inside = more_behind m going.headed.framed p.next swept.inside other;
        sound = so.0;
        same = ap (λ t. result_from edition m t (state_of p.next (envelopes + 1) p.rows)) (sym (ne_eqb (envelopes + 1) 0 (λ is. omega arith))) ∙ ap (result_after edition m) (sym (goes other)) ∙ turned ∙ going.same;
        noted = swept.noted;
      }

  -- the end
  good_end : get_or m p.next 0 ≡ EOT → length m ≡ p.next + 1 → p.rows ≤ most_rows → judged_as (reading edition m) ≡ Ok (record { envelopes = envelopes + 1; rows = p.rows })
  good_end is last few =
      let so = ap (result_after edition m) (boundary_last m p.next (counts_of (envelopes + 1) p.rows) swept.inside (eq-eqb (get_or m p.next 0) EOT is) (omega (arith, last))) ∙ turned in
      sym (judge_walk edition m going.headed.framed.short going.headed.begins (omega (arith, going.headed.long)))
      ∙ ap limited (sym (so ∙ going.same))
      ∙ cond-false _ _ _ (le-ltb most_rows p.rows few)

  pub ended_so : get_or m p.next 0 ≡ EOT → (most : ℕ) → most ≤ most_rows → (r : Result Counts Unswept) → EndsSo m p.next (record { envelopes = envelopes + 1; rows = p.rows }) most r → SweptSo edition m (record { from = from; most = most }) new r
  ended_so is most within (Ok counts) so = record {
    judged = good_end is so.0.0 (omega (arith, so.0.1)) ∙ ap Ok (sym so.1);
    few = omega (arith, so.0.1, ap (λ (c : Counts). c.rows) so.1);
    kept = subst (Kept m from new) (sym (ap (λ (c : Counts). c.rows) so.1)) swept.noted.kept;
  }
  ended_so is most within (Err why) so = tt
