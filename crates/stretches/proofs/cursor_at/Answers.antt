use Prim.Native.Nat.{ℕ, ◌+◌}
use mathlib.Core.Path.{◌≡◌, sym, subst}
use native.Mathlib.Omega.{arith}
use lib.ListN.{drop}
use Rattle.label.specs.ReadMessage.{reading}
use Rattle.label.specs.Answer.{rows_read}
use Rattle.walk.specs.declared.Cursor.{Cursor}
use Rattle.stretches.specs.Stretches.{Lies}
use Rattle.walk.proofs.Walks.{Yields}
use Rattle.walk.proofs.Promises.{walked}
use Rattle.walk.proofs.Standing.{yields_next}
use Rattle.stretches.proofs.Lying.{lies_here}
use Rattle.stretches.proofs.cursor_at.Goals as goal

pub loop-step-init : goal.loop-step-init
loop-step-init c edition has = let m = c.args.m.now in
    subst (λ (at : Cursor). Yields m at (rows_read (reading edition m))) (sym c.first-c.ensures) (walked edition m).yields

pub loop-step-preserved : goal.loop-step-preserved
loop-step-preserved c edition has = let m = c.args.m.now in
    let at = c.loop-step in
    let all = rows_read (reading edition m) in
    subst (λ (next : Cursor). Yields m next (drop (at._step + 1) all)) (sym c.next-c.ensures)
    (yields_next m all at.c at._step (at.invariant edition has) (omega (arith, has)))

pub returns : goal.returns
returns c edition has = let m = c.args.m.now in
    let at = c.loop-step in
    let there : at._step ≡ c.args.row = omega arith in
    subst (λ (n : ℕ). Lies edition m n at.c.start at.c.length) there (lies_here edition m at.c at._step (at.invariant edition has) (omega (arith, has)))
