-- `raised_by` compares the kind with an indicator's.
use mathlib.Core.Path.{sym, ◌∙◌}
use native.Mathlib.Omega.{arith}
use native.Mathlib.Numerals.{add-one}
use borrow.Author.Tests.{le-leb, lt-leb}
use Rattle.std.proofs.lemmas.Bool.{cond-true, cond-false}
use Rattle.noted.proofs.raised_by.Goals as goal

pub returns-then-kind-lt2 : goal.returns-then-kind-lt2
returns-then-kind-lt2 c = let args = c.args in
    add-one args.ordinal ∙ sym (cond-true _ _ _ (le-leb args.kind 1 (omega (arith, c.if-kind-lt2.true))))

pub returns-else-kind-lt2 : goal.returns-else-kind-lt2
returns-else-kind-lt2 c = let args = c.args in sym (cond-false _ _ _ (lt-leb args.kind 1 (omega (arith, c.if-kind-lt2.false))))
