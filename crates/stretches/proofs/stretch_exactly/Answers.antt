-- `stretch_exactly` goes to the row if there is one.
use mathlib.Core.Path.{sym, subst}
use native.Mathlib.Omega.{arith}
use Rattle.label.specs.declared.Stretch.{Stretch}
use Rattle.stretches.specs.Stretches.{Lies}
use Rattle.stretches.proofs.Lying.{lies_nowhere}
use Rattle.stretches.proofs.stretch_exactly.Goals as goal

pub cursor_at-c-requires : goal.cursor_at-c-requires
cursor_at-c-requires c = let args = c.args in
    record { edition = args.edition; has = omega (arith, c.if-row-rows_of.true, c.rows_of.ensures) }

pub returns-then-row-rows_of : goal.returns-then-row-rows_of
returns-then-row-rows_of c = let args = c.args in
    c.cursor_at-c.ensures args.edition (omega (arith, c.if-row-rows_of.true, c.rows_of.ensures))

pub returns : goal.returns
returns c = let args = c.args in
    subst (λ (s : Stretch). Lies args.edition args.m.now args.row s.start s.length) (sym c.nowhere.ensures) (lies_nowhere args.edition args.m.now args.row (omega arith))
