-- `compose` counts the ordinals, lays out, reads back and compares.
use mathlib.Core.Path.{sym, ◌∙◌}
use mathlib.Core.Bool.{false≢true}
use borrow.Author.Tests.{eqb-true}
use lib.ListN.{length}
use Rattle.given.proofs.GivenLaws.{stands_so}
use Rattle.writer.proofs.Composed.{composed_not_long, composed_not_empty, composed_not_true, composes_same, composes_other, some_numbers}
use Rattle.writer.proofs.LayingLaws.{of_ok, of_err}
use Rattle.writer.proofs.compose.Goals as goal

pub returns-then-is_empty : goal.returns-then-is_empty
returns-then-is_empty c = let args = c.args in
    sym
    (composed_not_empty args.edition args.held.now args.rows.now (eqb-true (length args.rows.now) 0 (sym c.is_empty.ensures ∙ c.if-is_empty.true)))

pub returns-then-not-ordinals_counted : goal.returns-then-not-ordinals_counted
returns-then-not-ordinals_counted c = let args = c.args in
    let counted = c.ordinals_counted in
    sym
    (composed_not_true args.edition args.held.now args.rows.now (sym counted.ensures ∙ c.if-not-ordinals_counted.true))

pub lay_out-requires-clause-lie : goal.lay_out-requires-clause-lie
lay_out-requires-clause-lie c = (stands_so c.args.held.now c.args.rows.now c.requires.stand).lie

pub returns-in_err-ok : goal.returns-in_err-ok
returns-in_err-ok c = let args = c.args in
    let long = of_err c.lay_out.result (λ ok. false≢true (c.in_err-ok.ensures.variant ∙ ok)) c.lay_out.ensures.long in
    rw c.from_residual.ensures
    (sym (composed_not_long args.edition args.held.now args.rows.now long))

pub returns-then-same_rows : goal.returns-then-same_rows
returns-then-same_rows c = let args = c.args in
    let laid = of_ok c.lay_out.result (sym c.in_ok-ok.ensures.variant) c.lay_out.ensures.ok in
    composes_same args.edition args.held.now args.rows.now c.requires.stand (sym c.ordinals_counted.ensures ∙ c.if-not-ordinals_counted.false)
    (some_numbers args.rows.now (sym c.is_empty.ensures ∙ c.if-is_empty.false)) c.as_slice-message.result.now (c.as_slice-message.ensures.value ∙ laid) (sym c.if-same_rows.true ∙ c.same_rows.ensures)

pub returns-else-same_rows : goal.returns-else-same_rows
returns-else-same_rows c = let args = c.args in
    let laid = of_ok c.lay_out.result (sym c.in_ok-ok.ensures.variant) c.lay_out.ensures.ok in
    composes_other args.edition args.held.now args.rows.now c.requires.stand (sym c.ordinals_counted.ensures ∙ c.if-not-ordinals_counted.false)
    (some_numbers args.rows.now (sym c.is_empty.ensures ∙ c.if-is_empty.false)) c.as_slice-message.result.now (c.as_slice-message.ensures.value ∙ laid) (sym c.if-same_rows.false ∙ c.same_rows.ensures)
