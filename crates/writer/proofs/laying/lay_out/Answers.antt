use mathlib.Core.Path.{ap, ◌∙◌, subst}
use mathlib.Core.List.{◌++◌}
use native.Mathlib.Omega.{arith}
use borrow.Author.Rules.{rules}
use Rattle.std.specs.Prelude.{Option}
use Rattle.std.specs.Option.{option_map}
use Rattle.std.specs.Slice.Iter.{chunks_exact_rest}
use Rattle.std.proofs.lemmas.Result.{on_ok_weaker, on_err_weaker}
use Rattle.label.specs.Message.{header}
use Rattle.given.specs.declared.Given.{Given}
use Rattle.given.specs.Given.{as_row}
use Rattle.given.proofs.GivenLaws.{row_here}
use Rattle.writer.proofs.LayingLaws.{on_err_so, on_err_full, Turn, turn_first, turn_inside, turn_next, turn_long, ends_some, ends_long}
use Rattle.writer.proofs.laying.lay_out.Goals as goal

pub loop-numbers-init : goal.loop-numbers-init
loop-numbers-init c = let args = c.args in
    let chunks = c.chunks_exact-numbers-items in
    rw c.into_iter-numbers-iterator.ensures.into_iter_gives (
      search rules,
      tt,
      chunks.ensures.size,
      turn_first args.held.now args.rows.now c.try_extend_from_slice.new.self.items (chunks_exact_rest chunks.result) chunks.ensures.rest c.requires.lie
          (c.in_ok-try_extend_from_slice.ensures.ok ∙ ap (λ o. o ++ header) c.requires.empty),
    )

pub put_row-requires : goal.put_row-requires
put_row-requires c = let at = c.loop-numbers in
    let cut = c.in-Some.ensures.steps in
    let x = c.in-Some.numbers.now in
    let five = cut.1.1 ∙ at.invariant.2 in
    let row = row_here x c.row_at.result c.unwrap-row.result five c.row_at.ensures c.unwrap-row.ensures in
    turn_inside c.args.held.now c.args.rows.now at.out.items (option_map as_row at.before) (chunks_exact_rest at.numbers-iterator) x (chunks_exact_rest c.next.new.self) (as_row c.unwrap-row.result)
    at.invariant.3 cut.1.0 five row

pub returns-in_err-put_row-clause-long : goal.returns-in_err-put_row-clause-long
returns-in_err-put_row-clause-long c = let at = c.loop-numbers in
    let cut = c.in-Some.ensures.steps in
    let x = c.in-Some.numbers.now in
    let five = cut.1.1 ∙ at.invariant.2 in
    let row = row_here x c.row_at.result c.unwrap-row.result five c.row_at.ensures c.unwrap-row.ensures in
    on_err_so c.from_residual-in_err-put_row.result
    (turn_long c.args.held.now c.args.rows.now at.out.items (option_map as_row at.before) (chunks_exact_rest at.numbers-iterator) x (chunks_exact_rest c.next.new.self) (as_row c.unwrap-row.result)
    at.invariant.3 cut.1.0 five row c.in_err-put_row.ensures.long)

pub loop-numbers-preserved : goal.loop-numbers-preserved
loop-numbers-preserved c = let at = c.loop-numbers in
    let cut = c.in-Some.ensures.steps in
    let x = c.in-Some.numbers.now in
    let five = cut.1.1 ∙ at.invariant.2 in
    let row = row_here x c.row_at.result c.unwrap-row.result five c.row_at.ensures c.unwrap-row.ensures in (
      search rules,
      tt,
      cut.0 ∙ at.invariant.2,
      turn_next c.args.held.now c.args.rows.now at.out.items (option_map as_row at.before) (chunks_exact_rest at.numbers-iterator) x (chunks_exact_rest c.next.new.self) (as_row c.unwrap-row.result)
          at.invariant.3 cut.1.0 five row c.put_row.new.out.items c.in_ok-put_row.ensures.ok,
    )

pub returns-in-Some-before-clause-ok : goal.returns-in-Some-before-clause-ok
returns-in-Some-before-clause-ok c = let held = c.args.held.now in
    let ns = c.args.rows.now in
    let at = c.loop-numbers in
    let left = chunks_exact_rest at.numbers-iterator in
    let last = as_row c.in-Some-before.last in
    let put = c.try_extend_from_slice-in-Some-before in
    let turn = subst (λ (b : Option Given). Turn held ns at.out.items (option_map as_row b) left) c.in-Some-before.is at.invariant.3 in
    on_ok_weaker put.result
    (ends_some held ns at.out.items left (omega (arith, c.in-None.ensures.steps.1.0, at.invariant.2)) last turn c.ending_of.result.now put.new.self.items c.ending_of.ensures)
    put.ensures.ok

pub returns-in-Some-before-clause-long : goal.returns-in-Some-before-clause-long
returns-in-Some-before-clause-long c = let held = c.args.held.now in
    let ns = c.args.rows.now in
    let at = c.loop-numbers in
    let left = chunks_exact_rest at.numbers-iterator in
    let last = as_row c.in-Some-before.last in
    let put = c.try_extend_from_slice-in-Some-before in
    let turn = subst (λ (b : Option Given). Turn held ns at.out.items (option_map as_row b) left) c.in-Some-before.is at.invariant.3 in
    on_err_weaker put.result
    (ends_long held ns at.out.items left (omega (arith, c.in-None.ensures.steps.1.0, at.invariant.2)) last turn c.ending_of.result.now c.ending_of.ensures)
    (on_err_full put.result _ put.ensures.variant.1)
