use mathlib.Core.Path.{sym, ◌∙◌, subst}
use native.Mathlib.Omega.{arith}
use borrow.Author.Rules.{rules}
use Rattle.std.specs.Slice.Iter.{chunks_exact_rest}
use Rattle.label.specs.ReadMessage.{reading}
use Rattle.label.specs.Answer.{rows_read}
use Rattle.label.specs.Writing.{rows_in}
use Rattle.walk.specs.declared.Cursor.{Cursor}
use Rattle.walk.proofs.Walks.{Yields}
use Rattle.walk.proofs.Promises.{walked}
use Rattle.writer.proofs.Comparing.{rows_counted, not_as_many, Compared, compared_first, compared_differs, compared_next, compared_last}
use Rattle.writer.proofs.same_rows.Goals as goal

pub returns-then-rows_of-rows : goal.returns-then-rows_of-rows
returns-then-rows_of-rows c = let args = c.args in
    let all = rows_read (reading args.edition args.m.now) in
    not_as_many all (rows_in args.rows.now) (λ same. c.if-rows_of-rows.true (c.rows_of.ensures ∙ same ∙ rows_counted args.rows.now))

pub loop-numbers-init : goal.loop-numbers-init
loop-numbers-init c = let m = c.args.m.now in
    let ns = c.args.rows.now in
    let chunks = c.chunks_exact-numbers-items in
    rw c.into_iter-numbers-iterator.ensures.into_iter_gives (
      search rules,
      tt,
      chunks.ensures.size,
      λ edition counted.
          let all = rows_read (reading edition m) in
          compared_first m all ns c.first-c.result (chunks_exact_rest chunks.result) chunks.ensures.rest
          (subst (λ (at : Cursor). Yields m at all) (sym c.first-c.ensures) (walked edition m).yields) counted,
    )

pub returns-then-not-like : goal.returns-then-not-like
returns-then-not-like c = let args = c.args in
    let m = args.m.now in
    let at = c.loop-numbers in
    let cut = c.in-Some.ensures.steps in
    compared_differs m (rows_read (reading args.edition m)) args.rows.now at.c (chunks_exact_rest at.numbers-iterator) c.in-Some.numbers.now (chunks_exact_rest c.next.new.self) cut.1.0 (cut.1.1 ∙ at.invariant.2)
    (at.invariant.3 args.edition (sym c.rows_of.ensures ∙ c.if-rows_of-rows.false)) (sym c.like.ensures ∙ c.if-not-like.true)

pub loop-numbers-preserved : goal.loop-numbers-preserved
loop-numbers-preserved c = let m = c.args.m.now in
    let ns = c.args.rows.now in
    let at = c.loop-numbers in
    let cut = c.in-Some.ensures.steps in
    let rest = chunks_exact_rest c.next.new.self in (
      search rules,
      tt,
      cut.0 ∙ at.invariant.2,
      λ edition counted.
          let all = rows_read (reading edition m) in
          subst (λ (next : Cursor). Compared m all ns next rest) (sym c.next-c.ensures)
          (compared_next m all ns at.c (chunks_exact_rest at.numbers-iterator) c.in-Some.numbers.now rest cut.1.0 (cut.1.1 ∙ at.invariant.2) (at.invariant.3 edition counted) (sym c.like.ensures ∙ c.if-not-like.false)),
    )

pub returns : goal.returns
returns c = let args = c.args in
    let m = args.m.now in
    let at = c.loop-numbers in
    compared_last m (rows_read (reading args.edition m)) args.rows.now at.c (chunks_exact_rest at.numbers-iterator)
    (at.invariant.3 args.edition (sym c.rows_of.ensures ∙ c.if-rows_of-rows.false)) (omega (arith, c.in-None.ensures.steps.1.0, at.invariant.2))
