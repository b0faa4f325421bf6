use Prim.Native.Nat.{◌+◌}
use mathlib.Core.Path.{refl, sym, ap, ◌∙◌}
use mathlib.Core.Bool.{◌&&◌}
use native.Mathlib.Omega.{arith}
use borrow.Author.Rules.{rules}
use borrow.Author.Tests.{eq-eqb, ne_eqb}
use lib.ListN.{length, get_or, length-append}
use Rattle.std.specs.Slice.Iter.{chunks_exact_rest}
use Rattle.label.proofs.Ordinals.{raised_by_test, raised_small}
use Rattle.given.specs.Given.{ordinals_counted}
use Rattle.given.proofs.GivenLaws.{counted_from, counted_none, counted_end, counted_first, counted_next}
use Rattle.given.proofs.ordinals_counted.Goals as goal

pub returns-in_default : goal.returns-in_default
returns-in_default c = let ns = c.args.rows.now in
    let short = c.in_default.ensures.steps.1.0 in
    sym (counted_none ns (omega (arith, short, ap length c.chunks_exact-later.ensures.rest, c.chunks_exact-later.ensures.size)))

pub returns-then-first-ne0 : goal.returns-then-first-ne0
returns-then-first-ne0 c = let cut = c.in-Some.ensures.steps in
    let x = c.in-Some.first.now in
    let rest = chunks_exact_rest c.next.new.self in
    sym
    (ap ordinals_counted (sym c.chunks_exact-later.ensures.rest ∙ cut.1.0) ∙ counted_first x rest (cut.1.1 ∙ c.chunks_exact-later.ensures.size)
    ∙ ap (λ t. t && counted_from rest 0) (ne_eqb 0 (get_or x 4 0) (λ same. c.if-first-ne0.true (sym same))))

pub loop-row-init : goal.loop-row-init
loop-row-init c = let cut = c.in-Some.ensures.steps in
    let x = c.in-Some.first.now in
    let left = c.into_iter-row-iterator.result in
    let rest = chunks_exact_rest c.next.new.self in
    let whole = sym c.chunks_exact-later.ensures.rest ∙ cut.1.0 in
    rw c.into_iter-row-iterator.ensures.into_iter_gives (
      search rules,
      tt,
      cut.0 ∙ c.chunks_exact-later.ensures.size,
      omega (arith, ap length whole, length-append x rest),
      sym (ap ordinals_counted whole ∙ counted_first x rest (cut.1.1 ∙ c.chunks_exact-later.ensures.size)
          ∙ ap (λ t. t && counted_from rest 0) (eq-eqb 0 (get_or x 4 0) (sym c.if-first-ne0.false))),
    )

pub returns-then-row-ordinal : goal.returns-then-row-ordinal
returns-then-row-ordinal c = let at = c.loop-row.invariant in
    let cut = c.in-Some-row.ensures.steps in
    let x = c.in-Some-row.row.now in
    let ordinal = c.loop-row.ordinal in
    let rest = chunks_exact_rest c.next-in-loop-row.new.self in
    sym
    (sym at.4 ∙ ap (λ ns. counted_from ns ordinal) cut.1.0
    ∙ counted_next x rest (cut.1.1 ∙ at.2) ordinal (ordinal + c.from-ordinal.result) c.from-ordinal.result c.from-ordinal.ensures refl
    ∙ ap (λ t. t && counted_from rest (ordinal + c.from-ordinal.result)) (ne_eqb _ (get_or x 4 0) (λ same. c.if-row-ordinal.true (sym same))))

pub loop-row-preserved : goal.loop-row-preserved
loop-row-preserved c = let at = c.loop-row.invariant in
    let cut = c.in-Some-row.ensures.steps in
    let x = c.in-Some-row.row.now in
    let ordinal = c.loop-row.ordinal in
    let rest = chunks_exact_rest c.next-in-loop-row.new.self in
    let kind = get_or x 0 0 in (
      search rules,
      tt,
      cut.0 ∙ at.2,
      omega (arith, at.3, ap length cut.1.0, cut.1.1, at.2, length-append x rest, c.from-ordinal.ensures, raised_by_test ordinal kind, raised_small ordinal kind ordinal (omega arith)),
      sym
          (ap (λ ns. counted_from ns ordinal) cut.1.0
          ∙ counted_next x rest (cut.1.1 ∙ at.2) ordinal (ordinal + c.from-ordinal.result) c.from-ordinal.result c.from-ordinal.ensures refl
          ∙ ap (λ t. t && counted_from rest (ordinal + c.from-ordinal.result)) (eq-eqb _ (get_or x 4 0) (sym c.if-row-ordinal.false)))
          ∙ at.4,
    )

pub returns : goal.returns
returns c = let at = c.loop-row.invariant in
    let short = c.in-None.ensures.steps.1.0 in
    sym (counted_end (chunks_exact_rest c.loop-row.row-iterator) c.loop-row.ordinal (omega (arith, short, at.2))) ∙ at.4
