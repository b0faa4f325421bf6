use native.Mathlib.Omega.{arith}
use Rattle.envelope.proofs.ValueLaws.{count_small}
use borrow.Author.Rules.{rules}
use Rattle.envelope.proofs.header.digits_value.Goals as goal

pub overflow_mul-n : goal.overflow_mul-n
overflow_mul-n c = let few = c.requires in
    let inside = c.loop-b-test.true in
    let small = count_small c.loop-b.n c.loop-b.b-index 0 (omega arith) (omega arith) c.loop-b.invariant.0 in
    search rules

pub overflow_add-n : goal.overflow_add-n
overflow_add-n c = let few = c.requires in
    let inside = c.loop-b-test.true in
    let byte = c.type_inv.s c.loop-b.b-index in
    let is = c.from.ensures in
    let digit = c.saturating_sub.ensures in
    let small = count_small c.loop-b.n c.loop-b.b-index c.from.result (omega arith) (omega arith) c.loop-b.invariant.0 in
    search rules
