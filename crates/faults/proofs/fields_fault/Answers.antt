-- `fields_fault` makes the tests of `fields_fault_of`, which together are the definition's: the number of fields, the last one, and then each.
use mathlib.Core.Path.{sym, ◌∙◌}
use mathlib.Core.Bool.{◌&&◌, ◌||◌}
use Prim.Native.Nat.{◌+◌}
use lib.Dec.{ltb}
use Rattle.std.proofs.lemmas.Bool.{cond-true, cond-false}
use Rattle.label.specs.Bytes.{GS}
use Rattle.label.specs.Fields.{least_fields}
use Rattle.leaves.proofs.Turns.{tally_inside}
use Rattle.faults.proofs.FaultLaws.{in_fields}
use borrow.Author.Rules.{rules}
use Rattle.faults.proofs.fields_fault.Goals as goal

pub overflow_add-fields : goal.overflow_add-fields
overflow_add-fields c = let is = c.tally-fields.ensures in
    let inside = tally_inside GS c.args.body.now in
    search rules

pub returns-then-fields-most : goal.returns-then-fields-most
returns-then-fields-most c = let args = c.args in
    sym (cond-true _ _ _ ((λ j. ltb (sym c.tally-fields.ensures j + 1) least_fields || ltb (sym c.most_fields-most.ensures j) (sym c.tally-fields.ensures j + 1)) ∙ c.if-fields-most.true))
    ∙ in_fields args.version args.body.now

pub returns-then-fields-last_empty : goal.returns-then-fields-last_empty
returns-then-fields-last_empty c = let args = c.args in
    let count = sym c.tally-fields.ensures in
    let most = sym c.most_fields-most.ensures in
    sym
    (cond-false _ _ _ ((λ j. ltb (count j + 1) least_fields || ltb (most j) (count j + 1)) ∙ c.if-fields-most.false)
    ∙ cond-true _ _ _ ((λ j. ltb least_fields (count j + 1) && sym c.last_empty.ensures j) ∙ c.if-fields-last_empty.true))
    ∙ in_fields args.version args.body.now

pub returns : goal.returns
returns c = let args = c.args in
    let count = sym c.tally-fields.ensures in
    let most = sym c.most_fields-most.ensures in
    c.first_fault.ensures
    ∙ sym
    (cond-false _ _ _ ((λ j. ltb (count j + 1) least_fields || ltb (most j) (count j + 1)) ∙ c.if-fields-most.false)
    ∙ cond-false _ _ _ ((λ j. ltb least_fields (count j + 1) && sym c.last_empty.ensures j) ∙ c.if-fields-last_empty.false))
    ∙ in_fields args.version args.body.now
