use Prim.Native.Nat.{ℕ, ◌+◌, ◌*◌, ◌<◌, ◌≤◌}
use mathlib.Core.Path.{sym, ap, ◌∙◌, subst}
use mathlib.Core.List.{List}
use native.Mathlib.Omega.{arith}
use lib.ListN.{length}
use Rattle.label.specs.Limits.{row_width}
use Rattle.label.specs.Layout.{all_numbers}
use Rattle.label.specs.ReadMessage.{reading}
use Rattle.label.specs.Answer.{rows_read, overlaid}
use Rattle.label.specs.Counting.{raised}
use Rattle.label.proofs.Ordinals.{read_counted_lem, raised_small, raised_by_test}
use Rattle.label.proofs.Answers.{rows_few}
use Rattle.walk.specs.declared.Cursor.{Cursor}
use Rattle.walk.specs.Cursors.{kind_of}
use Rattle.walk.proofs.Promises.{walked}
use Rattle.exact.proofs.Filling.{Filled, filled_first, filled_length, filled_last, filled_inside, filled_next}
use Rattle.exact.proofs.rows.fill.Goals as goal

pub loop-i-init : goal.loop-i-init
loop-i-init c edition counted = let m = c.args.m.now in
    let all = rows_read (reading edition m) in
    let old = c.args.table.now in
    subst (λ (at : Cursor). Filled m all old old at 0 0) (sym c.first-c.ensures) (filled_first m all old (walked edition m).yields)

pub put_row-requires : goal.put_row-requires
put_row-requires c = let room = c.requires in
    let edition = room.edition in
    let counted = room.counted in
    let m = c.args.m.now in
    let all = rows_read (reading edition m) in
    let old = c.args.table.now in
    let roomy : row_width * length all ≤ length old = omega (arith, counted, room.roomy) in
    let at = c.loop-i in
    let more : at.i < length all = omega (arith, counted, c.loop-i-test.true) in
    let long = filled_length m all old at.table at.c at.ordinal at.i (at.invariant edition counted) roomy in
    record { roomy = omega arith; inside = filled_inside m all old at.table at.c at.ordinal at.i (at.invariant edition counted) roomy more (walked edition m).inside }

pub overflow_add-ordinal : goal.overflow_add-ordinal
overflow_add-ordinal c = let room = c.requires in
    let edition = room.edition in
    let counted = room.counted in
    let m = c.args.m.now in
    let all = rows_read (reading edition m) in
    let at = c.loop-i in
    let more : at.i < length all = omega (arith, counted, c.loop-i-test.true) in
    let kind = c.kind_of.result in
    omega (arith, c.from-ordinal.ensures, raised_by_test at.ordinal kind, raised_small at.ordinal kind at.i (at.invariant edition counted).small, more, rows_few edition m)

pub loop-i-preserved : goal.loop-i-preserved
loop-i-preserved c edition counted = let m = c.args.m.now in
    let all = rows_read (reading edition m) in
    let old = c.args.table.now in
    let roomy : row_width * length all ≤ length old = omega (arith, counted, c.requires.roomy) in
    let at = c.loop-i in
    let put = c.put_row in
    let next = c.next-c in
    let more : at.i < length all = omega (arith, counted, c.loop-i-test.true) in
    subst (λ (next : Cursor). Filled m all old put.new.t next (at.ordinal + c.from-ordinal.result) (at.i + 1)) (sym next.ensures)
    (filled_next m all old at.table at.c at.ordinal at.i (at.invariant edition counted) roomy more put.new.t put.ensures (at.ordinal + c.from-ordinal.result)
    (ap (λ n. at.ordinal + n) c.from-ordinal.ensures ∙ raised_by_test at.ordinal c.kind_of.result
    ∙ ap (raised c.loop-i.ordinal) (c.kind_of.ensures ∙ ap (λ (at : Cursor). kind_of at.stage) next.ensures)))

pub returns : goal.returns
returns c edition counted = let m = c.args.m.now in
    let all = rows_read (reading edition m) in
    let old = c.args.table.now in
    let roomy : row_width * length all ≤ length old = omega (arith, counted, c.requires.roomy) in
    let at = c.loop-i in
    filled_last m all old at.table at.c at.ordinal at.i (at.invariant edition counted) roomy (omega (arith, counted, c.loop-i-test.false))
    ∙ ap (λ (os : List ℕ). overlaid (all_numbers all os) old) (sym (read_counted_lem (reading edition m)))
