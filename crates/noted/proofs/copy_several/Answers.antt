use Rattle.std.proofs.Common.{ℕ, ◌≡◌, ◌+◌, ◌-◌, ◌*◌, ◌<◌, ◌∙◌, ap, ◌++◌, length, get_or, take, drop, arith, length-take, length-drop}
use lib.ListN.{length-map}
use Rattle.std.proofs.lemmas.Grind.{common_steps}
use Rattle.label.specs.Limits.{row_width}
use Rattle.label.specs.Layout.{numbers}
use Rattle.label.specs.Counting.{row_from, kinds_of, raised}
use Rattle.label.proofs.Ordinals.{counted_small}
use Rattle.noted.specs.Noted.{rows_by}
use Rattle.noted.proofs.Copying.{put_next, put_last, noted_here, noted_later, all_fit, counted_of, kinds_many, counted_many, counted_on}
use Rattle.noted.proofs.copy_several.Goals as goal

pub raised_by-ordinal-requires : goal.raised_by-ordinal-requires
raised_by-ordinal-requires c =
    let notes = c.args.notes.now in
    let i = c.loop-i.i in
    let inside : i < length notes = omega (arith, c.loop-i-test.true, length-take (length notes - 1) (drop 1 notes), length-drop 1 notes) in
    omega (arith, c.requires.few, c.loop-i.invariant.own, inside, counted_small (kinds_of (rows_by notes)) i (omega (arith, kinds_many notes)))

-- an ordinal that is raised by a kind, however the kind is come by
raised_so : (o r k kind want : ℕ) → r ≡ raised o k → k ≡ kind → raised o kind ≡ want → r ≡ want
raised_so o r k kind want by is so = by ∙ ap (raised o) is ∙ so

pub loop-i-preserved : goal.loop-i-preserved
loop-i-preserved c =
    let notes = c.args.notes.now in
    let old = c.args.table.now in
    let at = c.loop-i in
    let o = c.raised_by-ordinal.result in
    let inside : at.i + 1 < length notes = omega (arith, c.loop-i-test.true, length-take (length notes - 1) (drop 1 notes), length-drop 1 notes) in
    let later = noted_later notes at.i in
    let own = raised_so at.ordinal _ _ _ _ c.raised_by-ordinal.ensures (grind (arith, common_steps, later)) (counted_on notes at.i inside at.ordinal at.invariant.own) in
    let new =
    c.copy_row-in-loop-i.ensures
    ∙ ap (λ note. take (row_width * (at.i + 1)) at.table ++ (numbers (row_from note 0) o ++ drop (row_width * (at.i + 1) + row_width) at.table)) (noted_later notes at.i) in
    record {
      own = own;
      put = put_next (rows_by notes) (counted_of notes) old (counted_many notes) (all_fit notes old c.requires.roomy) at.table (at.i + 1) at.invariant.put _ _ (noted_here notes (at.i + 1) inside) o own c.copy_row-in-loop-i.new.table new;
    }

pub returns : goal.returns
returns c =
    let notes = c.args.notes.now in
    let old = c.args.table.now in
    let at = c.loop-i in
    put_last (rows_by notes) (counted_of notes) old (counted_many notes) (all_fit notes old c.requires.roomy) at.table (at.i + 1) at.invariant.put
    (omega (arith, c.loop-i-test.false, length-take (length notes - 1) (drop 1 notes), length-drop 1 notes, length-map notes (λ note. row_from note 0)))
