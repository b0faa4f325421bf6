use Rattle.noted.specs.Noted.{rows_by}
use Rattle.noted.proofs.Copying.{put_next, noted_here, all_fit, zeros_of, zeros_many, zero_at}
use Rattle.noted.proofs.copy_alone.Goals as goal

pub loop-i-preserved : goal.loop-i-preserved
loop-i-preserved c =
    let notes = c.args.notes.now in
    let rows = rows_by notes in
    let old = c.args.table.now in
    let at = c.loop-i in
    put_next rows (zeros_of rows) old (zeros_many rows) (all_fit notes old c.requires) at.table at.i at.invariant _ _ (noted_here notes at.i c.loop-i-test.true) 0 (zero_at rows at.i) c.copy_row.new.table c.copy_row.ensures
