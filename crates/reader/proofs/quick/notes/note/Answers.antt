-- `note` puts a row where it belongs, or passes over it.
use Rattle.sweeps.proofs.Notes.{noted_before, noted_behind, noted_put}
use Rattle.reader.proofs.quick.notes.note.Goals as goal

pub returns-then-at-notes : goal.returns-then-at-notes
returns-then-at-notes c = let args = c.args in
    noted_put args.from args.notes.now args.row args.c c.put_note.new.notes c.if-from-row.true c.if-at-notes.true c.put_note.ensures

pub returns-else-at-notes : goal.returns-else-at-notes
returns-else-at-notes c = let args = c.args in
    noted_behind args.from args.notes.now args.row args.c c.if-from-row.true c.if-at-notes.false

pub returns-else-from-row : goal.returns-else-from-row
returns-else-from-row c = let args = c.args in
    noted_before args.from args.notes.now args.row args.c c.if-from-row.false
