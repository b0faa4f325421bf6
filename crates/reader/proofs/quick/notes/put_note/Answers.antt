-- `put_note` makes four stores.
use borrow.Author.Rules.{rules}
use lib.ListN.{length-set}
use Rattle.sweeps.proofs.Notes.{kind_small}
use Rattle.reader.proofs.quick.notes.put_note.Goals as goal

pub overflow_cast-notes : goal.overflow_cast-notes
overflow_cast-notes c = let is = c.kind_of.ensures in
    let few = kind_small c.args.c.stage in
    search rules

pub bounds-notes-at-2 : goal.bounds-notes-at-2
bounds-notes-at-2 c = simp length-set (search rules)

pub bounds-notes-at-3 : goal.bounds-notes-at-3
bounds-notes-at-3 c = simp length-set (search rules)

pub bounds-notes-at-4 : goal.bounds-notes-at-4
bounds-notes-at-4 c = simp length-set (search rules)

pub returns : goal.returns
returns c = simp c.kind_of.ensures (search rules)
