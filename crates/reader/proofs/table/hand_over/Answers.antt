-- `hand_over` answers and fills as the definitions say: the sweep has judged the message and noted its rows.
use Prim.Native.Nat.{◌*◌}
use mathlib.Core.Path.{sym, ◌∙◌}
use lib.Seq.{length-take-le}
use Rattle.noted.specs.Noted.{note_width}
use Rattle.reader.proofs.NotedRows.{handed_so}
use Rattle.reader.proofs.table.hand_over.Goals as goal

pub slice_bounds-hand_over-end : goal.slice_bounds-hand_over-end
slice_bounds-hand_over-end c = let args = c.args in
    sym (length-take-le (note_width * args.found.rows) args.notes.now c.requires.roomy)

pub returns : goal.returns
returns c = let args = c.args in
    let so = handed_so args.edition args.message.now args.found args.notes.now args.table.now c.requires in
    record { answer = c.hand_over.ensures.answer ∙ so.answered_so; rows = c.hand_over.ensures.rows ∙ so.filled_so }
