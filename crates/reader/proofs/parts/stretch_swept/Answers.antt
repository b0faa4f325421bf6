-- `stretch_swept` is the note's stretch, and the note is the row's.
use mathlib.Core.Path.{sym, subst}
use native.Mathlib.Omega.{arith}
use Rattle.label.specs.declared.Stretch.{Stretch}
use Rattle.stretches.specs.Stretches.{Lies}
use Rattle.reader.proofs.NotedRows.{one_kept, lies_as_noted}
use Rattle.reader.proofs.parts.stretch_swept.Goals as goal

pub returns : goal.returns
returns c = let args = c.args in
    let kept = one_kept args.edition args.m.now args.row 1024 args.note.now args.found c.requires (omega arith) in
    subst (λ (s : Stretch). Lies args.edition args.m.now args.row s.start s.length) (sym c.stretch_noted.ensures) (lies_as_noted args.edition args.m.now args.row args.found.rows args.note.now kept)
