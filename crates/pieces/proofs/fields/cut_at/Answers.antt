-- `cut_at` is `cut`: at the first c.
use Rattle.std.proofs.Common.{◌∙◌, ap, sym, arith, take, drop, ◌+◌}
use native.Mathlib.Nat.{zero-add}
use Rattle.std.proofs.lemmas.List.{take_rest}
use Rattle.label.specs.Pieces.{found}
use Rattle.leaves.specs.Seek.{seek}
use Rattle.pieces.proofs.SeekLaws.{cut_found, cut_absent}
use Rattle.pieces.proofs.fields.cut_at.Goals as goal

pub returns-then-at-s : goal.returns-then-at-s
returns-then-at-s c =
    let s = c.args.s.now in
    let is = c.find-at.ensures ∙ zero-add (seek c.args.c s) in
    cut_found c.args.c s (omega arith)
    ∙ ap (λ n. found (take n s) (drop (n + 1) s)) (sym is)
    ∙ ap (λ l. found (take c.find-at.result s) l) (sym (take_rest s (c.find-at.result + 1)))

pub returns-else-at-s : goal.returns-else-at-s
returns-else-at-s c =
    let is = c.find-at.ensures ∙ zero-add (seek c.args.c c.args.s.now) in
    cut_absent c.args.c c.args.s.now (omega arith)
