-- `first_element` hands back the bytes before the first GS.
use mathlib.Core.Path.{sym, ap, ◌∙◌}
use native.Mathlib.Omega.{arith}
use native.Mathlib.Nat.{zero-add}
use Rattle.leaves.proofs.Turns.{seek_within}
use lib.ListN.{take}
use lib.Seq.{length-take-le}
use Rattle.label.specs.Bytes.{GS}
use Rattle.leaves.specs.Seek.{seek}
use Rattle.pieces.proofs.segments.first_element.Goals as goal

pub slice_bounds-result-end : goal.slice_bounds-result-end
slice_bounds-result-end c = let s = c.args.s.now in
    let is = c.find-end.ensures in
    let inside = seek_within GS s in
    sym (length-take-le c.find-end.result s (omega arith))

pub returns : goal.returns
returns c = ap (λ n. take n c.args.s.now) (c.find-end.ensures ∙ zero-add (seek GS c.args.s.now))
