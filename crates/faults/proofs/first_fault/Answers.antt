use mathlib.Core.Path.{◌≡◌, sym, ap, ◌∙◌}
use native.Mathlib.Omega.{arith}
use Prim.Native.Nat.{◌+◌, ◌-◌}
use lib.ListN.{length, take, drop, length-take, length-drop}
use Rattle.label.specs.Bytes.{GS}
use Rattle.label.specs.Faults.{first_fault}
use Rattle.pieces.proofs.SeekLaws.{find_inside}
use Rattle.bodies.proofs.PieceLaws.{pieces_start, pieces_turn, pieces_done}
use Rattle.faults.specs.PieceFaults.{piece_fault}
use Rattle.faults.proofs.FaultLaws.{fault_here, fault_later, fault_nowhere}
use borrow.Author.Rules.{rules}
use Rattle.faults.proofs.first_fault.Goals as goal

pub loop-at-init : goal.loop-at-init
loop-at-init c = (search rules, search rules, ap (first_fault (piece_fault c.args.k) 0 0) (pieces_start GS c.args.s.now))

pub slice_bounds-piece_fault-end : goal.slice_bounds-piece_fault-end
slice_bounds-piece_fault-end c = let inside = find_inside GS c.args.s.now c.loop-at.at c.loop-at-test.true in
    let is = c.find-end.ensures in
    omega arith

pub returns-in-Some : goal.returns-in-Some
returns-in-Some c = let args = c.args in
    let loop = c.loop-at in
    let end = c.find-end.result in
    fault_here (piece_fault args.k) loop.i loop.at _ _ _ _ (pieces_turn GS args.s.now loop.at end c.loop-at-test.true c.find-end.ensures) (sym c.piece_fault.ensures ∙ c.in-Some.is)
    ∙ loop.invariant.2

pub overflow_add-at : goal.overflow_add-at
overflow_add-at c = let inside = find_inside GS c.args.s.now c.loop-at.at c.loop-at-test.true in
    let is = c.find-end.ensures in
    search rules

pub loop-at-preserved : goal.loop-at-preserved
loop-at-preserved c = let args = c.args in
    let s = args.s.now in
    let loop = c.loop-at in
    let end = c.find-end.result in
    let taken = c.loop-at-test.true in
    let is = c.find-end.ensures in
    let inside = find_inside GS s loop.at taken in
    let next : end + 1 ≡ loop.at + length (take (end - loop.at) (drop loop.at s)) + 1 = omega (arith, length-take (end - loop.at) (drop loop.at s), length-drop loop.at s) in (
      omega arith,
      omega arith,
      fault_later (piece_fault args.k) loop.i loop.at (end + 1) _ _ _ (pieces_turn GS s loop.at end taken is) (sym c.piece_fault.ensures ∙ c.in_default.is) next
          ∙ loop.invariant.2,
    )

pub returns : goal.returns
returns c = let s = c.args.s.now in
    fault_nowhere (piece_fault c.args.k) c.loop-at.i c.loop-at.at _ (pieces_done GS s c.loop-at.at c.loop-at-test.false)
    ∙ c.loop-at.invariant.2
