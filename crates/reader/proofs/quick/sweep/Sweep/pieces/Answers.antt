use Prim.Native.Nat.{ℕ, ◌+◌, ◌-◌}
use borrow.Author.Rules.{rules}
use mathlib.Core.Path.{sym, subst}
use Rattle.std.specs.Prelude.{Option, IfSome}
use Rattle.pieces.specs.PieceTests.{piece_test}
use Rattle.sweeps.specs.Quick.{PassesTo, BodySwept}
use Rattle.sweeps.specs.Transport.{LastOf}
use Rattle.sweeps.proofs.PieceSweeps.{SweepingPieces, pieces_first, pieces_on, pieces_last}
use Rattle.reader.proofs.quick.sweep.Sweep.pieces.Goals as goal

pub loop-end-init : goal.loop-end-init
loop-end-init g c = let args = c.args in
    let s = args.self.now in
    let pre = c.requires in
    (pieces_first s.message.now s.wanted.from args.k args.f args.start args.notes.now.rows args.notes.now.numbers pre.0 pre.1.inside pre.1.noted, search rules)

pub returns-then-last_right : goal.returns-then-last_right
returns-then-last_right g c = let args = c.args in
    let m = args.self.now.message.now in
    let from = args.self.now.wanted.from in
    let before = args.notes.now.rows in
    let at = c.loop-end in
    let end = c.in_ok-end in
    let new = c.put.new.self in
    let one = c.put.ensures in
    let to = subst (λ (o : Option ℕ). IfSome o (PassesTo (piece_test args.k (at.notes.rows - before)) m at.at)) end.ensures.ok_part c.end_of.ensures in
    let right = subst (λ (n : ℕ). LastOf args.k (n - before) (end.end - at.at)) one.counted (c.last_right.ensures c.if-last_right.true) in
    subst (λ (n : ℕ). BodySwept m from args.k args.start before (record { next = end.end + 1; rows = n }) new.numbers) (sym one.counted)
    (pieces_last m c.requires.1.framed from args.f args.start before at.notes.numbers new.numbers at.at at.notes.rows end.end c.standing_at.result c.standing_at.ensures one.noted args.k c.requires.0 at.invariant.0 to c.if-b-eq-RS.true right)

pub loop-end-preserved : goal.loop-end-preserved
loop-end-preserved g c = let args = c.args in
    let m = args.self.now.message.now in
    let from = args.self.now.wanted.from in
    let before = args.notes.now.rows in
    let at = c.loop-end in
    let end = c.in_ok-end in
    let new = c.put.new.self in
    let one = c.put.ensures in
    let to = subst (λ (o : Option ℕ). IfSome o (PassesTo (piece_test args.k (at.notes.rows - before)) m at.at)) end.ensures.ok_part c.end_of.ensures in (
      subst (λ (n : ℕ). SweepingPieces m from args.k args.f args.start before new.numbers (end.end + 1) n) (sym one.counted)
          (pieces_on m c.requires.1.framed from args.f args.start before at.notes.numbers new.numbers at.at at.notes.rows end.end c.standing_at.result c.standing_at.ensures one.noted args.k c.requires.0 at.invariant.0 to c.if-b-ne-GS.false),
      search rules,
    )
