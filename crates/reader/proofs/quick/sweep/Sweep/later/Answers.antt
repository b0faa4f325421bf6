use Prim.Native.Nat.{ℕ, ◌+◌, ◌-◌}
use mathlib.Core.Path.{◌≡◌, refl, sym, ap, ◌∙◌, subst}
use mathlib.Core.Bool.{false, not, ◌&&◌}
use lib.ListN.{get_or}
use lib.Dec.{eqb}
use Rattle.label.specs.Bytes.{Bytes, GS, US, plain, between}
use Rattle.walk.specs.declared.Stage.{Stage}
use Rattle.walk.specs.Cursors.{standing}
use Rattle.sweeps.specs.Segments.{stage_behind}
use Rattle.sweeps.proofs.SegmentRows.{Rowing, parts_more, rowing_on, rowing_last}
use Rattle.reader.proofs.quick.sweep.Sweep.later.Goals as goal

-- the byte in hand is the one that stands there
at_end : (m : Bytes) (end b : ℕ) → b ≡ get_or m end 0 → (not (eqb b GS) && not (eqb b US)) ≡ false → (not (eqb (get_or m end 0) GS) && not (eqb (get_or m end 0) US)) ≡ false
at_end m end b is so = ap (λ b. not (eqb b GS) && not (eqb b US)) (sym is) ∙ so

pub returns-then-b-eq-FS : goal.returns-then-b-eq-FS
returns-then-b-eq-FS g c = let args = c.args in
    let s = args.self.now in
    let at = c.loop-b in
    rowing_last s.message.now c.requires.framed s.wanted.from args.f args.start args.notes.now.rows at.notes.numbers at.end at.notes.rows at.invariant.1 (sym at.invariant.0 ∙ c.if-b-eq-FS.true)

pub run_end-end-requires : goal.run_end-end-requires
unfolding plain between
run_end-end-requires g c = let args = c.args in
    let s = args.self.now in
    let pre = c.requires in
    let at = c.loop-b in (
      refl,
      parts_more s.message.now pre.framed s.wanted.from args.f args.start args.notes.now.rows at.notes.numbers at.end at.notes.rows at.invariant.1 (at_end s.message.now at.end at.b at.invariant.0 c.if-b.false),
    )

pub loop-b-preserved : goal.loop-b-preserved
loop-b-preserved g c = let args = c.args in
    let s = args.self.now in
    let m = s.message.now in
    let at = c.loop-b in
    let end = c.run_end-end in
    let new = c.put.new.self in
    let one = c.put.ensures in
    let row = c.standing_at in (
      refl,
      subst (λ (n : ℕ). Rowing m s.wanted.from args.f args.start args.notes.now.rows new.numbers end.result n) (sym one.counted)
          (rowing_on m c.requires.framed s.wanted.from args.f args.start args.notes.now.rows at.notes.numbers at.end at.notes.rows at.invariant.1 end.result new.numbers row.result
          (at_end m at.end at.b at.invariant.0 c.if-b.false) end.ensures
          (subst (λ (stage : Stage). row.result ≡ standing stage args.f (at.end + 1) (end.result - (at.end + 1))) (c.stage_behind.ensures ∙ ap stage_behind at.invariant.0) row.ensures) one.noted),
    )
