-- `segment` notes the tag's row, and what follows the tag is due behind it.
use Prim.Native.Nat.{ℕ}
use mathlib.Core.Path.{sym, subst}
use borrow.Author.Rules.{rules}
use Rattle.std.specs.Prelude.{Option, IfSome}
use Rattle.std.proofs.lemmas.Result.{IfOk-weaker}
use Rattle.walk.specs.Cursors.{after_sub_element}
use Rattle.sweeps.specs.Segments.{TagTo, SegmentsDue, LaterSwept}
use Rattle.sweeps.proofs.SegmentRows.{tag_noted, segment_swept}
use Rattle.reader.proofs.quick.sweep.Sweep.segment.Goals as goal

pub later-requires : goal.later-requires
later-requires g c = let args = c.args in
    let s = args.self.now in
    let m = s.message.now in
    let pre = c.requires in
    let end = c.in_ok-end in
    let to = subst (λ (o : Option ℕ). IfSome o (TagTo m args.at)) end.ensures.ok_part c.tag_end.ensures in
    let new = c.put.new.self in
    let one = c.put.ensures in
    let row = c.standing_at in (
      search rules,
      subst (λ (n : ℕ). SegmentsDue m s.wanted args.f end.end n new.numbers (after_sub_element m args.f end.end)) (sym one.counted)
          (record {
            framed = pre.framed;
            inside = to.runs.inside;
            known = pre.known;
            few = pre.few;
            noted = tag_noted m s.wanted.from args.f args.at args.notes.now.rows end.end args.notes.now.numbers new.numbers row.result to.runs row.ensures one.noted pre.noted;
          }),
    )

pub returns : goal.returns
returns g c = let args = c.args in
    let s = args.self.now in
    let m = s.message.now in
    let end = c.in_ok-end in
    let to = subst (λ (o : Option ℕ). IfSome o (TagTo m args.at)) end.ensures.ok_part c.tag_end.ensures in
    let rest = c.later in
    let new = rest.new.notes in
    IfOk-weaker rest.result _ _
    (λ next so.
    segment_swept m s.wanted.from args.f args.at args.notes.now.rows end.end (record { next = next; rows = new.rows }) new.numbers to
    (subst (λ (n : ℕ). LaterSwept m s.wanted.from args.f end.end n (record { next = next; rows = new.rows }) new.numbers) c.put.ensures.counted so))
    rest.ensures
