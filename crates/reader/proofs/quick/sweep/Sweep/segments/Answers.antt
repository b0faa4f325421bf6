-- `segments` notes the row of the six bytes, and segments are due behind FS GS US: what is found so is what reading the format shows.
use Prim.Native.Nat.{ℕ, ◌+◌, ◌-◌}
use mathlib.Core.Path.{◌≡◌, sym, ap, ◌∙◌, subst}
use native.Mathlib.Omega.{arith}
use borrow.Author.Rules.{rules}
use lib.ListN.{take, drop}
use Rattle.std.proofs.lemmas.Result.{IfOk-weaker}
use Rattle.label.specs.Bytes.{capital_or_digit, every}
use Rattle.walk.specs.declared.Stage.TheVariants.{Tag}
use Rattle.walk.specs.Cursors.{plain_row}
use Rattle.sweeps.specs.Quick.{BodySwept}
use Rattle.sweeps.specs.Segments.{segments_kind, SegmentsDue}
use Rattle.sweeps.proofs.SegmentTurns.{release_noted, segments_swept}
use Rattle.reader.proofs.quick.sweep.Sweep.segments.Goals as goal

pub body-requires : goal.body-requires
body-requires g c = let args = c.args in
    let s = args.self.now in
    let m = s.message.now in
    let pre = c.requires in
    let new = c.count.new.self in
    let one = c.in_ok-count.ensures in
    let row = c.standing_at in
    let long = c.if-m-at.false in (
      search rules,
      subst (λ (n : ℕ). SegmentsDue m s.wanted args.f (args.at + 6 + 3) n new.numbers (plain_row m Tag args.f (args.at + 6 + 3))) (sym one.counted)
          (record {
            framed = pre.1.framed;
            inside = omega (arith, long);
            known = omega (arith, pre.0.1);
            few = pre.1.few;
            noted = release_noted m args.f args.at pre.0.0 pre.0.1 s.wanted.from args.notes.now.rows args.notes.now.numbers new.numbers row.result (omega (arith, long)) row.ensures one.noted pre.1.noted;
          }),
    )

pub returns : goal.returns
returns g c = let args = c.args in
    let s = args.self.now in
    let m = s.message.now in
    let pre = c.requires in
    let long = c.if-m-at.false in
    let all = c.all_in in
    let body = c.body in
    let new = body.new.notes in
    let six : args.at + 6 - args.at ≡ 6 = omega arith in
    IfOk-weaker body.result _ _
    (λ next so.
    segments_swept m args.f args.at pre.0.0 pre.0.1 s.wanted.from args.notes.now.rows (record { next = next; rows = new.rows }) new.numbers (omega (arith, long))
    (sym (ap (λ n. every capital_or_digit (take n (drop args.at m))) six) ∙ sym all.ensures ∙ c.if-not-all_in.false) (sym c.agree.ensures ∙ c.if-agree-ne3.false)
    (subst (λ (n : ℕ). BodySwept m s.wanted.from (segments_kind args.f) (args.at + 6 + 3) n (record { next = next; rows = new.rows }) new.numbers) c.in_ok-count.ensures.counted so))
    body.ensures
