-- `envelope` notes the indicator's row, and its format follows.
use Prim.Native.Nat.{ℕ, ◌+◌}
use mathlib.Core.Path.{sym, subst}
use borrow.Author.Rules.{rules}
use Rattle.std.specs.Prelude.{Option, IfSome}
use Rattle.std.proofs.lemmas.Result.{IfOk-weaker}
use Rattle.label.specs.Formats.{widest, rule_of}
use Rattle.walk.specs.Cursors.{opening}
use Rattle.sweeps.specs.Quick.{Indicates, StandsAt, KnownSwept}
use Rattle.sweeps.proofs.EnvelopeSweeps.{format_due, envelope_swept}
use Rattle.reader.proofs.quick.sweep.Sweep.envelope.Goals as goal

pub format-requires : goal.format-requires
format-requires g c = let args = c.args in
    let s = args.self.now in
    let m = s.message.now in
    let pre = c.requires.0 in
    let f = c.in_ok-f in
    let says = subst (λ (o : Option ℕ). IfSome o (Indicates m args.at)) f.ensures.ok_part c.format_at.ensures in
    let new = c.count.new.self in
    let one = c.in_ok-count.ensures in
    let row = c.standing_at in (
      search rules,
      subst (λ (n : ℕ). StandsAt m s.wanted (args.at + 2) n new.numbers (opening m f.f (args.at + 2) (rule_of widest f.f))) (sym one.counted)
          (record {
            framed = pre.framed;
            inside = says.more;
            few = pre.few;
            noted = format_due m pre.framed s.wanted.from args.at args.notes.now.rows f.f says args.notes.now.numbers new.numbers row.result row.ensures pre.noted one.noted;
          }),
    )

pub returns : goal.returns
returns g c = let args = c.args in
    let s = args.self.now in
    let m = s.message.now in
    let pre = c.requires.0 in
    let f = c.in_ok-f in
    let says = subst (λ (o : Option ℕ). IfSome o (Indicates m args.at)) f.ensures.ok_part c.format_at.ensures in
    let rest = c.format in
    let new = rest.new.notes in
    IfOk-weaker rest.result _ _
    (λ next so.
    envelope_swept m pre.framed s.wanted.from args.at args.notes.now.rows f.f says s.edition (record { next = next; rows = new.rows }) new.numbers
    (subst (λ (n : ℕ). KnownSwept s.edition m s.wanted.from f.f (args.at + 2) n (record { next = next; rows = new.rows }) new.numbers) c.in_ok-count.ensures.counted so))
    rest.ensures
