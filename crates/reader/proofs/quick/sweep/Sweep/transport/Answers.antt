-- `transport` notes the version's row, and the fields are due behind it: what is found so is what reading format 01 as the first envelope shows.
use Prim.Native.Nat.{ℕ, ◌+◌}
use mathlib.Core.Path.{◌≡◌, refl, sym, ap, ◌∙◌, subst}
use native.Mathlib.Omega.{arith}
use borrow.Author.Rules.{rules}
use Rattle.std.proofs.lemmas.Result.{IfOk-weaker}
use Rattle.pieces.specs.declared.Kind.TheVariants.{Fields}
use Rattle.walk.specs.declared.Stage.TheVariants.{Piece}
use Rattle.walk.specs.Cursors.{plain_row}
use Rattle.sweeps.specs.Quick.{BodySwept, StandsAt}
use Rattle.sweeps.proofs.TransportLaws.{begins, fields_inside, version_noted, found_02, found_96, transport_swept}
use Rattle.envelope.specs.Bodies.{body_found}
use Rattle.envelope.specs.Formats.{transport_found}
use Rattle.reader.proofs.quick.sweep.Sweep.transport.Goals as goal
use Rattle.reader.proofs.quick.sweep.Sweep.transport.Goals.{in-48-eq50, in-57-eq54}

pub pieces-requires : goal.pieces-requires
pieces-requires g c = let args = c.args in
    let s = args.self.now in
    let m = s.message.now in
    let pre = c.requires in
    let ready = begins m args.at c.if-at-m.false in
    let new = c.count.new.self in
    let one = c.in_ok-count.ensures in
    let row = c.standing_at in (
      search rules,
      (
        refl,
        subst (λ (n : ℕ). StandsAt m s.wanted (args.at + 3) n new.numbers (plain_row m Piece 1 (args.at + 3))) (sym one.counted)
            (record {
              framed = pre.framed;
              inside = fields_inside m args.at args.notes.now.rows ready;
              few = pre.few;
              noted = version_noted m args.at args.notes.now.rows ready row.result row.ensures s.wanted.from args.notes.now.numbers new.numbers one.noted pre.noted;
            }),
      ),
    )

pub returns : goal.returns
returns g c = let args = c.args in
    let s = args.self.now in
    let m = s.message.now in
    let rows = args.notes.now.rows in
    let ready = begins m args.at c.if-at-m.false in
    let version = c.match-m-at.version in
    let found : transport_found m args.at ≡ body_found (Fields version) 2 m (args.at + 3) = elim c.match-m-at.branch [
      | in-48-eq50 w ↦ found_02 m args.at rows ready c.if-m-at-ne-GS.false (omega (arith, w.in-48-eq50)) (omega (arith, w.in-48-eq50)) ∙ ap (λ v. body_found (Fields v) 2 m (args.at + 3)) (sym w.version-is)
      | in-57-eq54 w ↦ found_96 m args.at rows ready c.if-m-at-ne-GS.false (omega (arith, w.in-57-eq54)) (omega (arith, w.in-57-eq54)) ∙ ap (λ v. body_found (Fields v) 2 m (args.at + 3)) (sym w.version-is)
    ] in
    let rest = c.pieces in
    let new = rest.new.notes in
    IfOk-weaker rest.result _ _
    (λ next so.
    transport_swept m args.at rows ready s.wanted.from (Fields version) new.numbers (record { next = next; rows = new.rows }) found
    (subst (λ (n : ℕ). BodySwept m s.wanted.from (Fields version) (args.at + 3) n (record { next = next; rows = new.rows }) new.numbers) c.in_ok-count.ensures.counted so))
    rest.ensures
