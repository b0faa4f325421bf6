-- `elements`: they are due behind GS.
use native.Mathlib.Omega.{arith}
use borrow.Author.Rules.{rules}
use Rattle.std.proofs.lemmas.Result.{IfOk-weaker}
use Rattle.label.specs.Bytes.{GS}
use Rattle.sweeps.proofs.Framing.{byte_behind}
use Rattle.sweeps.proofs.PieceSweeps.{pieces_of}
use Rattle.sweeps.proofs.EnvelopeSweeps.{elements_due, elements_swept}
use Rattle.reader.proofs.quick.sweep.Sweep.elements.Goals as goal

pub pieces-requires : goal.pieces-requires
pieces-requires g c = let args = c.args in
    let pre = c.requires in
    let s = args.self.now in
    let m = s.message.now in
    let gs = c.if-self-at-ne-GS.false in (
      search rules,
      (
        pieces_of args.k args.f pre.0,
        record {
          framed = pre.1.framed;
          inside = byte_behind m pre.1.framed args.at pre.1.inside GS gs (λ e. omega arith);
          few = pre.1.few;
          noted = elements_due m s.wanted.from args.at args.notes.now.rows pre.1.inside gs args.k args.f pre.0 args.notes.now.numbers pre.1.noted;
        },
      ),
    )

pub returns : goal.returns
returns g c = let args = c.args in
    let pre = c.requires in
    let s = args.self.now in
    let body = c.pieces in
    let new = body.new.notes in
    IfOk-weaker body.result _ _
    (λ next. elements_swept s.message.now s.wanted.from args.at args.notes.now.rows pre.1.inside c.if-self-at-ne-GS.false args.k args.f pre.0 (record { next = next; rows = new.rows }) new.numbers)
    body.ensures
