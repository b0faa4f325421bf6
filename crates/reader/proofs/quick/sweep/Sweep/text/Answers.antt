-- `text` runs to an RS, and each of its bytes is permitted.
use Prim.Native.Nat.{ℕ, ◌+◌}
use mathlib.Core.Path.{sym, ◌∙◌, subst}
use Rattle.sweeps.specs.Quick.{FormatSwept}
use Rattle.sweeps.proofs.EnvelopeSweeps.{text_swept}
use Rattle.reader.proofs.quick.sweep.Sweep.text.Goals as goal

pub returns : goal.returns
returns g c = let args = c.args in
    let pre = c.requires in
    let m = args.self.now.message.now in
    let from = args.self.now.wanted.from in
    let end = c.find_far-end in
    let new = c.put.new.self in
    let one = c.put.ensures in
    subst (λ (n : ℕ). FormatSwept m from 7 args.at args.notes.now.rows (record { next = end.result + 1; rows = n }) new.numbers) (sym one.counted)
    (text_swept m pre.framed from args.at args.notes.now.rows end.result pre.inside end.ensures c.if-m-end.false args.notes.now.numbers new.numbers c.standing_at.result
    (sym c.all_in.ensures ∙ c.if-not-all_in.false) c.standing_at.ensures pre.noted one.noted)
