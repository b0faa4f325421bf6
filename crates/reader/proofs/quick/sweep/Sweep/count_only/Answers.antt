-- `count_only` is the count and the payload right behind the indicator: what is found so is what reading format 15 shows.
use borrow.Author.Rules.{rules}
use Rattle.std.proofs.lemmas.Result.{IfOk-weaker}
use Rattle.sweeps.proofs.CountedLaws.{count_due, count_only_swept}
use Rattle.reader.proofs.quick.sweep.Sweep.count_only.Goals as goal

pub payload-requires : goal.payload-requires
payload-requires g c = let args = c.args in
    let pre = c.requires in
    let s = args.self.now in
    (search rules, count_due s.message.now s.wanted args.at args.notes.now.rows args.notes.now.numbers pre.framed pre.inside pre.few pre.noted)

pub returns : goal.returns
returns g c = let args = c.args in
    let s = args.self.now in
    let rest = c.payload in
    IfOk-weaker rest.result _ _ (λ next. count_only_swept s.message.now s.wanted.from args.at args.notes.now.rows rest.new.notes.numbers (record { next = next; rows = rest.new.notes.rows }) c.requires.inside) rest.ensures
