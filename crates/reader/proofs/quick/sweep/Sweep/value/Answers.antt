-- `value` notes a header value's row: a run of its class with its length, and GS behind it.
use Rattle.leaves.specs.Classes.{class_of}
use Rattle.sweeps.proofs.CountedLaws.{without_end, value_swept}
use Rattle.reader.proofs.quick.sweep.Sweep.value.Goals as goal

pub run_end-end-requires : goal.run_end-end-requires
run_end-end-requires g c = let pre = c.requires in
    (without_end (class_of c.args.v.class) pre.1, pre.0.inside)

pub returns : goal.returns
returns g c = let args = c.args in
    let pre = c.requires in
    let end = c.run_end-end in
    let one = c.in_ok-count.ensures in (
      one.counted,
      value_swept args.self.now.message.now args.self.now.wanted args.v args.at args.notes.now.rows end.result args.notes.now.numbers c.count.new.self.numbers c.standing_at.result pre.0 pre.1 end.ensures
          c.if-size-v.false c.if-m-end-ne-GS.false c.standing_at.ensures one.noted,
    )
