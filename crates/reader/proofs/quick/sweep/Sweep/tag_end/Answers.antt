-- `tag_end`: what `pieces` takes for a tag, and the byte behind it.
use Rattle.sweeps.proofs.Tags.{tag_to}
use Rattle.reader.proofs.quick.sweep.Sweep.tag_end.Goals as goal

pub bounds-self-end : goal.bounds-self-end
bounds-self-end c = c.in_ok-end.ensures.runs.inside

pub returns : goal.returns
returns c = tag_to c.args.self.now.message.now c.args.at c.in_ok-end.end c.in_ok-end.ensures c.if-b.false
