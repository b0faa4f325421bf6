-- `framed`: two lengths, the header, and the last byte.
use mathlib.Core.Bool.{false≢true}
use Rattle.sweeps.proofs.Framing.{headed_by}
use Rattle.reader.proofs.quick.message.framed.Goals as goal

pub returns-then-m : goal.returns-then-m
returns-then-m c = λ so. absurd (false≢true so)

pub returns-then-m-gt-LONGEST : goal.returns-then-m-gt-LONGEST
returns-then-m-gt-LONGEST c = λ so. absurd (false≢true so)

pub returns : goal.returns
returns c = headed_by c.args.m.now c.is_headed.result c.if-m.false c.if-m-gt-LONGEST.false c.is_headed.ensures
