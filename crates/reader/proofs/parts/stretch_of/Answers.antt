-- `stretch_of` is the quick path's answer where that has one, and the exact reader's elsewhere.
use mathlib.Core.Path.{refl}
use native.Mathlib.Omega.{arith}
use Rattle.reader.proofs.parts.stretch_of.Goals as goal

pub sweep-swept-requires : goal.sweep-swept-requires
sweep-swept-requires c = (omega arith, ((omega arith, refl), c.framed.ensures c.if-not-framed.false))
