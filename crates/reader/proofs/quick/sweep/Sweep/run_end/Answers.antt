use mathlib.Core.Path.{refl, sym, ◌∙◌}
use mathlib.Core.Bool.{true, false}
use native.Mathlib.Omega.{arith}
use borrow.Author.Rules.{rules}
use Rattle.leaves.specs.Classes.{class_of}
use Rattle.walk.proofs.Offsets.{run_by}
use Rattle.sweeps.proofs.Framing.{class_behind}
use Rattle.reader.proofs.quick.sweep.Sweep.run_end.Goals as goal

pub loop-m-init : goal.loop-m-init
loop-m-init c = (search rules, refl)

pub returns : goal.returns
returns c = let args = c.args in
    let at = c.loop-m in
    let stops = run_by args.self.now.message.now at.i at.invariant.0 (class_of args.k) false (sym c.in_class.ensures ∙ c.loop-m-test.false) in
    record { runs = omega (arith, stops, at.invariant.1); inside = at.invariant.0 }

pub loop-m-preserved : goal.loop-m-preserved
loop-m-preserved c = let args = c.args in
    let pre = c.requires in
    let at = c.loop-m in
    let is = sym c.in_class.ensures ∙ c.loop-m-test.true in
    let on = run_by args.self.now.message.now at.i at.invariant.0 (class_of args.k) true is in
    (class_behind args.self.now.message.now args.self.now.framed at.i at.invariant.0 (class_of args.k) pre.0 is, omega (arith, on, at.invariant.1))
