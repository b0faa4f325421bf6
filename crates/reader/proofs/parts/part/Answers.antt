-- `part` is the stretch itself.
use Prim.Native.Nat.{◌+◌, ◌-◌}
use mathlib.Core.Path.{◌≡◌, refl, ap}
use native.Mathlib.Omega.{arith}
use lib.ListN.{take, drop}
use Rattle.label.specs.Part.{part_of}
use Rattle.reader.proofs.parts.part.Goals as goal

pub returns : goal.returns
returns c = let m = c.args.message in
    let s = c.stretch_of-s.result in
    let lies = c.stretch_of-s.ensures in
    let measures : s.start + s.length - s.start ≡ (part_of c.args.edition m.now c.args.row).length = omega (arith, lies.measures) in
    record { bytes = (λ j. take (measures j) (drop (lies.from j) m.now)); block = refl; place = ap (λ start. start + m.ref_ptr.1) lies.from }
