-- `counted` notes the type's row behind GS, and the compression is due behind it: what is found so is what reading format 09 shows.
use Prim.Native.Nat.{ℕ, ◌+◌}
use mathlib.Core.Path.{subst}
use native.Mathlib.Omega.{arith}
use borrow.Author.Rules.{rules}
use Rattle.std.proofs.lemmas.Result.{IfOk-weaker}
use Rattle.envelope.specs.Formats.{compression_found}
use Rattle.walk.specs.declared.Stage.TheVariants.{CompressionValue}
use Rattle.sweeps.specs.Counted.{PartSwept}
use Rattle.sweeps.proofs.CountedLaws.{behind_type, value_due, type_value, type_due, counted_swept}
use Rattle.reader.proofs.quick.sweep.Sweep.counted.Goals as goal

pub value-requires : goal.value-requires
value-requires g c = let args = c.args in
    let pre = c.requires in
    let s = args.self.now in
    (search rules, (type_due s.message.now s.wanted.from args.at args.notes.now.rows pre.framed pre.inside c.if-self-at-ne-GS.false s.wanted args.notes.now.numbers pre.few pre.noted, λ b is. is))

pub compression-requires : goal.compression-requires
compression-requires g c = let args = c.args in
    let pre = c.requires in
    let s = args.self.now in
    let value = c.in_ok-next.ensures in
    let mid = c.value.new.notes in
    let next = c.in_ok-next.next in
    (search rules, value_due s.message.now s.wanted type_value (args.at + 1) args.notes.now.rows next mid.rows mid.numbers CompressionValue (λ end. behind_type 9 s.message.now (args.at + 1) end next) pre.framed pre.few (omega arith) value)

pub returns : goal.returns
returns g c = let args = c.args in
    let pre = c.requires in
    let m = args.self.now.message.now in
    let from = args.self.now.wanted.from in
    let value = c.in_ok-next.ensures in
    let at = c.in_ok-next.next in
    let rest = c.compression in
    let new = rest.new.notes in
    IfOk-weaker rest.result _ _
    (λ next so.
    counted_swept m from args.at args.notes.now.rows pre.framed pre.inside c.if-self-at-ne-GS.false at c.value.new.notes.numbers new.numbers (record { next = next; rows = new.rows }) value.1
    (subst (λ (n : ℕ). PartSwept m from (compression_found m at) 5 (n + 3) (record { next = next; rows = new.rows }) new.numbers) value.0 so))
    rest.ensures
