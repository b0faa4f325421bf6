-- `compression` notes its row, and the count is due behind it.
use Prim.Native.Nat.{ℕ, ◌+◌}
use mathlib.Core.Path.{subst}
use native.Mathlib.Omega.{arith}
use borrow.Author.Rules.{rules}
use Rattle.std.proofs.lemmas.Result.{IfOk-weaker}
use Rattle.envelope.specs.Formats.{count_found}
use Rattle.walk.specs.declared.Stage.TheVariants.{CountValue}
use Rattle.sweeps.specs.Counted.{PartSwept}
use Rattle.sweeps.proofs.CountedLaws.{behind_compression, value_due, compression_value, compression_swept}
use Rattle.reader.proofs.quick.sweep.Sweep.compression.Goals as goal

pub payload-requires : goal.payload-requires
payload-requires g c = let args = c.args in
    let pre = c.requires in
    let s = args.self.now in
    let value = c.in_ok-count.ensures in
    let mid = c.value.new.notes in
    let count = c.in_ok-count.count in
    (search rules, value_due s.message.now s.wanted compression_value args.at args.notes.now.rows count mid.rows mid.numbers CountValue (λ end. behind_compression 9 s.message.now args.at end count) pre.framed pre.few (omega arith) value)

pub returns : goal.returns
returns g c = let args = c.args in
    let m = args.self.now.message.now in
    let from = args.self.now.wanted.from in
    let value = c.in_ok-count.ensures in
    let count = c.in_ok-count.count in
    let rest = c.payload in
    let new = rest.new.notes in
    IfOk-weaker rest.result _ _
    (λ next so.
    compression_swept m from args.at args.notes.now.rows count c.value.new.notes.numbers new.numbers (record { next = next; rows = new.rows }) value.1
    (subst (λ (n : ℕ). PartSwept m from (count_found 5 m count) 5 (n + 2) (record { next = next; rows = new.rows }) new.numbers) value.0 (so 5)))
    rest.ensures
