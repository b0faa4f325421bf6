-- `payload` notes the count's row and its own: it is as long as the count says, and RS stands behind it.
use Prim.Native.Nat.{ℕ, ◌+◌}
use mathlib.Core.Path.{subst}
use native.Mathlib.Omega.{arith}
use borrow.Author.Rules.{rules}
use Rattle.walk.proofs.Shaped.{digit_plain}
use Rattle.sweeps.specs.Quick.{NotedOne}
use Rattle.sweeps.specs.Counted.{CountSwept}
use Rattle.sweeps.proofs.CountedLaws.{payload_swept}
use Rattle.reader.proofs.quick.sweep.Sweep.payload.Goals as goal

pub value-requires : goal.value-requires
value-requires g c = let pre = c.requires in
    (search rules, (record { framed = pre.framed; inside = pre.inside; few = pre.few; known = pre.known; noted = pre.noted }, digit_plain))

pub returns : goal.returns
returns g c = let args = c.args in
    let m = args.self.now.message.now in
    let from = args.self.now.wanted.from in
    let value = c.in_ok-at.ensures in
    let mid = c.value.new.notes in
    let new = c.count.new.self in
    let one = c.in_ok-count.ensures in
    let row = c.standing_at.result in
    let next = c.in_ok-at.at + c.count_from-n.result + 1 in
    subst (λ (n : ℕ). CountSwept m from args.count args.notes.now.rows (record { next = next; rows = n }) new.numbers) (omega (arith, one.counted, value.0))
    (payload_swept args.f m from args.count args.notes.now.rows c.in_ok-at.at c.count_from-n.result mid.numbers new.numbers row
    c.requires.framed value.1 c.count_from-n.ensures c.if-m-at.false c.if-m-at-ne-RS.false c.standing_at.ensures
    (subst (λ (n : ℕ). NotedOne from mid.numbers new.numbers n row) value.0 one.noted))
