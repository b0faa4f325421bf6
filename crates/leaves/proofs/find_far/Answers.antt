-- The blocks that are passed over lack the byte.
use Rattle.std.proofs.Common.{ℕ, ◌+◌, ◌*◌, ◌<◌, ◌≤◌, ◌≡◌, true, not, eqb, length, take, drop, Some, None, ap, subst, ◌∙◌, arith, rules, Bor}
use Rattle.std.specs.Option.{IfSome, option_map}
use Rattle.std.specs.declared.option.Option.{Option}
use Rattle.label.specs.Bytes.{Bytes, every}
use lib.Seq.{drop-drop}
use Rattle.std.proofs.lemmas.Grind.{common_steps}
use Rattle.leaves.specs.Seek.{seek}
use Rattle.leaves.proofs.Turns.{seek_blocks}
use Rattle.leaves.proofs.find_far.Goals as goal

-- a block that passed the test, and is one of the source's
passed : {P Q : Bor Bytes → Type 0} (c : ℕ) (o from : Option (Bor Bytes)) (y : Bor Bytes) (block : Bytes) → from ≡ o → option_map (λ x. x) o ≡ Some y
    → ((x : Bor Bytes) → P x → every (λ b. not (eqb b c)) x.now ≡ true) → ((x : Bor Bytes) → Q x → x.now ≡ block)
    → IfSome o P → IfSome from Q → every (λ b. not (eqb b c)) block ≡ true
passed c None from y block same there tells is h k = absurd cc
passed c (Some x) None y block same there tells is h k = absurd cc
passed c (Some x) (Some z) y block same there tells is h k =
    let one : x ≡ z = cc in
    subst (λ l. every (λ b. not (eqb b c)) l ≡ true) (ap (λ v. v.now) one ∙ is z k) (tells x h)

-- what is found from an index on that is the one behind the blocks, however it is come by
found_at : (c r at from n : ℕ) (s : Bytes) → r ≡ at + seek c (drop at s) → at ≡ from + 64 * n → seek c (drop from s) ≡ n * 64 + seek c (drop (from + 64 * n) s) → r ≡ from + seek c (drop from s)
found_at c r at from n s found is far = omega (arith, found ∙ ap (λ k. k + seek c (drop k s)) is, far)

pub returns : goal.returns
returns c =
    let counted = c.count-blocks.ensures.runs in
    let p = counted.0 in
    let kept = c.take_while.ensures.runs p p.seen counted.1 in
    let q = kept.0 in
    let rest = c.from_on.result.now in
    let size : q.from.size ≡ 64 = ap (λ s. s.size) kept.1 ∙ c.chunks_exact.ensures.size in
    let whole : q.from.rest.now ≡ rest = ap (λ s. s.rest.now) kept.1 ∙ c.chunks_exact.ensures.rest in
    let cut = c.chunks_exact.ensures.runs q q.seen (omega arith) in
    let each = (kept.2.2 (λ a r f' k. search rules)).0 in
    let n = c.count-blocks.result in
    let lack : (k : ℕ) → k < n → every (λ b. not (eqb b c.args.c)) (take 64 (drop (k * 64) rest)) ≡ true
    = λ k below.
    let inside : k < p.len = omega (arith, counted.3) in
    passed c.args.c (p.at k) (q.at k) _ (take 64 (drop (k * 64) rest)) (kept.2.1 k inside) (p.reads k c.from_on.result inside)
    (λ x h. search rules)
    (λ x h. h.2.0 ∙ ap (λ n. take n (drop (k * n) q.from.rest.now)) size ∙ ap (λ l. take 64 (drop (k * 64) l)) whole)
    (each k) (cut.2 k) in
    let room : q.len * 64 ≤ length q.from.rest.now = subst (λ k. q.len * k ≤ length q.from.rest.now) size cut.0 in
    let far = seek_blocks c.args.c 64 rest n (omega (arith, room, ap length whole, kept.2.0, counted.3)) lack in
    let behind : drop (n * 64) rest ≡ drop (c.args.from + 64 * n) c.args.s.now
    = ap (drop (n * 64)) c.from_on.ensures ∙ drop-drop (n * 64) c.args.from c.args.s.now ∙ ap (λ k. drop k c.args.s.now) (omega arith) in
    let passed_over : seek c.args.c (drop c.args.from c.args.s.now) ≡ n * 64 + seek c.args.c (drop (c.args.from + 64 * n) c.args.s.now)
    = omega (arith, far, ap (seek c.args.c) behind, ap (seek c.args.c) c.from_on.ensures) in
    found_at c.args.c _ _ c.args.from n c.args.s.now c.find.ensures (grind (arith, common_steps)) passed_over
