-- `before` is a search: what `position` answers, or the length.
use Rattle.std.proofs.Common.{ℕ, ◌≡◌, ◌∙◌, ap, sym, refl, eqb, ltb, cond, length, Some, None, arith, rules}
use Rattle.std.specs.List.{position_or_len}
use Rattle.std.proofs.lemmas.Grind.{common_steps}
use Rattle.std.proofs.lemmas.Iterator.{YieldsList-from_slice}
use Rattle.std.proofs.lemmas.Iterator.Search.{position_from_yields_List}
use Rattle.std.proofs.lemmas.List.Recursion.{is_position_or_len}
use borrow.Author.Tests.{tests}
use Rattle.leaves.specs.Seek.{seek}
use Rattle.leaves.proofs.Turns.{seek_within}
use Rattle.leaves.proofs.before.Goals as goal

pub returns : goal.returns
returns c =
    let s = c.args.s.now in
    let is = λ (b : ℕ). eqb b c.args.c in
    let found = position_from_yields_List is _ _ c.position.result c.position.ensures.ran (YieldsList-from_slice s cc) (λ x b q k. search (rules, tests)) in
    let same : seek c.args.c s ≡ position_or_len is s = is_position_or_len (seek c.args.c) is refl (λ x xs. ap (cond (eqb x c.args.c) 0) (omega arith)) s in
    let placed : c.position.result ≡ cond (ltb (seek c.args.c s) (length s)) (Some (seek c.args.c s)) None
    = found ∙ ap (λ n. cond (ltb n (length s)) (Some n) None) (sym same) in
    let within = seek_within c.args.c s in
    grind (arith, common_steps, placed, within)
