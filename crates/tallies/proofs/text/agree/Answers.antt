-- `agree` counts the pairs in front that are the same.
use Rattle.std.proofs.Common.{ℕ, ◌≡◌, ◌∙◌, eqb, drop, arith, rules}
use Rattle.std.specs.List.{zip}
use Rattle.std.proofs.lemmas.Grind.{common_steps}
use Rattle.std.proofs.lemmas.Iterator.{YieldsList-from_slice, YieldsList-from_zip}
use Rattle.std.proofs.lemmas.Iterator.Consumers.{YieldsList-at, count_from_yields_List}
use Rattle.std.proofs.lemmas.Iterator.Search.{YieldsList-from_take_while}
use Rattle.std.proofs.lemmas.List.Folds.{length-prefix_len}
use borrow.Author.Tests.{tests}
use Rattle.label.specs.ReadMessage.{agreement}
use Rattle.tallies.proofs.Agreement.{agree_pairs}
use Rattle.tallies.proofs.text.agree.Goals as goal

pub returns : goal.returns
returns c =
    let m = drop c.args.at c.args.m.now in
    let text = c.args.text.now in
    let same = λ (p : ℕ × ℕ). eqb p.0 p.1 in
    let behind : c.unwrap_or-from.result.now ≡ m = grind (arith, common_steps) in
    let counted = count_from_yields_List c.take_while.result c.count.result c.count.ensures.ran
    (YieldsList-from_take_while _ same (YieldsList-at c.take_while.ensures.source (YieldsList-from_zip (YieldsList-at c.zip.ensures.first (YieldsList-from_slice m cc)) (YieldsList-from_slice text cc)))
    c.take_while.ensures.closure c.take_while.ensures.done (λ x b q k. search (rules, tests))) in
    let agreed : c.count.result ≡ agreement text m = counted ∙ length-prefix_len same (zip m text) ∙ agree_pairs m text in
    grind (arith, common_steps, agreed)
