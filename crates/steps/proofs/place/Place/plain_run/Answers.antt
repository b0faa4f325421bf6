-- `plain_run` counts the plain bytes in front.
use Rattle.std.proofs.Common.{◌+◌, ◌≡◌, ◌∙◌, ap, cond, refl, [], ◌∷◌, arith, rules, drop}
use Rattle.std.specs.List.{prefix_len}
use Rattle.std.proofs.lemmas.Grind.{common_steps}
use Rattle.std.proofs.lemmas.Iterator.{YieldsList-from_slice}
use Rattle.std.proofs.lemmas.Iterator.Consumers.{YieldsList-at, count_from_yields_List}
use Rattle.std.proofs.lemmas.Iterator.Search.{YieldsList-from_take_while}
use Rattle.std.proofs.lemmas.List.Folds.{length-prefix_len}
use borrow.Author.Tests.{tests}
use Rattle.label.specs.Bytes.{Bytes, plain}
use Rattle.walk.specs.Cursors.{plain_run}
use Rattle.steps.proofs.place.Place.plain_run.Goals as goal

plain_in_front : (bs : Bytes) → prefix_len plain bs ≡ plain_run bs
plain_in_front [] = refl
plain_in_front (b ∷ bs) = ap (λ n. cond (plain b) n 0) (ap (λ n. 1 + n) (plain_in_front bs) ∙ omega arith)

pub returns : goal.returns
returns c =
    let m = drop c.args.self.at c.args.self.message.now in
    let behind : c.unwrap_or.result.now ≡ m = grind (arith, common_steps) in
    let counted = count_from_yields_List c.take_while.result c.count.result c.count.ensures.ran
    (YieldsList-from_take_while _ plain (YieldsList-at c.take_while.ensures.source (YieldsList-from_slice m cc)) c.take_while.ensures.closure c.take_while.ensures.done (λ x b q k. search (rules, tests))) in
    counted ∙ length-prefix_len plain m ∙ plain_in_front m
