-- `element_06` counts the digits in front.
use Rattle.std.proofs.Common.{◌∙◌, ap, take, drop, rules}
use Rattle.std.proofs.lemmas.Iterator.{YieldsList-from_slice, YieldsList-from_take}
use Rattle.std.proofs.lemmas.Iterator.Consumers.{YieldsList-at, count_from_yields_List}
use Rattle.std.proofs.lemmas.Iterator.Search.{YieldsList-from_take_while}
use Rattle.std.proofs.lemmas.List.{take_rest}
use Rattle.std.proofs.lemmas.List.Folds.{length-prefix_len}
use borrow.Author.Tests.{tests}
use Rattle.label.specs.Bytes.{digit}
use Rattle.label.specs.Elements.{capital_and_more, element06}
use Rattle.pieces.proofs.ElementLaws.{behind_digits}
use Rattle.pieces.proofs.elements.element_06.Goals as goal

pub returns : goal.returns
unfolding element06
returns c = let s = c.args.s.now in
    let counted = count_from_yields_List c.take_while.result c.count-digits.result c.count-digits.ensures.ran
    (YieldsList-from_take_while _ digit (YieldsList-at c.take_while.ensures.source (YieldsList-from_take 3 (YieldsList-at c.take.ensures.source (YieldsList-from_slice s c.iter.ensures.rest)) c.take.ensures.count))
    c.take_while.ensures.closure c.take_while.ensures.done (λ x b q k. search (rules, tests))) in
    c.capital_and_more.ensures ∙ ap capital_and_more (take_rest s c.count-digits.result ∙ ap (λ n. drop n s) (counted ∙ length-prefix_len digit (take 3 s))) ∙ behind_digits 3 s
