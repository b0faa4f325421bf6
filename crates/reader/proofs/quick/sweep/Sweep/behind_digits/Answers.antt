-- `behind_digits` counts the digits in front of what is left.
use Rattle.std.proofs.Common.{◌+◌, ◌-◌, ◌∙◌, ap, length, take, drop, length-drop, arith, rules}
use Rattle.std.proofs.lemmas.Iterator.{YieldsList-from_slice, YieldsList-from_take}
use Rattle.std.proofs.lemmas.Iterator.Consumers.{YieldsList-at, count_from_yields_List}
use Rattle.std.proofs.lemmas.Iterator.Search.{YieldsList-from_take_while}
use Rattle.std.proofs.lemmas.List.Folds.{length-prefix_len}
use borrow.Author.Tests.{tests}
use lib.Seq.{take_all}
use Rattle.label.specs.Bytes.{digit}
use Rattle.sweeps.proofs.ElementEnds.{digits_counted, digits_inside}
use Rattle.reader.proofs.quick.sweep.Sweep.behind_digits.Goals as goal

pub returns : goal.returns
returns c = let s = c.args.self.now in
    let m = s.message.now in
    let bs = drop c.args.at m in
    let counted = count_from_yields_List c.take_while.result c.count-digits.result c.count-digits.ensures.ran
    (YieldsList-from_take_while _ digit (YieldsList-at c.take_while.ensures.source (YieldsList-from_take 3 (YieldsList-at c.take.ensures.source (YieldsList-from_slice bs (c.iter.ensures.rest ∙ take_all (length m - c.args.at) bs (omega (arith, length-drop c.args.at m))))) c.take.ensures.count))
    c.take_while.ensures.closure c.take_while.ensures.done (λ x b q k. search (rules, tests))) in
    let run = counted ∙ length-prefix_len digit (take 3 bs) ∙ digits_counted 3 bs in
    (ap (λ n. c.args.at + n) run, omega (arith, run, digits_inside m s.framed 3 c.args.at c.requires))
