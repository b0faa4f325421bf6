-- `pieces_hold` asks of each piece, by its number.
use Rattle.std.proofs.Common.{rules, tests, eqb}
use mathlib.Core.Path.{ap, ◌∙◌}
use Rattle.std.proofs.lemmas.Iterator.Search.{all_from_yields_List}
use Rattle.std.proofs.lemmas.Iterator.Consumers.{YieldsList-at, YieldsList-from_enumerate}
use Rattle.std.proofs.lemmas.Iterator.Splits.{YieldsList-from_slice_split}
use Rattle.pieces.specs.PieceTests.{piece_test}
use Rattle.bodies.specs.Kinds.{separator_of, every_from}
use Rattle.bodies.proofs.SplitLaws.{split_pieces, every_numbered}
use Rattle.bodies.proofs.pieces_hold.Goals as goal

pub returns : goal.returns
returns c = let k = c.args.k in
    let s = c.args.s.now in
    all_from_yields_List (λ x. piece_test k x.0 x.1) _ _ c.all.result c.all.ensures.ran
    (YieldsList-from_enumerate
    (YieldsList-at c.enumerate.ensures.source
    (YieldsList-from_slice_split _ (λ b. eqb b (separator_of k)) s c.split.ensures.rest c.split.ensures.done c.split.ensures.closure (λ x b q h. search (rules, tests))))
    c.enumerate.ensures.count)
    (λ x b q h. (search rules, search rules))
    ∙ every_numbered (piece_test k) 0 _
    ∙ ap (every_from (piece_test k) 0) (split_pieces (separator_of k) s)
