-- `like` compares three numbers, where there is a row; no kind is 0, as that of no row.
use mathlib.Core.Path.{ap, ◌∙◌}
use mathlib.Core.Bool.{◌&&◌}
use lib.Dec.{eqb}
use Rattle.std.specs.Prelude.{Option}
use Rattle.std.specs.Option.{unwrap_or}
use Rattle.label.specs.Layout.{Row}
use Rattle.walk.specs.Cursors.{row_of}
use Rattle.given.specs.Given.{no_row, alike_row}
use Rattle.given.proofs.GivenLaws.{unlike_none}
use Rattle.given.proofs.like.Goals as goal

pub returns-in_default : goal.returns-in_default
returns-in_default c = let at = c.args.c in
    unlike_none at ∙ ap (λ (o : Option Row). alike_row (row_of at) (unwrap_or o no_row)) c.in_default.ensures

pub returns : goal.returns
unfolding alike_row
returns c = let at = c.args.c in
    let kind = c.kind_of-kind.ensures in
    let row = c.in-Some.row in
    ap (λ k. eqb k row.kind && eqb at.format row.format && eqb at.length row.length) kind
    ∙ ap (λ (o : Option Row). alike_row (row_of at) (unwrap_or o no_row)) c.in-Some.ensures
