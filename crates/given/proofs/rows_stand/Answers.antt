-- `rows_stand` asks in the definition's order.
use mathlib.Core.Path.{◌∙◌}
use Rattle.given.proofs.GivenLaws.{not_whole, too_many_lem, as_they_lie}
use Rattle.given.proofs.rows_stand.Goals as goal

pub returns-then-rows-ne0 : goal.returns-then-rows-ne0
returns-then-rows-ne0 c = let args = c.args in
    not_whole args.held.now args.rows.now c.if-rows-ne0.true

pub returns-then-rows-gt-MOST_ROWS : goal.returns-then-rows-gt-MOST_ROWS
returns-then-rows-gt-MOST_ROWS c = let args = c.args in
    too_many_lem args.held.now args.rows.now c.if-rows-ne0.false c.if-rows-gt-MOST_ROWS.true

pub returns : goal.returns
returns c = let args = c.args in
    c.all_inside.ensures ∙ as_they_lie args.held.now args.rows.now c.if-rows-ne0.false c.if-rows-gt-MOST_ROWS.false
