-- `between` goes by the kind of the later row.
use mathlib.Core.Path.{sym, ◌∙◌}
use borrow.Author.Tests.{ne_eqb}
use Rattle.label.specs.Rendered.{marks_between}
use Rattle.writer.proofs.marks.between.Goals as goal

pub returns-in-Indicator : goal.returns-in-Indicator
unfolding marks_between
returns-in-Indicator c = simp (c.closing_of.ensures, c.in-Indicator.ensures)

pub returns-in-HeaderValue : goal.returns-in-HeaderValue
unfolding marks_between
returns-in-HeaderValue c = simp (c.before_value.ensures, c.in-HeaderValue.ensures)

pub returns-then-behind_value : goal.returns-then-behind_value
unfolding marks_between
returns-then-behind_value c = let behind = sym c.is_value-behind_value.ensures ∙ c.if-behind_value.true in
    simp (c.in-Piece.ensures, behind)

pub returns-else-behind_value : goal.returns-else-behind_value
unfolding marks_between
returns-else-behind_value c = let behind = sym c.is_value-behind_value.ensures ∙ c.if-behind_value.false in
    simp (c.in-Piece.ensures, behind)

pub returns-then-behind_value-2 : goal.returns-then-behind_value-2
unfolding marks_between
returns-then-behind_value-2 c = let behind = sym c.is_value-behind_value.ensures ∙ c.if-behind_value-2.true in
    simp (c.in-Tag.ensures, behind)

pub returns-else-behind_value-2 : goal.returns-else-behind_value-2
unfolding marks_between
returns-else-behind_value-2 c = let behind = sym c.is_value-behind_value.ensures ∙ c.if-behind_value-2.false in
    simp (c.in-Tag.ensures, behind)

pub returns-in-LaterElement : goal.returns-in-LaterElement
unfolding marks_between
returns-in-LaterElement c = simp c.in-LaterElement.ensures

pub returns-in-FurtherSubElement : goal.returns-in-FurtherSubElement
unfolding marks_between
returns-in-FurtherSubElement c = simp c.in-FurtherSubElement.ensures

pub returns-then-behind_value-3 : goal.returns-then-behind_value-3
unfolding marks_between
returns-then-behind_value-3 c = let k = c.args.row.kind in
    let other = c.in-Body.ensures in
    let behind = sym c.is_value-behind_value.ensures ∙ c.if-behind_value-3.true in
    simp (ne_eqb k 1 other.no_indicator, ne_eqb k 2 other.no_value, ne_eqb k 3 other.no_piece, ne_eqb k 4 other.no_tag, ne_eqb k 5 other.no_element, ne_eqb k 6 other.no_sub_element, behind)

pub returns-else-behind_value-3 : goal.returns-else-behind_value-3
unfolding marks_between
returns-else-behind_value-3 c = let k = c.args.row.kind in
    let other = c.in-Body.ensures in
    let behind = sym c.is_value-behind_value.ensures ∙ c.if-behind_value-3.false in
    simp (ne_eqb k 1 other.no_indicator, ne_eqb k 2 other.no_value, ne_eqb k 3 other.no_piece, ne_eqb k 4 other.no_tag, ne_eqb k 5 other.no_element, ne_eqb k 6 other.no_sub_element, behind)
