-- `rules_hold` is `rules_of`, an arm for each kind.
use mathlib.Core.Path.{◌∙◌}
use mathlib.Core.Logic.{inl, inr}
use Rattle.label.specs.Bytes.{GS}
use Rattle.label.specs.Pieces.{pieces}
use Rattle.label.specs.Elements.{element05, element06, element12}
use Rattle.label.specs.Segments.{tag, tag03}
use Rattle.bodies.proofs.RuleLaws.{every_elements, segments_law, tag_no_us, tag03_no_us}
use Rattle.bodies.proofs.rules_hold.Goals as goal

pub returns-in-Segments03 : goal.returns-in-Segments03
returns-in-Segments03 c = elim c.in-Segments03.is [
  | inl is ↦ rw is (rw is at c.segments_hold.ensures ∙ segments_law tag03 c.args.body.now tag03_no_us)
  | inr is ↦ rw is (rw is at c.segments_hold.ensures ∙ segments_law tag c.args.body.now tag_no_us)
]

pub returns-in-Elements05 : goal.returns-in-Elements05
returns-in-Elements05 c = let is = c.in-Elements05.is in
    rw is (rw is at c.pieces_hold.ensures ∙ every_elements element05 0 (pieces GS c.args.body.now))

pub returns-in-Elements06 : goal.returns-in-Elements06
returns-in-Elements06 c = let is = c.in-Elements06.is in
    rw is (rw is at c.pieces_hold-in-Elements06.ensures ∙ every_elements element06 0 (pieces GS c.args.body.now))

pub returns-in-Elements12 : goal.returns-in-Elements12
returns-in-Elements12 c = let is = c.in-Elements12.is in
    rw is (rw is at c.pieces_hold-in-Elements12.ensures ∙ every_elements element12 0 (pieces GS c.args.body.now))
