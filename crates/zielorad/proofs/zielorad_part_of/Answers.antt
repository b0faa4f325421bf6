-- `zielorad_part_of` answers the stretch's own numbers.
use mathlib.Core.Path.{ap, ◌∙◌}
use Rattle.label.specs.Part.{part_of}
use Rattle.zielorad.proofs.zielorad_part_of.Goals as goal

pub returns : goal.returns
returns c = let args = c.args in
    let lies = c.stretch_of-stretch.ensures in
    let picked = c.edition_in.ensures in
    (λ i. record { start = lies.from i; length = lies.measures i }) ∙ ap (λ e. record { start = (part_of e args.message.now args.row).start; length = (part_of e args.message.now args.row).length }) picked
