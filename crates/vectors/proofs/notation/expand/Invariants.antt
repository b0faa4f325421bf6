-- Each turn takes something from the text's front.
use Rattle.std.proofs.Common.{length}
use Rattle.vectors.proofs.notation.expand.Given as goal

abbrev pub decreases-loop-run : goal.decreases-loop-run
decreases-loop-run l = length l.rest
