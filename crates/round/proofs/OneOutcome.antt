-- Two outcomes that a public function's contract allows for the same inputs are equal. `Learnt` is the contract as the checker has it and a caller learns it:
-- lifetimes, arguments, answer, and what lent memory holds afterwards.
use mathlib.Core.Path.{◌≡◌, sym, ◌∙◌}
use contract.Lifetimes.{Lfts}
use Rattle.label.proofs.Numbers.{writings_by_answer}
use Rattle.round.proofs.write_again.Reads as write_again

pub write_again_once : (κs : Lfts 2) (a : _) (r r' : _) (s s' : _) → write_again.Learnt κs a r s → write_again.Learnt κs a r' s' → (r ≡ r') × (s.1.1.0.now ≡ s'.1.1.0.now)
write_again_once κs a r r' s s' one two = (writings_by_answer r r' (one.0 ∙ sym two.0), one.1.0 ∙ sym two.1.0)
