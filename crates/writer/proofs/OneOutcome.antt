-- Two outcomes that a public function's contract allows for the same inputs are equal. `Learnt` is the contract as the checker has it and a caller learns it:
-- lifetimes, arguments, answer, and what lent memory holds afterwards.
use mathlib.Core.Path.{◌≡◌, sym, ◌∙◌}
use contract.Lifetimes.{Lfts}
use Rattle.label.proofs.Numbers.{writings_by_answer}
use Rattle.writer.proofs.write.Reads as write

pub write_once : (κs : Lfts 3) (a : _) (r r' : _) (s s' : _) → write.Learnt κs a r s → write.Learnt κs a r' s' → (r ≡ r') × (s.1.1.1.0.now ≡ s'.1.1.1.0.now)
write_once κs a r r' s s' one two = (writings_by_answer r r' (one.0 ∙ sym two.0), one.1 ∙ sym two.1)
