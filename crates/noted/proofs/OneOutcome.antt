-- Two outcomes that a public function's contract allows for the same inputs are equal. `Learnt` is the contract as the checker has it and a caller learns it:
-- lifetimes, arguments, answer, and what lent memory holds afterwards.
use mathlib.Core.Path.{◌≡◌, sym, ◌∙◌}
use contract.Lifetimes.{Lfts}
use Rattle.label.proofs.Numbers.{readings_by_answer}
use Rattle.noted.proofs.hand_over.Reads as hand_over
use Rattle.noted.proofs.stretch_noted.Reads as stretch_noted

pub hand_over_once : (κs : Lfts 2) (a : _) (r r' : _) (s s' : _) → hand_over.Learnt κs a r s → hand_over.Learnt κs a r' s' → (r ≡ r') × (s.1.1.0.now ≡ s'.1.1.0.now)
hand_over_once κs a r r' s s' one two = (readings_by_answer r r' (one.0 ∙ sym two.0), one.1 ∙ sym two.1)

pub stretch_noted_once : (κs : Lfts 1) (a : _) (r r' : _) (s s' : _) → stretch_noted.Learnt κs a r s → stretch_noted.Learnt κs a r' s' → r ≡ r'
stretch_noted_once κs a r r' s s' one two = one ∙ sym two
