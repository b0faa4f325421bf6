-- Two outcomes that a public function's contract allows for the same inputs are equal. `Learnt` is the contract as the checker has it and a caller learns it:
-- lifetimes, arguments, answer, and what lent memory holds afterwards.
use mathlib.Core.Path.{◌≡◌, sym, ◌∙◌}
use contract.Lifetimes.{Lfts}
use Rattle.numbers.proofs.number_of.Reads as number_of_lem
use Rattle.numbers.proofs.write_number_of.Reads as write_number_of

pub number_of_once : (κs : Lfts 0) (a : _) (r r' : _) (s s' : _) → number_of_lem.Learnt κs a r s → number_of_lem.Learnt κs a r' s' → r ≡ r'
number_of_once κs a r r' s s' one two = one ∙ sym two

pub write_number_of_once : (κs : Lfts 0) (a : _) (r r' : _) (s s' : _) → write_number_of.Learnt κs a r s → write_number_of.Learnt κs a r' s' → r ≡ r'
write_number_of_once κs a r r' s s' one two = one ∙ sym two
