-- Two outcomes that a public function's contract allows for the same inputs are equal. `Learnt` is the contract as the checker has it and a caller learns it:
-- lifetimes, arguments, answer, and what lent memory holds afterwards.
use mathlib.Core.Path.{◌≡◌, sym, ◌∙◌}
use contract.Lifetimes.{Lfts}
use Rattle.faults.proofs.fault_in.Reads as fault_in

pub fault_in_once : (κs : Lfts 1) (a : _) (r r' : _) (s s' : _) → fault_in.Learnt κs a r s → fault_in.Learnt κs a r' s' → r ≡ r'
fault_in_once κs a r r' s s' one two = one ∙ sym two
