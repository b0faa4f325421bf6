-- Two outcomes that a public function's contract allows for the same inputs are equal. `Learnt` is the contract as the checker has it and a caller learns it:
-- lifetimes, arguments, answer, and what lent memory holds afterwards.
use mathlib.Core.Path.{◌≡◌, sym, ◌∙◌}
use contract.Lifetimes.{Lfts}
use Rattle.steps.proofs.first.Reads as first
use Rattle.steps.proofs.next.Reads as next

pub first_once : (κs : Lfts 1) (a : _) (r r' : _) (s s' : _) → first.Learnt κs a r s → first.Learnt κs a r' s' → r ≡ r'
first_once κs a r r' s s' one two = one ∙ sym two

pub next_once : (κs : Lfts 1) (a : _) (r r' : _) (s s' : _) → next.Learnt κs a r s → next.Learnt κs a r' s' → r ≡ r'
next_once κs a r r' s s' one two = one ∙ sym two
