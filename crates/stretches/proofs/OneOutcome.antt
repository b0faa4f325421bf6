-- Two outcomes that a public function's contract allows for the same inputs are equal. `Learnt` is the contract as the checker has it and a caller learns it:
-- lifetimes, arguments, answer, and what lent memory holds afterwards.
use mathlib.Core.Path.{◌≡◌, sym, ◌∙◌}
use contract.Lifetimes.{Lfts}
use Rattle.stretches.proofs.rows_of.Reads as rows_of_lem
use Rattle.stretches.proofs.stretch_exactly.Reads as stretch_exactly

pub rows_of_once : (κs : Lfts 1) (a : _) (r r' : _) (s s' : _) → rows_of_lem.Learnt κs a r s → rows_of_lem.Learnt κs a r' s' → r ≡ r'
rows_of_once κs a r r' s s' one two = one ∙ sym two

pub stretch_exactly_once : (κs : Lfts 1) (a : _) (r r' : _) (s s' : _) → stretch_exactly.Learnt κs a r s → stretch_exactly.Learnt κs a r' s' → r ≡ r'
stretch_exactly_once κs a r r' s s' one two = λ i. record { start = (one.from ∙ sym two.from) i; length = (one.measures ∙ sym two.measures) i }
