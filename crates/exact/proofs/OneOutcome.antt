-- Two outcomes that a public function's contract allows for the same inputs are equal. `Learnt` is the contract as the checker has it and a caller learns it:
-- lifetimes, arguments, answer, and what lent memory holds afterwards.
use mathlib.Core.Path.{◌≡◌, sym, ◌∙◌}
use contract.Lifetimes.{Lfts}
use Rattle.label.proofs.Numbers.{readings_by_answer}
use Rattle.exact.proofs.table.read_exactly.Reads as read_exactly

pub read_exactly_once : (κs : Lfts 2) (a : _) (r r' : _) (s s' : _) → read_exactly.Learnt κs a r s → read_exactly.Learnt κs a r' s' → (r ≡ r') × (s.1.1.0.now ≡ s'.1.1.0.now)
read_exactly_once κs a r r' s s' one two = (readings_by_answer r r' (one.0 ∙ sym two.0), one.1 ∙ sym two.1)
