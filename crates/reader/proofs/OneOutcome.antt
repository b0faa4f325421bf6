-- Two outcomes that a public function's contract allows for the same inputs are equal. `Learnt` is the contract as the checker has it and a caller learns it:
-- lifetimes, arguments, answer, and what lent memory holds afterwards.
use mathlib.Core.Path.{◌≡◌, sym, ◌∙◌}
use contract.Lifetimes.{Lfts}
use Rattle.label.proofs.Numbers.{readings_by_answer}
use Rattle.reader.proofs.table.read.Reads as read
use Rattle.reader.proofs.parts.part.Reads as part
use Rattle.reader.proofs.parts.stretch_of.Reads as stretch_of

pub read_once : (κs : Lfts 2) (a : _) (r r' : _) (s s' : _) → read.Learnt κs a r s → read.Learnt κs a r' s' → (r ≡ r') × (s.1.1.0.now ≡ s'.1.1.0.now)
read_once κs a r r' s s' one two = (readings_by_answer r r' (one.0 ∙ sym two.0), one.1 ∙ sym two.1)

pub part_once : (κs : Lfts 1) (a : _) (r r' : _) (s s' : _) → part.Learnt κs a r s → part.Learnt κs a r' s' → (r.now ≡ r'.now) × (r.ref_ptr ≡ r'.ref_ptr)
part_once κs a r r' s s' one two = (one.0 ∙ sym two.0, λ i. ((one.1.0 ∙ sym two.1.0) i, (one.1.1 ∙ sym two.1.1) i))

pub stretch_of_once : (κs : Lfts 1) (a : _) (r r' : _) (s s' : _) → stretch_of.Learnt κs a r s → stretch_of.Learnt κs a r' s' → r ≡ r'
stretch_of_once κs a r r' s s' one two = λ i. record { start = (one.from ∙ sym two.from) i; length = (one.measures ∙ sym two.measures) i }
