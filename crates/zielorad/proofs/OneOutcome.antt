-- Two outcomes that a public function's contract allows for the same inputs are equal. `Learnt` is the contract as the checker has it and a caller learns it:
-- lifetimes, arguments, answer, and what lent memory holds afterwards.
use mathlib.Core.Path.{◌≡◌, sym, ◌∙◌}
use contract.Lifetimes.{Lfts}
use Rattle.zielorad.proofs.zielorad_read.Reads as zielorad_read
use Rattle.zielorad.proofs.zielorad_write.Reads as zielorad_write
use Rattle.zielorad.proofs.zielorad_part_of.Reads as zielorad_part_of

pub zielorad_read_once : (κs : Lfts 2) (a : _) (r r' : _) (s s' : _) → zielorad_read.Learnt κs a r s → zielorad_read.Learnt κs a r' s' → (r ≡ r') × (s.1.1.0.now ≡ s'.1.1.0.now)
zielorad_read_once κs a r r' s s' one two = (one.0 ∙ sym two.0, one.1 ∙ sym two.1)

pub zielorad_write_once : (κs : Lfts 3) (a : _) (r r' : _) (s s' : _) → zielorad_write.Learnt κs a r s → zielorad_write.Learnt κs a r' s' → (r ≡ r') × (s.1.1.1.0.now ≡ s'.1.1.1.0.now)
zielorad_write_once κs a r r' s s' one two = (one.0 ∙ sym two.0, one.1 ∙ sym two.1)

pub zielorad_part_of_once : (κs : Lfts 1) (a : _) (r r' : _) (s s' : _) → zielorad_part_of.Learnt κs a r s → zielorad_part_of.Learnt κs a r' s' → r ≡ r'
zielorad_part_of_once κs a r r' s s' one two = one ∙ sym two
