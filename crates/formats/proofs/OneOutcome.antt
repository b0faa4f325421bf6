-- Two outcomes that a public function's contract allows for the same inputs are equal. `Learnt` is the contract as the checker has it and a caller learns it:
-- lifetimes, arguments, answer, and what lent memory holds afterwards.
use mathlib.Core.Path.{◌≡◌, sym, ◌∙◌}
use contract.Lifetimes.{Lfts}
use Rattle.formats.proofs.Table.{one_shape}
use Rattle.formats.proofs.shape_in.Reads as shape_in
use Rattle.formats.proofs.shape_of.Reads as shape_of

pub shape_in_once : (κs : Lfts 0) (a : _) (r r' : _) (s s' : _) → shape_in.Learnt κs a r s → shape_in.Learnt κs a r' s' → r ≡ r'
shape_in_once κs a r r' s s' one two = one_shape r r' (one ∙ sym two)

pub shape_of_once : (κs : Lfts 0) (a : _) (r r' : _) (s s' : _) → shape_of.Learnt κs a r s → shape_of.Learnt κs a r' s' → r ≡ r'
shape_of_once κs a r r' s s' one two = one_shape r r' (one ∙ sym two)
