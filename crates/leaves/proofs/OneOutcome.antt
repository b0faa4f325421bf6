-- Two outcomes that a public function's contract allows for the same inputs are equal. `Learnt` is the contract as the checker has it and a caller learns it:
-- lifetimes, arguments, answer, and what lent memory holds afterwards.
use mathlib.Core.Path.{◌≡◌, sym, ◌∙◌}
use contract.Lifetimes.{Lfts}
use Rattle.leaves.proofs.in_class.Reads as in_class
use Rattle.leaves.proofs.digit.Reads as digit
use Rattle.leaves.proofs.all_in.Reads as all_in
use Rattle.leaves.proofs.find.Reads as find
use Rattle.leaves.proofs.find_far.Reads as find_far

pub in_class_once : (κs : Lfts 0) (a : _) (r r' : _) (s s' : _) → in_class.Learnt κs a r s → in_class.Learnt κs a r' s' → r ≡ r'
in_class_once κs a r r' s s' one two = one ∙ sym two

pub digit_once : (κs : Lfts 0) (a : _) (r r' : _) (s s' : _) → digit.Learnt κs a r s → digit.Learnt κs a r' s' → r ≡ r'
digit_once κs a r r' s s' one two = one ∙ sym two

pub all_in_once : (κs : Lfts 1) (a : _) (r r' : _) (s s' : _) → all_in.Learnt κs a r s → all_in.Learnt κs a r' s' → r ≡ r'
all_in_once κs a r r' s s' one two = one ∙ sym two

pub find_once : (κs : Lfts 1) (a : _) (r r' : _) (s s' : _) → find.Learnt κs a r s → find.Learnt κs a r' s' → r ≡ r'
find_once κs a r r' s s' one two = one ∙ sym two

pub find_far_once : (κs : Lfts 1) (a : _) (r r' : _) (s s' : _) → find_far.Learnt κs a r s → find_far.Learnt κs a r' s' → r ≡ r'
find_far_once κs a r r' s s' one two = one ∙ sym two
