-- Two outcomes that a public function's contract allows for the same inputs are equal. `Learnt` is the contract as the checker has it and a caller learns it:
-- lifetimes, arguments, answer, and what lent memory holds afterwards.
use mathlib.Core.Path.{◌≡◌, sym, ◌∙◌}
use contract.Lifetimes.{Lfts}
use Rattle.walk.proofs.kind_of.Reads as kind_of
use Rattle.walk.proofs.standing_at.Reads as standing_at
use Rattle.walk.proofs.count_from.Reads as count_from

pub kind_of_once : (κs : Lfts 0) (a : _) (r r' : _) (s s' : _) → kind_of.Learnt κs a r s → kind_of.Learnt κs a r' s' → r ≡ r'
kind_of_once κs a r r' s s' one two = one ∙ sym two

pub standing_at_once : (κs : Lfts 0) (a : _) (r r' : _) (s s' : _) → standing_at.Learnt κs a r s → standing_at.Learnt κs a r' s' → r ≡ r'
standing_at_once κs a r r' s s' one two = one ∙ sym two

pub count_from_once : (κs : Lfts 1) (a : _) (r r' : _) (s s' : _) → count_from.Learnt κs a r s → count_from.Learnt κs a r' s' → r ≡ r'
count_from_once κs a r r' s s' one two = one ∙ sym two
