-- Two outcomes that a public function's contract allows for the same inputs are equal. `Learnt` is the contract as the checker has it and a caller learns it:
-- lifetimes, arguments, answer, and what lent memory holds afterwards.
use mathlib.Core.Path.{◌≡◌, sym, ◌∙◌}
use contract.Lifetimes.{Lfts}
use Rattle.tallies.proofs.tally.Reads as tally
use Rattle.tallies.proofs.header.is_headed.Reads as is_headed
use Rattle.tallies.proofs.text.agree.Reads as agree

pub tally_once : (κs : Lfts 1) (a : _) (r r' : _) (s s' : _) → tally.Learnt κs a r s → tally.Learnt κs a r' s' → r ≡ r'
tally_once κs a r r' s s' one two = one ∙ sym two

pub agree_once : (κs : Lfts 2) (a : _) (r r' : _) (s s' : _) → agree.Learnt κs a r s → agree.Learnt κs a r' s' → r ≡ r'
agree_once κs a r r' s s' one two = one ∙ sym two

pub is_headed_once : (κs : Lfts 1) (a : _) (r r' : _) (s s' : _) → is_headed.Learnt κs a r s → is_headed.Learnt κs a r' s' → r ≡ r'
is_headed_once κs a r r' s s' one two = one ∙ sym two
