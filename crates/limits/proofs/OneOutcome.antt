-- Two outcomes that a public function's contract allows for the same inputs are equal. `Learnt` is the contract as the checker has it and a caller learns it:
-- lifetimes, arguments, answer, and what lent memory holds afterwards.
use mathlib.Core.Path.{◌≡◌, sym, ◌∙◌}
use contract.Lifetimes.{Lfts}
use Rattle.limits.proofs.limits_of.Reads as Limits-of
use Rattle.limits.proofs.limits_in.Reads as Limits-in
use Rattle.limits.proofs.fits.Reads as fits
use Rattle.limits.proofs.most_fields.Reads as most_fields

pub limits_of_once : (κs : Lfts 0) (a : _) (r r' : _) (s s' : _) → Limits-of.Learnt κs a r s → Limits-of.Learnt κs a r' s' → r ≡ r'
limits_of_once κs a r r' s s' one two = one ∙ sym two

pub limits_in_once : (κs : Lfts 0) (a : _) (r r' : _) (s s' : _) → Limits-in.Learnt κs a r s → Limits-in.Learnt κs a r' s' → r ≡ r'
limits_in_once κs a r r' s s' one two = one ∙ sym two

pub fits_once : (κs : Lfts 0) (a : _) (r r' : _) (s s' : _) → fits.Learnt κs a r s → fits.Learnt κs a r' s' → r ≡ r'
fits_once κs a r r' s s' one two = one ∙ sym two

pub most_fields_once : (κs : Lfts 0) (a : _) (r r' : _) (s s' : _) → most_fields.Learnt κs a r s → most_fields.Learnt κs a r' s' → r ≡ r'
most_fields_once κs a r r' s s' one two = one ∙ sym two
