-- Two outcomes that a public function's contract allows for the same inputs are equal. `Learnt` is the contract as the checker has it and a caller learns it:
-- lifetimes, arguments, answer, and what lent memory holds afterwards.
use mathlib.Core.Path.{◌≡◌, sym, ◌∙◌}
use contract.Lifetimes.{Lfts}
use Rattle.envelope.proofs.judge_envelope.Reads as judge_envelope

pub judge_envelope_once : (κs : Lfts 1) (a : _) (r r' : _) (s s' : _) → judge_envelope.Learnt κs a r s → judge_envelope.Learnt κs a r' s' → r ≡ r'
judge_envelope_once κs a r r' s s' one two = one ∙ sym two
