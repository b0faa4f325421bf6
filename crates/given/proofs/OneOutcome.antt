-- Two outcomes that a public function's contract allows for the same inputs are equal. `Learnt` is the contract as the checker has it and a caller learns it:
-- lifetimes, arguments, answer, and what lent memory holds afterwards.
use mathlib.Core.Path.{◌≡◌, refl, sym, ap, ◌∙◌}
use contract.Lifetimes.{Lfts}
use Rattle.std.specs.Prelude.{Option, Some, None}
use Rattle.std.specs.Option.{unwrap_or, option_map}
use Rattle.label.specs.Layout.{Row}
use Rattle.given.specs.declared.Given.{Given}
use Rattle.given.specs.Given.{as_row}
use Rattle.given.proofs.row_at.Reads as row_at_lem
use Rattle.given.proofs.row_from.Reads as row_from
use Rattle.given.proofs.rows_stand.Reads as rows_stand_lem
use Rattle.given.proofs.ordinals_counted.Reads as ordinals_counted_lem
use Rattle.given.proofs.like.Reads as like

pub row_at_once : (κs : Lfts 1) (a : _) (r r' : _) (s s' : _) → row_at_lem.Learnt κs a r s → row_at_lem.Learnt κs a r' s' → r ≡ r'
row_at_once κs a r r' s s' one two = same r r' (one ∙ sym two)
  where
    same : (o o' : Option Given) → option_map as_row o ≡ option_map as_row o' → o ≡ o'
    same None None is = refl
    same None (Some g) is = cc
    same (Some g) None is = cc
    same (Some g) (Some g') is =
        let row : as_row g ≡ as_row g' = ap (λ (o : Option Row). unwrap_or o (as_row g)) is in
        λ i. Some record { kind = (row i).kind; format = (row i).format; start = (row i).start; length = (row i).length }

pub row_from_once : (κs : Lfts 1) (a : _) (r r' : _) (s s' : _) → row_from.Learnt κs a r s → row_from.Learnt κs a r' s' → r ≡ r'
row_from_once κs a r r' s s' one two =
    let row = one ∙ sym two in
    λ i. record { kind = (row i).kind; format = (row i).format; start = (row i).start; length = (row i).length }

pub rows_stand_once : (κs : Lfts 2) (a : _) (r r' : _) (s s' : _) → rows_stand_lem.Learnt κs a r s → rows_stand_lem.Learnt κs a r' s' → r ≡ r'
rows_stand_once κs a r r' s s' one two = one ∙ sym two

pub ordinals_counted_once : (κs : Lfts 1) (a : _) (r r' : _) (s s' : _) → ordinals_counted_lem.Learnt κs a r s → ordinals_counted_lem.Learnt κs a r' s' → r ≡ r'
ordinals_counted_once κs a r r' s s' one two = one ∙ sym two

pub like_once : (κs : Lfts 1) (a : _) (r r' : _) (s s' : _) → like.Learnt κs a r s → like.Learnt κs a r' s' → r ≡ r'
like_once κs a r r' s s' one two = one ∙ sym two
