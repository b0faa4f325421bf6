-- Where a cursor stands that yields the rows from number i on: at the row of that number, and one step further it yields the rows behind that.
use Prim.Native.Nat.{ℕ, zero, suc, ◌+◌, ◌<◌}
use mathlib.Core.Path.{◌≡◌, sym, ap, ◌∙◌, subst}
use mathlib.Core.List.{List, [], ◌∷◌}
use native.Mathlib.Numerals.{add-one}
use lib.ListN.{length, get_or, drop}
use lib.Seq.{drop-cons}
use Rattle.label.specs.Bytes.{Bytes}
use Rattle.label.specs.Layout.{Row}
use Rattle.label.specs.Message.{Each}
use Rattle.walk.specs.declared.Cursor.{Cursor}
use Rattle.walk.specs.Cursors.{row_of, next_cursor}
use Rattle.walk.proofs.Walks.{Yields}

-- what holds of each row holds of each from number i on
each_from : (Fact : Row → Type 0) (i : ℕ) (rows : List Row) → Each Fact rows → Each Fact (drop i rows)
each_from Fact zero rows each = each
each_from Fact (suc i) [] each = tt
each_from Fact (suc i) (r ∷ rows) each = each_from Fact i rows each.1

module _ (m : Bytes) (rows : List Row) (c : Cursor) (i : ℕ) (yields : Yields m c (drop i rows)) (more : i < length rows) where
  from_here : drop i rows ≡ get_or rows i (row_of c) ∷ drop (i + 1) rows
  from_here = rw (add-one, drop-cons rows i (row_of c))

  yields_here : Yields m c (get_or rows i (row_of c) ∷ drop (i + 1) rows)
  yields_here = subst (Yields m c) from_here yields

  pub rows_here : drop i rows ≡ row_of c ∷ drop (i + 1) rows
  rows_here = from_here ∙ ap (λ r. r ∷ drop (i + 1) rows) (sym yields_here.0)

  pub yields_next : Yields m (next_cursor m c) (drop (i + 1) rows)
  yields_next = yields_here.1

  -- what holds of each row holds of the one that it stands at
  pub holds_here : (Fact : Row → Type 0) → Each Fact rows → Fact (row_of c)
  holds_here Fact each = (subst (Each Fact) rows_here (each_from Fact i rows each)).0
