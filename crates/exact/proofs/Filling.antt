-- How a table is filled: one turn puts the cursor's row behind those that stand already, with its ordinal, and counts on to the next row's.
use Prim.Native.Nat.{ℕ, ◌+◌, ◌*◌, ◌≤◌, ◌<◌, min}
use mathlib.Core.Path.{◌≡◌, sym, ◌∙◌}
use mathlib.Core.List.{List, ◌++◌}
use native.Mathlib.Omega.{arith}
use lib.ListN.{length, get_or, take, drop, length-map}
use Rattle.label.specs.Bytes.{Bytes}
use Rattle.label.specs.Limits.{longest, row_width}
use Rattle.label.specs.Layout.{Row, numbers, all_numbers}
use Rattle.label.specs.Message.{Each}
use Rattle.label.specs.Answer.{overlaid}
use Rattle.label.specs.Counting.{kinds_of, raised, by_counting}
use Rattle.label.proofs.Ordinals.{kind_at, counted_long, counted_first, counted_step, raised_small}
use Rattle.noted.proofs.Copying.{Put, put_first, put_length, put_last, put_next}
use Rattle.walk.specs.declared.Cursor.{Cursor}
use Rattle.walk.specs.Cursors.{kind_of, row_of, first_cursor, next_cursor}
use Rattle.walk.proofs.Walks.{Yields}
use Rattle.walk.proofs.Standing.{rows_here, yields_next, holds_here}

abbrev ordinals : List Row → List ℕ
ordinals rows = by_counting (kinds_of rows)

-- a table after i rows: those, then what it held; the cursor yields the rows from number i on, and the ordinal is row i's, if there is one
pub record Filled (m : Bytes) (rows : List Row) (old : List ℕ) (table : List ℕ) (c : Cursor) (ordinal i : ℕ) : Type 0 where
  pub put : Put rows (ordinals rows) old table i
  pub yields : Yields m c (drop i rows)
  pub own : i < length rows → ordinal ≡ get_or (ordinals rows) i 0
  pub small : ordinal ≤ i

pub filled_first : (m : Bytes) (rows : List Row) (old : List ℕ) → Yields m (first_cursor m) rows → Filled m rows old old (first_cursor m) 0 0
filled_first m rows old yields = record { put = put_first rows (ordinals rows) old; yields = yields; own = λ some. sym (counted_first (kinds_of rows)); small = omega arith }

module _ (m : Bytes) (rows : List Row) (old table : List ℕ) (c : Cursor) (ordinal i : ℕ) (filled : Filled m rows old table c ordinal i) (roomy : row_width * length rows ≤ length old) where
  as_many : length (ordinals rows) ≡ length rows
  as_many = counted_long (kinds_of rows) ∙ length-map rows (λ (r : Row). r.kind)

  -- the table keeps its length
  pub filled_length : length table ≡ length old
  filled_length = put_length rows (ordinals rows) old as_many roomy table i filled.put

  -- after all rows it holds them and what it held behind them
  pub filled_last : length rows ≤ i → table ≡ overlaid (all_numbers rows (by_counting (kinds_of rows))) old
  filled_last last = put_last rows (ordinals rows) old as_many roomy table i filled.put last

  module _ (more : i < length rows) where
    -- the cursor's row lies in the first `longest` bytes
    pub filled_inside : Each (λ (r : Row). r.start + r.length ≤ min longest (length m)) rows → c.start + c.length ≤ longest
    filled_inside inside =
        let here = holds_here m rows c i filled.yields more (λ (r : Row). r.start + r.length ≤ min longest (length m)) inside in
        omega arith

    -- the ordinal of the next row
    next_own : (next : Cursor) → Yields m next (drop (i + 1) rows) → i + 1 < length rows → raised ordinal (kind_of next.stage) ≡ get_or (ordinals rows) (i + 1) 0
    next_own next yields less =
        let kind = kind_at rows (i + 1) (row_of next) _ (rows_here m rows next (i + 1) yields less) in
        (λ j. raised (filled.own more j) (sym kind j)) ∙ sym (counted_step (kinds_of rows) i (omega (arith, length-map rows (λ (r : Row). r.kind))))

    pub filled_next : (table' : List ℕ) → table' ≡ take (row_width * i) table ++ (numbers (row_of c) ordinal ++ drop (row_width * i + row_width) table)
        → (o : ℕ) → o ≡ raised ordinal (kind_of (next_cursor m c).stage) → Filled m rows old table' (next_cursor m c) o (i + 1)
    filled_next table' new o is =
        let on = yields_next m rows c i filled.yields more in
        record {
          put = put_next rows (ordinals rows) old as_many roomy table i filled.put (row_of c) _ (rows_here m rows c i filled.yields more) ordinal (filled.own more) table' new;
          yields = on;
          own = λ less. is ∙ next_own (next_cursor m c) on less;
          small = omega (arith, is, raised_small ordinal (kind_of (next_cursor m c).stage) i filled.small);
        }
