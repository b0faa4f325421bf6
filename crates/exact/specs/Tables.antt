-- What a table must have room for.
use Rattle.std.specs.Prelude.{ℕ, ◌+◌, ◌*◌, ◌≤◌, ◌≡◌, List, length}
use Rattle.label.specs.declared.Edition.{Edition}
use Rattle.label.specs.Bytes.{Bytes}
use Rattle.label.specs.Limits.{longest, row_width}
use Rattle.label.specs.ReadMessage.{reading}
use Rattle.label.specs.Answer.{rows_read, numbers_read, overlaid}
use Rattle.walk.specs.declared.Cursor.{Cursor}

-- a row that lies in a message has room in a table from an index on
pub record Fits (table : List ℕ) (at : ℕ) (c : Cursor) : Type 0 where
  pub roomy : at + row_width ≤ length table
  pub inside : c.start + c.length ≤ longest

-- so many rows are read in a message in an edition
abbrev pub RowsIn : Edition → Bytes → ℕ → Type 0
RowsIn edition m rows = rows ≡ length (rows_read (reading edition m))

-- in one of the editions, and a table has room for them
pub record Room (m : Bytes) (rows : ℕ) (table : List ℕ) : Type 0 where
  pub edition : Edition
  pub counted : RowsIn edition m rows
  pub roomy : row_width * rows ≤ length table

-- the table afterwards: the numbers of these rows, in whichever edition they are read, and then what it held
abbrev pub FilledWith : Bytes → ℕ → List ℕ → List ℕ → Type 0
FilledWith m rows table after = (edition : Edition) → RowsIn edition m rows → after ≡ overlaid (numbers_read (reading edition m)) table
