-- What is printed: lines of numbers in decimal, a space between two numbers.
use Rattle.std.specs.Prelude.{ℕ, zero, suc, ◌+◌, ◌*◌, cond, List, [], ◌∷◌, ◌++◌, get_or, ltb, decimal, Err, Ok}
use Rattle.label.specs.Answer.{answer_of, room_of, Reading}
use Rattle.label.specs.Bytes.{Bytes}
use Rattle.label.specs.Counting.{row_from}
use Rattle.label.specs.Layout.{numbers}
use Rattle.label.specs.Limits.{row_width}

-- a number in decimal and the byte behind it
abbrev pub ended : ℕ → ℕ → Bytes
ended n end = decimal n ++ (end ∷ [])

-- a line of numbers: a space behind each, and a line end behind the last
abbrev pub line_of : List ℕ → Bytes
line_of [] = []
line_of (n ∷ []) = ended n 10
line_of (n ∷ m ∷ ns) = ended n 32 ++ line_of (m ∷ ns)

-- the five numbers of a table's row, counted from 0
abbrev pub row_numbers : List ℕ → ℕ → List ℕ
row_numbers table row = numbers (row_from table (row * row_width)) (get_or table (row * row_width + 4) 0)

-- a row's line; nothing where the table has no such row
abbrev pub row_line : List ℕ → ℕ → Bytes
row_line table row = cond (ltb row (room_of table)) (line_of (row_numbers table row)) []

-- the lines of a table's first rows
abbrev pub row_lines : List ℕ → ℕ → Bytes
row_lines table zero = []
row_lines table (suc rows) = row_lines table rows ++ row_line table rows

-- a reading whole: its answer, and of an accepted message every row
abbrev pub reading_lines : Reading → List ℕ → Bytes
reading_lines (Ok counts) table = line_of (answer_of (Ok counts)) ++ row_lines table counts.rows
reading_lines (Err r) table = line_of (answer_of (Err r))
