-- How long and how many: both limits, the width of a row, and the lengths of the transport fields.
use Rattle.std.specs.Prelude.{ℕ, Bool, ◌&&◌, List, [], ◌∷◌, leb, length, get_or}
use Rattle.label.specs.declared.Limit.{Limit}
use Rattle.label.specs.Bytes.{Bytes}

infix 80 ◌to◌
-- the most bytes in a message (01, Rows)
abbrev pub longest : ℕ
longest = 4096

-- the most rows in a message (01, Rows)
abbrev pub most_rows : ℕ
most_rows = 1024

-- how many numbers a row is (01, Rows; 02, No. 9)
abbrev pub row_width : ℕ
row_width = 5

-- a least and a greatest length
abbrev pub ◌to◌ : ℕ → ℕ → Limit
l to g = record { 0 = l; 1 = g }

-- as long as a limit allows
unfoldable pub long_as : Limit → Bytes → Bool
long_as l bs = leb l.0 (length bs) && leb (length bs) l.1

-- 01, Transport fields; No. 10 as document 02, No. 2, has it. A row for version 02 and one for 96, a pair for each of the fields No. 1 to 15; version
-- 96 has no field 15
abbrev pub limits : List (List Limit)
limits =
    (0 to 11 ∷ 3 to 3 ∷ 1 to 3 ∷ 1 to 20 ∷ 2 to 4 ∷ 1 to 10 ∷ 3 to 3 ∷ 1 to 30 ∷ 3 to 9 ∷ 3 to 10 ∷ 1 to 1 ∷ 1 to 35 ∷ 1 to 35 ∷ 2 to 2 ∷ 1 to 35 ∷ [])
    ∷ (3 to 11 ∷ 3 to 3 ∷ 1 to 3 ∷ 1 to 20 ∷ 2 to 4 ∷ 1 to 10 ∷ 3 to 3 ∷ 1 to 30 ∷ 3 to 9 ∷ 1 to 10 ∷ 1 to 1 ∷ 1 to 35 ∷ 1 to 35 ∷ 2 to 2 ∷ 0 to 0 ∷ [])
    ∷ []

-- a field's limits, by version (0 is 02, 1 is 96) and field (0 is No. 1)
abbrev pub limit_of : ℕ → ℕ → Limit
limit_of version field = get_or (get_or limits version []) field (0 to 0)
