-- How parts lie one behind the other. A part is a mark, one byte that stands in no row, or an item, whose content is a row's stretch.
-- The bytes and the rows are both read off one list of parts (01, Rows).
use Rattle.std.specs.Prelude.{ℕ, ◌+◌, List, [], ◌∷◌, ◌++◌, map, length}
use Rattle.label.specs.Bytes.{Bytes}

-- what a row tells besides its place
pub record Item : Type 0 where
  pub kind : ℕ
  pub format : ℕ
  pub content : Bytes

pub data Part : Type 0 where
  mark : ℕ → Part
  item : Item → Part

-- a row less its envelope's ordinal: start and length name a stretch of the message
pub record Row : Type 0 where
  pub kind : ℕ
  pub format : ℕ
  pub start : ℕ
  pub length : ℕ

-- the bytes of parts
abbrev pub bytes_of : List Part → Bytes
bytes_of [] = []
bytes_of (mark b ∷ ps) = b ∷ bytes_of ps
bytes_of (item i ∷ ps) = i.content ++ bytes_of ps

-- the items of parts
abbrev pub items_of : List Part → List Item
items_of [] = []
items_of (mark b ∷ ps) = items_of ps
items_of (item i ∷ ps) = i ∷ items_of ps

-- the row of an item whose content starts at an offset
abbrev pub row_at : ℕ → Item → Row
row_at at i = record { kind = i.kind; format = i.format; start = at; length = length i.content }

-- the rows of parts that begin at an offset
abbrev pub rows_from : ℕ → List Part → List Row
rows_from at [] = []
rows_from at (mark b ∷ ps) = rows_from (at + 1) ps
rows_from at (item i ∷ ps) = row_at at i ∷ rows_from (at + length i.content) ps

-- the five numbers of a row, its envelope's ordinal last (02, No. 9)
abbrev pub numbers : Row → ℕ → List ℕ
numbers r ordinal = r.kind ∷ r.format ∷ r.start ∷ r.length ∷ ordinal ∷ []

-- and of rows with their ordinals, one behind the other
abbrev pub all_numbers : List Row → List ℕ → List ℕ
all_numbers [] os = []
all_numbers (r ∷ rs) [] = []
all_numbers (r ∷ rs) (o ∷ os) = numbers r o ++ all_numbers rs os

-- marks
abbrev pub marks : Bytes → List Part
marks bs = map mark bs

-- further runs of parts, each behind a separator; runs of parts with a separator between them
abbrev pub further : ℕ → List (List Part) → List Part
further separator [] = []
further separator (run ∷ runs) = mark separator ∷ (run ++ further separator runs)

abbrev pub separated : ℕ → List (List Part) → List Part
separated separator [] = []
separated separator (run ∷ runs) = run ++ further separator runs

-- runs of parts, each ended by a terminator
abbrev pub ended : ℕ → List (List Part) → List Part
ended terminator [] = []
ended terminator (run ∷ runs) = run ++ (mark terminator ∷ ended terminator runs)
