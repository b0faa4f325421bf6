-- What is answered, in the paper's numbers, and what lent memory holds afterwards (01, Numbers for the receiving desk).
use Rattle.std.specs.Prelude.{Result, ℕ, ◌/◌, cond, List, [], ◌∷◌, ◌++◌, length, drop, ltb, Err, Ok}
use Rattle.label.specs.declared.Reason.{Reason}
use Rattle.label.specs.declared.Counts.{Counts}
use Rattle.label.specs.declared.Refusal.{Refusal}
use Rattle.label.specs.declared.Reason.TheVariants.{TooLong, NoMessageHeader, NoIndicator, NoTrailer, BytesAfterTrailer, UnknownFormat, NotFirst, BadFormatHeader, PayloadDoesNotFit, ByteNotPermitted, BodyBreaksRules, NoRecordSeparator, TooManyRows, NoRoom, BadFieldCount, FieldTooShort, FieldTooLong, BadFieldBytes}
use Rattle.label.specs.Bytes.{Bytes}
use Rattle.label.specs.Limits.{most_rows, row_width}
use Rattle.label.specs.declared.Edition.{Edition}
use Rattle.label.specs.Layout.{Row, numbers, all_numbers}
use Rattle.label.specs.Message.{rows_of, ordinals_of, numbers_of}
use Rattle.label.specs.ReadMessage.{Outcome, read, refused, reading}

-- the papers' number of a reason (01, Numbers for the receiving desk; 02, No. 1)
abbrev pub number : Reason → ℕ
number TooLong = 1
number NoMessageHeader = 2
number NoIndicator = 3
number NoTrailer = 4
number BytesAfterTrailer = 5
number UnknownFormat = 6
number NotFirst = 7
number BadFormatHeader = 8
number PayloadDoesNotFit = 9
number ByteNotPermitted = 10
number BodyBreaksRules = 11
number NoRecordSeparator = 12
number TooManyRows = 13
number NoRoom = 14
number BadFieldCount = 30
number FieldTooShort = 31
number FieldTooLong = 32
number BadFieldBytes = 33

-- the number and values of an answer: 0, envelopes and rows, or the reason's number and the place
abbrev pub accepted : ℕ → ℕ → List ℕ
accepted envelopes rows = 0 ∷ envelopes ∷ rows ∷ []

abbrev pub refusal : Reason → ℕ → List ℕ
refusal reason place = number reason ∷ place ∷ []

-- a reading, as the code has it: the counts, or a refusal
abbrev pub Reading : Type 0
Reading = Result Counts Refusal

abbrev pub answer_of : Reading → List ℕ
answer_of (Ok counts) = accepted counts.envelopes counts.rows
answer_of (Err r) = refusal r.reason r.place

-- how many rows a table has room for
abbrev pub room_of : List ℕ → ℕ
room_of table = length table / row_width

-- what reading a message answers, given the table's room: 14 comes last
abbrev pub answered : ℕ → Outcome → List ℕ
answered room (read es) = cond (ltb room (length (rows_of es))) (refusal NoRoom 0) (accepted (length es) (length (rows_of es)))
answered room (refused reason place) = refusal reason place

unfoldable pub read_answer : Edition → Bytes → ℕ → List ℕ
read_answer edition m room = answered room (reading edition m)

-- a list with its first elements replaced
abbrev pub overlaid : List ℕ → List ℕ → List ℕ
overlaid first old = first ++ drop (length first) old

-- what the table holds afterwards: on acceptance the rows and then what it held, else what it held
abbrev pub filled : List ℕ → Outcome → List ℕ
filled table (read es) = cond (ltb (room_of table) (length (rows_of es))) table (overlaid (numbers_of es) table)
filled table (refused reason place) = table

unfoldable pub table_after : Edition → Bytes → List ℕ → List ℕ
table_after edition m table = filled table (reading edition m)

-- the rows that are read: of an accepted message its rows, of a refused one none
abbrev pub rows_read : Outcome → List Row
rows_read (read es) = rows_of es
rows_read (refused reason place) = []

-- and the ordinal of each one's envelope (02, No. 9)
abbrev pub ordinals_read : Outcome → List ℕ
ordinals_read (read es) = ordinals_of es
ordinals_read (refused reason place) = []

-- the numbers of both, one behind the other
abbrev pub numbers_read : Outcome → List ℕ
numbers_read o = all_numbers (rows_read o) (ordinals_read o)

-- a line for each row
abbrev pub each_numbers : List Row → List ℕ → List (List ℕ)
each_numbers [] os = []
each_numbers (r ∷ rs) [] = []
each_numbers (r ∷ rs) (o ∷ os) = numbers r o ∷ each_numbers rs os

-- the lines that the printing program writes (01, Cartons to try): the answer with room for the most rows, then the rows
unfoldable pub printed : Edition → Bytes → List (List ℕ)
printed edition m = read_answer edition m most_rows ∷ each_numbers (rows_read (reading edition m)) (ordinals_read (reading edition m))
