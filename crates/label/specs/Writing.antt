-- What the writer answers, and what the output holds afterwards (01, Numbers for the receiving desk, paragraph Writer; 02, No. 9).
use Rattle.std.specs.Prelude.{Result, ℕ, ◌+◌, ◌/◌, ◌%◌, Bool, true, false, ◌&&◌, cond, List, [], ◌∷◌, map, length, take, drop, leb, ltb, eqb, Err, Ok, None, Option, Some}
use Rattle.label.specs.declared.WriteReason.{WriteReason}
use Rattle.label.specs.declared.WriteReason.TheVariants.{BadRows, NoSuchMessage, NoOutputRoom}
use Rattle.label.specs.Bytes.{Bytes, every, same_bytes}
use Rattle.label.specs.Limits.{most_rows, row_width}
use Rattle.label.specs.declared.Edition.{Edition}
use Rattle.label.specs.Layout.{Item, Row, items_of}
use Rattle.label.specs.Message.{message_parts, ordinals_of}
use Rattle.label.specs.ReadMessage.{Outcome, read, refused, reading}
use Rattle.label.specs.Answer.{overlaid}
use Rattle.label.specs.Rendered.{rendered}

-- numbers taken as rows, a whole row at a time
abbrev pub rows_in : List ℕ → List Row
rows_in [] = []
rows_in (k ∷ []) = []
rows_in (k ∷ (f ∷ [])) = []
rows_in (k ∷ (f ∷ (s ∷ []))) = []
rows_in (k ∷ (f ∷ (s ∷ (l ∷ [])))) = []
rows_in (k ∷ (f ∷ (s ∷ (l ∷ (o ∷ ns))))) = record { kind = k; format = f; start = s; length = l } ∷ rows_in ns

-- and the ordinal in each (02, No. 9)
abbrev pub ordinals_in : List ℕ → List ℕ
ordinals_in [] = []
ordinals_in (k ∷ []) = []
ordinals_in (k ∷ (f ∷ [])) = []
ordinals_in (k ∷ (f ∷ (s ∷ []))) = []
ordinals_in (k ∷ (f ∷ (s ∷ (l ∷ [])))) = []
ordinals_in (k ∷ (f ∷ (s ∷ (l ∷ (o ∷ ns))))) = o ∷ ordinals_in ns

-- a row's stretch doesn't leave the data
unfoldable pub inside : Bytes → Row → Bool
inside held r = leb (r.start + r.length) (length held)

-- whole rows, not too many, their stretches in the data: else 20
unfoldable pub rows_stand : Bytes → List ℕ → Bool
rows_stand held ns = eqb (length ns % row_width) 0 && leb (length ns / row_width) most_rows && every (inside held) (rows_in ns)

-- what a row names in the data
abbrev pub item_in : Bytes → Row → Item
item_in held r = record { kind = r.kind; format = r.format; content = take r.length (drop r.start held) }

abbrev pub items_in : Bytes → List ℕ → List Item
items_in held ns = map (item_in held) (rows_in ns)

-- the same kinds, formats and contents in the same order
unfoldable pub same_item : Item → Item → Bool
same_item i j = eqb i.kind j.kind && eqb i.format j.format && same_bytes i.content j.content

abbrev pub same_items : List Item → List Item → Bool
same_items [] [] = true
same_items [] (j ∷ js) = false
same_items (i ∷ is) [] = false
same_items (i ∷ is) (j ∷ js) = same_item i j && same_items is js

-- the same ordinals in the same order; numbers are compared as bytes are
abbrev pub same_ordinals : List ℕ → List ℕ → Bool
same_ordinals os os' = same_bytes os os'

-- the good message with these items and these ordinals, or that there is none: what the items render to, if that is read and has just these
abbrev pub if_same : List Item → List ℕ → Bytes → Outcome → Option Bytes
if_same is os m (read es) = cond (same_items (items_of (message_parts es)) is && same_ordinals (ordinals_of es) os) (Some m) None
if_same is os m (refused reason place) = None

unfoldable pub composed : Edition → List Item → List ℕ → Option Bytes
composed edition is os = if_same is os (rendered is) (reading edition (rendered is))

-- the message that is written, or why none is
pub data Composition : Type 0 where
  written : Bytes → Composition
  declined : WriteReason → Composition

abbrev pub fitting : ℕ → Option Bytes → Composition
fitting room None = declined NoSuchMessage
fitting room (Some m) = cond (ltb room (length m)) (declined NoOutputRoom) (written m)

-- 20, then 21, then 22
unfoldable pub writing : Edition → Bytes → List ℕ → ℕ → Composition
writing edition held ns room = cond (rows_stand held ns) (fitting room (composed edition (items_in held ns) (ordinals_in ns))) (declined BadRows)

-- the paper's number of a reason, and the number and values of an answer
abbrev pub write_number : WriteReason → ℕ
write_number BadRows = 20
write_number NoSuchMessage = 21
write_number NoOutputRoom = 22

-- what the writer answers, as the code has it: the byte count, or why not
abbrev pub Writing : Type 0
Writing = Result ℕ WriteReason

abbrev pub write_answer_of : Writing → List ℕ
write_answer_of (Ok count) = 0 ∷ count ∷ []
write_answer_of (Err reason) = write_number reason ∷ []

-- what writing answers
abbrev pub composed_answer : Composition → List ℕ
composed_answer (written m) = 0 ∷ length m ∷ []
composed_answer (declined reason) = write_number reason ∷ []

unfoldable pub write_answer : Edition → Bytes → List ℕ → ℕ → List ℕ
write_answer edition held ns room = composed_answer (writing edition held ns room)

-- what the output holds afterwards: the message and then what it held, or what it held
abbrev pub composed_over : Bytes → Composition → Bytes
composed_over output (written m) = overlaid m output
composed_over output (declined reason) = output

unfoldable pub output_after : Edition → Bytes → List ℕ → Bytes → Bytes
output_after edition held ns output = composed_over output (writing edition held ns (length output))
