-- The promises about writing, each with its name and sentence; the work is done where the proof says. They hold for every edition, data, row numbers and
-- room. What a reader must believe for them is Good (specs/Message), what rows name and have (items_in, ordinals_in, rows_stand: specs/Writing), table_after (specs/Answer), and
-- writing, write_answer and output_after (specs/Writing). That writing renders and reads back is how it is defined, and need not be believed: the promises
-- say which message it comes to, for all inputs.
use Prim.Native.Nat.{ℕ, ◌*◌, ◌≤◌, ◌<◌}
use mathlib.Core.Path.{◌≡◌, sym, ap, ◌∙◌}
use mathlib.Core.Bool.{true, false}
use mathlib.Core.Logic.{◌↔◌}
use mathlib.Core.List.{List, [], ◌∷◌}
use lib.ListN.{length, take}
use Rattle.label.specs.declared.WriteReason.{WriteReason}
use Rattle.label.specs.declared.WriteReason.TheVariants.{BadRows, NoSuchMessage, NoOutputRoom}
use Rattle.label.specs.Bytes.{Bytes}
use Rattle.label.specs.Limits.{row_width}
use Rattle.label.specs.declared.Edition.{Edition}
use Rattle.label.specs.Layout.{items_of}
use Rattle.label.specs.Envelope.{Envelope}
use Rattle.label.specs.Message.{message_parts, rows_of, ordinals_of, numbers_of, Good}
use Rattle.label.specs.Answer.{room_of, overlaid, table_after}
use Rattle.label.specs.Writing.{ordinals_in, rows_stand, items_in, written, declined, writing, write_number, write_answer, output_after}
use Rattle.label.specs.Promised.{MessageWith, LongerMessageWith, FittingMessageWith, NoMessageWith, ReadBack}
use Rattle.label.proofs.RowItems.{ordinals_in_numbers_of, rows_stand_lem, numbers_items, table_numbers}
use Rattle.label.proofs.Composing.{one_rendered, bad_rows, writes, lacks_room, none_written, tells, reads_back, answer_numbers, output_bytes, declined_so, written_so, so_written, read_from_output}
use Rattle.label.proofs.Untouched.{refusal_leaves_output}

module _ (edition : Edition) where
  -- Demand 2: there is at most one good message with given items, so 'that message' names one
  pub one_message : (m m' : Bytes) (es es' : List Envelope) → Good edition m es → Good edition m' es' → items_of (message_parts es) ≡ items_of (message_parts es') → m ≡ m'
  one_message m m' es es' good good' same = one_rendered edition m m' es es' good good' same

  module _ (m : Bytes) (es : List Envelope) (good : Good edition m es) where
    with_its_items : MessageWith edition (items_in m (numbers_of es)) (ordinals_in (numbers_of es)) m
    with_its_items = record { envelopes = es; good = good; items = sym (numbers_items edition m es good); ordinals = sym (ordinals_in_numbers_of es) }

    -- Demand 2: a good message and its own rows are written back as exactly that message
    pub written_back : (room : ℕ) → length m ≤ room → writing edition m (numbers_of es) room ≡ written m
    written_back room enough = writes edition m (numbers_of es) m (rows_stand_lem edition m es good) with_its_items room enough

    -- and so it is from any table that it was read into
    pub table_written_back : (table : List ℕ) → length (rows_of es) ≤ room_of table → (room : ℕ) → length m ≤ room
        → writing edition m (take (row_width * length (rows_of es)) (table_after edition m table)) room ≡ written m
    table_written_back table rows room enough = ap (λ ns. writing edition m ns room) (table_numbers edition m es good table rows) ∙ written_back room enough

    -- the answer is its length
    pub written_back_counted : (room : ℕ) → length m ≤ room → write_answer edition m (numbers_of es) room ≡ 0 ∷ length m ∷ []
    written_back_counted room enough = answer_numbers edition m (numbers_of es) room (written m) (written_back room enough)

    -- the output begins with its bytes, and what lies behind them stays as it was
    pub written_back_there : (output : Bytes) → length m ≤ length output → output_after edition m (numbers_of es) output ≡ overlaid m output
    written_back_there output enough = output_bytes edition m (numbers_of es) output (written m) (written_back (length output) enough)

    -- and it is refused only for lack of room in the output
    pub written_back_lacks_room : (room : ℕ) → room < length m → writing edition m (numbers_of es) room ≡ declined NoOutputRoom
    written_back_lacks_room room short = lacks_room edition m (numbers_of es) m (rows_stand_lem edition m es good) with_its_items room short

  module _ (held : Bytes) (ns : List ℕ) where
    -- Demand 2: what is written is good, and reads back as rows with the same kinds, formats, contents and ordinals in the same order, as many as were given
    pub read_back : (room : ℕ) (w : Bytes) → writing edition held ns room ≡ written w → ReadBack edition held ns w
    read_back room w says = reads_back edition held ns w (tells edition held ns room (written w) says).2

    -- the answer is the length of what is written; the output begins with it, and what lies behind stays as it was
    pub wrote_counted : (room : ℕ) (w : Bytes) → writing edition held ns room ≡ written w → write_answer edition held ns room ≡ 0 ∷ length w ∷ []
    wrote_counted room w says = answer_numbers edition held ns room (written w) says

    pub wrote : (output w : Bytes) → writing edition held ns (length output) ≡ written w → output_after edition held ns output ≡ overlaid w output
    wrote output w says = output_bytes edition held ns output (written w) says

    -- The answer for every input: exactly one of four cases, each said in both directions

    -- 20 exactly where the rows don't stand in the data
    pub only_if_bad_rows : (room : ℕ) → writing edition held ns room ≡ declined BadRows → rows_stand held ns ≡ false
    only_if_bad_rows room says = tells edition held ns room (declined BadRows) says

    pub if_bad_rows : rows_stand held ns ≡ false → (room : ℕ) → writing edition held ns room ≡ declined BadRows
    if_bad_rows fall room = bad_rows edition held ns room fall

    -- Demand 2: 21 exactly where the rows stand and there is no good message with these kinds, formats, contents and ordinals in this order
    pub only_if_none : (room : ℕ) → writing edition held ns room ≡ declined NoSuchMessage
        → (rows_stand held ns ≡ true) × NoMessageWith edition (items_in held ns) (ordinals_in ns)
    only_if_none room says = tells edition held ns room (declined NoSuchMessage) says

    pub if_none : rows_stand held ns ≡ true → NoMessageWith edition (items_in held ns) (ordinals_in ns)
        → (room : ℕ) → writing edition held ns room ≡ declined NoSuchMessage
    if_none stand none_good room = none_written edition held ns stand none_good room

    -- 22 exactly where the rows stand and the good message with these items and ordinals is longer than the room
    pub only_if_longer : (room : ℕ) → writing edition held ns room ≡ declined NoOutputRoom → (rows_stand held ns ≡ true) × LongerMessageWith edition (items_in held ns) (ordinals_in ns) room
    only_if_longer room says = tells edition held ns room (declined NoOutputRoom) says

    pub if_longer : (m : Bytes) (es : List Envelope) → rows_stand held ns ≡ true → Good edition m es → items_of (message_parts es) ≡ items_in held ns → ordinals_of es ≡ ordinals_in ns
        → (room : ℕ) → room < length m → writing edition held ns room ≡ declined NoOutputRoom
    if_longer m es stand good items ordinals room short = lacks_room edition held ns m stand (record { envelopes = es; good = good; items = items; ordinals = ordinals }) room short

    -- and it is written exactly where the rows stand and it is not longer; that it is good, and with these items and ordinals, is read_back
    pub only_if_fits : (room : ℕ) (w : Bytes) → writing edition held ns room ≡ written w → (rows_stand held ns ≡ true) × (length w ≤ room)
    only_if_fits room w says = let so = tells edition held ns room (written w) says in (so.0, so.1)

    pub if_fits : (m : Bytes) (es : List Envelope) → rows_stand held ns ≡ true → Good edition m es → items_of (message_parts es) ≡ items_in held ns → ordinals_of es ≡ ordinals_in ns
        → (room : ℕ) → length m ≤ room → writing edition held ns room ≡ written m
    if_fits m es stand good items ordinals room enough = writes edition held ns m stand (record { envelopes = es; good = good; items = items; ordinals = ordinals }) room enough

    -- The same of the numbers that are answered, both ways

    pub answers_20 : (room : ℕ) → (write_answer edition held ns room ≡ write_number BadRows ∷ []) ↔ (rows_stand held ns ≡ false)
    answers_20 room = (declined_so edition held ns room BadRows, λ fall. answer_numbers edition held ns room (declined BadRows) (if_bad_rows fall room))

    pub answers_21 : (room : ℕ) → (write_answer edition held ns room ≡ write_number NoSuchMessage ∷ []) ↔ ((rows_stand held ns ≡ true) × NoMessageWith edition (items_in held ns) (ordinals_in ns))
    answers_21 room = (declined_so edition held ns room NoSuchMessage, λ so. answer_numbers edition held ns room (declined NoSuchMessage) (if_none so.0 so.1 room))

    pub answers_22 : (room : ℕ) → (write_answer edition held ns room ≡ write_number NoOutputRoom ∷ []) ↔ ((rows_stand held ns ≡ true) × LongerMessageWith edition (items_in held ns) (ordinals_in ns) room)
    answers_22 room = (
      declined_so edition held ns room NoOutputRoom,
      λ so. answer_numbers edition held ns room (declined NoOutputRoom) (lacks_room edition held ns so.1.message so.0 so.1.with room so.1.longer),
    )

    pub answers_written : (room count : ℕ) → (write_answer edition held ns room ≡ 0 ∷ count ∷ []) ↔ ((rows_stand held ns ≡ true) × FittingMessageWith edition (items_in held ns) (ordinals_in ns) room count)
    answers_written room count = (written_so edition held ns room count, so_written edition held ns room count)

    -- Demand 2: so many of the output's first bytes as are answered read back as the rows that were given
    pub read_back_from_output : (output : Bytes) (count : ℕ) → write_answer edition held ns (length output) ≡ 0 ∷ count ∷ [] → ReadBack edition held ns (take count (output_after edition held ns output))
    read_back_from_output output count says = read_from_output edition held ns output count says

    -- Demand 1: a refusal leaves the output as it was
    pub output_untouched : (output : Bytes) (reason : WriteReason) → write_answer edition held ns (length output) ≡ write_number reason ∷ []
        → output_after edition held ns output ≡ output
    output_untouched output reason says = refusal_leaves_output edition held ns output reason says
