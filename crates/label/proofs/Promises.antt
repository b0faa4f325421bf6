-- The promises about reading, each with its name and sentence; the work is done where the proof says. They hold for every edition and every list of
-- bytes. What a reader must believe for them is Good (specs/Message), reading (specs/ReadMessage), read_answer and table_after (specs/Answer), PlaceFor
-- (specs/Place, with specs/Lacking), part_of (specs/Part), and the names in specs/Promised.
use Prim.Native.Nat.{ℕ, ◌≤◌, ◌<◌}
use mathlib.Core.Path.{◌≡◌, sym, ◌∙◌, subst}
use mathlib.Core.Bool.{true}
use mathlib.Core.Logic.{◌↔◌, ◌⊎◌}
use mathlib.Core.List.{List, ◌∷◌, ◌++◌}
use lib.ListN.{length}
use Rattle.label.specs.declared.Reason.{Reason}
use Rattle.label.specs.declared.Reason.TheVariants.{BodyBreaksRules, NoRoom}
use Rattle.label.specs.Bytes.{Bytes}
use Rattle.label.specs.declared.Edition.{Edition}
use Rattle.label.specs.Formats.{rule_of, as_fields}
use Rattle.label.specs.Layout.{Row, items_of}
use Rattle.label.specs.Envelope.{Envelope, counted}
use Rattle.label.specs.Written.{two_digits}
use Rattle.label.specs.Message.{is_transport, message_parts, rows_of, ordinals_of, numbers_of, Good}
use Rattle.label.specs.ReadMessage.{Outcome, read, refused, reading}
use Rattle.label.specs.Answer.{accepted, refusal, room_of, read_answer, overlaid, table_after}
use Rattle.label.specs.Part.{empty_start, stretch_at, part_of}
use Rattle.label.specs.Place.{AtEnvelope, AtPiece, PlaceFor}
use Rattle.label.specs.Promised.{judged_whole, NoneGood, IsRefused, RefusedForAnyRoom, AcceptedAs, RefusedSo, refused_from, Alike, InOrder, EachOf, LiesIn, Freed, new_message, bytes_at, content_at}
use Rattle.label.proofs.ReadingSound.{ReadingSo, reading_so}
use Rattle.label.proofs.ReadingComplete.{reading_pass}
use Rattle.label.proofs.PlaceOnce.{one_place, none_if_good}
use Rattle.label.proofs.FaultFormats.{transport_or_11, eleven_of_whole, eleven_not_01}
use Rattle.label.proofs.PayloadFree.{freed}
use Rattle.label.proofs.OwnEnvelope.{in_own_envelope, in_no_other}
use Rattle.label.proofs.Answers.{refused_or_good, same_list, answered_with_room, answered_without, filled_with_room, refused_whatever_room, accepted_as, as_accepted, refused_so, so_refused, answer_inside, alike}
use Rattle.label.proofs.Untouched.{refusal_leaves_table}
use Rattle.label.proofs.Parts.{rows_own, own_content, none_behind, none_of_refused, in_order}

module _ (edition : Edition) (m : Bytes) where
  -- Demand 1: a refusal has its place, the one that the paper's column says
  pub place_as_stated : (r : Reason) (p : ℕ) → reading edition m ≡ refused r p → PlaceFor edition m r p
  place_as_stated r p says = subst (λ (o : Outcome). ReadingSo edition m o) says (reading_so edition m)

  -- no other reason and place are so for the message
  pub place_once : (r r' : Reason) (p p' : ℕ) → PlaceFor edition m r p → PlaceFor edition m r' p' → (r ≡ r') × (p ≡ p')
  place_once r r' p p' so so' = one_place edition m r r' p p' so so'

  -- and none is so for a good one
  pub no_place_if_good : (r : Reason) (p : ℕ) (es : List Envelope) → Good edition m es → PlaceFor edition m r p → ⊥
  no_place_if_good r p es good so = none_if_good edition m r p es good so

  -- 02, No. 1: 11 is never format 01's
  pub never_11_in_01 : (p : ℕ) (so : PlaceFor edition m BodyBreaksRules p) (f : ℕ) (after : Bytes) → refused_from edition m p so ≡ two_digits f ++ after → rule_of edition f ≡ as_fields → ⊥
  never_11_in_01 p so f after bytes known = eleven_not_01 edition m p so f after bytes known

  -- 02, No. 1: 11 at the indicator is 02's, 03's or 04's
  pub eleven_at_the_indicator : (p : ℕ) (at : AtEnvelope edition m BodyBreaksRules p) (f : ℕ) (after : Bytes) → at.rest ≡ two_digits f ++ after → judged_whole (rule_of edition f) ≡ true
  eleven_at_the_indicator p at f after bytes = eleven_of_whole edition m p at f after bytes

  -- 02, No. 1: what is wrong with a field or an element is 11 unless the envelope is 01's, so 30 to 33 are never another format's
  pub field_faults_in_01 : (r : Reason) (p : ℕ) (at : AtPiece edition m r p) → (is_transport at.envelope ≡ true) ⊎ (r ≡ BodyBreaksRules)
  field_faults_in_01 r p at = transport_or_11 edition at.envelope r at.ahead at.fault

  -- it is at most the message's length, that of 14 too
  pub place_within : (r : Reason) (p room : ℕ) → read_answer edition m room ≡ refusal r p → p ≤ length m
  place_within r p room says = answer_inside edition m room r p says

  -- Demand 1: a refusal leaves the table as it was
  pub untouched : (table : List ℕ) (r : Reason) (p : ℕ) → read_answer edition m (room_of table) ≡ refusal r p → table_after edition m table ≡ table
  untouched table r p says = refusal_leaves_table edition m table r p says

  -- Demand 3: not good is always refused
  pub refused_unless_good : NoneGood edition m → IsRefused edition m
  refused_unless_good none_good = refused_or_good edition m none_good

  -- for every room, with a reason and a place that are so
  pub refused_for_every_room : NoneGood edition m → RefusedForAnyRoom edition m
  refused_for_every_room none_good = refused_whatever_room edition m none_good

  -- the same the other way round: what is accepted is good, with the list that is answered
  pub accepted_is_good : (es : List Envelope) → reading edition m ≡ read es → Good edition m es
  accepted_is_good es says = subst (λ (o : Outcome). ReadingSo edition m o) says (reading_so edition m)

  -- Demand 3: a good message is read as exactly its list
  pub good_is_read : (es : List Envelope) → Good edition m es → reading edition m ≡ read es
  good_is_read es good = reading_pass edition m es good

  -- and answered with the list's own lengths, if the table has room
  pub good_is_accepted : (es : List Envelope) → Good edition m es → (room : ℕ) → length (rows_of es) ≤ room → read_answer edition m room ≡ accepted (length es) (length (rows_of es))
  good_is_accepted es good room enough = answered_with_room edition m es room (reading_pass edition m es good) enough

  -- and refused only for lack of room in the table
  pub good_lacks_room : (es : List Envelope) → Good edition m es → (room : ℕ) → room < length (rows_of es) → read_answer edition m room ≡ refusal NoRoom 0
  good_lacks_room es good room short = answered_without edition m es room (reading_pass edition m es good) short

  -- Demand 3: exactly one list
  pub one_list : (es es' : List Envelope) → Good edition m es → Good edition m es' → es ≡ es'
  one_list es es' good good' = same_list es es' (sym (reading_pass edition m es good) ∙ reading_pass edition m es' good')

  -- Demand 3: the table's first numbers are exactly that list's rows, each with its envelope's ordinal, and the rest stays as it was
  pub first_rows : (es : List Envelope) → Good edition m es → (table : List ℕ) → length (rows_of es) ≤ room_of table → table_after edition m table ≡ overlaid (numbers_of es) table
  first_rows es good table enough = filled_with_room edition m es table (reading_pass edition m es good) enough

  -- 02, No. 9: each row's ordinal names the envelope in which the row's stretch lies, and a row has an ordinal each
  pub row_in_its_envelope : (es : List Envelope) → Good edition m es → EachOf (LiesIn m es) (rows_of es) (ordinals_of es)
  row_in_its_envelope es good = in_own_envelope edition m es good

  -- it lies in no other
  pub row_in_no_other : (es : List Envelope) (r : Row) (o o' : ℕ) → LiesIn m es r o → LiesIn m es r o' → o ≡ o'
  row_in_no_other es r o o' one two = in_no_other m es r o o' one two

  -- Demand 3: another payload of equal length in format 09 gives a good message and changes no row and no ordinal, whichever envelope it is in
  pub payload_is_free : (before after : List Envelope) (f : ℕ) (vs : List Bytes) (n payload payload' : Bytes) (same : length payload' ≡ length payload)
      → Good edition m (before ++ (counted f vs n payload ∷ after)) → Freed before after f vs n payload payload' edition m
  payload_is_free before after f vs n payload payload' same good = freed before after f vs n payload payload' same edition m good

  -- nor the answer, nor any number of any table
  pub payload_changes_nothing : (before after : List Envelope) (f : ℕ) (vs : List Bytes) (n payload payload' : Bytes) → Good edition m (before ++ (counted f vs n payload ∷ after))
      → (new : Freed before after f vs n payload payload' edition m) → Alike edition m (new_message before after f vs n payload payload' edition m new)
  payload_changes_nothing before after f vs n payload payload' good new =
      alike edition m _ _ _ (reading_pass edition m _ good) (reading_pass edition _ _ new.good) new.envelopes new.rows new.ordinals

  -- The answer for every message and every room, both ways

  -- Demand 3: accepted exactly where a list is good and the table has room for its rows, with the list's own lengths
  pub accepted_exactly : (room envelopes rows : ℕ) → (read_answer edition m room ≡ accepted envelopes rows) ↔ AcceptedAs edition m room envelopes rows
  accepted_exactly room envelopes rows = (accepted_as edition m room envelopes rows, as_accepted edition m room envelopes rows)

  -- refused exactly where a reason and a place are so, with these; or with 14 at 0 where a list is good and the table lacks room for its rows
  pub refused_exactly : (room : ℕ) (r : Reason) (p : ℕ) → (read_answer edition m room ≡ refusal r p) ↔ RefusedSo edition m room r p
  refused_exactly room r p = (refused_so edition m room r p, so_refused edition m room r p)

  -- Demand 2: the part that is handed back for a row number

  -- of a good message it is the row's own stretch
  pub part_is_the_rows_own : (es : List Envelope) → Good edition m es → (n : ℕ) → part_of edition m n ≡ stretch_at (rows_of es) n
  part_is_the_rows_own es good n = rows_own edition m es good n

  -- whose bytes are the row's content
  pub part_is_the_content : (es : List Envelope) → Good edition m es → (n : ℕ) → bytes_at m (part_of edition m n) ≡ content_at (items_of (message_parts es)) n
  part_is_the_content es good n = own_content edition m es good n

  -- behind the last row, and of a message that isn't good, it is the empty part at the start
  pub no_part_behind_the_last : (es : List Envelope) → Good edition m es → (n : ℕ) → length (rows_of es) ≤ n → part_of edition m n ≡ empty_start
  no_part_behind_the_last es good n past = none_behind edition m es good n past

  pub no_part_unless_good : NoneGood edition m → (n : ℕ) → part_of edition m n ≡ empty_start
  no_part_unless_good none_good n = none_of_refused edition m none_good n

-- Demand 2: rows stand in message order
pub rows_in_order : (es : List Envelope) → InOrder 0 (rows_of es)
rows_in_order es = in_order es
