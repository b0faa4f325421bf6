-- What the promises speak of, where a statement needs a name of its own (proofs/Promises, proofs/WriterPromises, proofs/BothEditions).
use Rattle.std.specs.Prelude.{ℕ, zero, suc, ◌+◌, ◌*◌, ◌≤◌, ◌<◌, ◌≡◌, Bool, true, false, ◌⊎◌, List, [], ◌∷◌, ◌++◌, length, take, drop}
use Rattle.std.proofs.Common.{inl, inr}
use Rattle.label.specs.declared.Reason.{Reason}
use Rattle.label.specs.declared.Stretch.{Stretch}
use Rattle.label.specs.declared.Reason.TheVariants.{UnknownFormat, BodyBreaksRules, NoRoom}
use Rattle.label.specs.Bytes.{Bytes, RS}
use Rattle.label.specs.Limits.{row_width}
use Rattle.label.specs.declared.Edition.{Edition}
use Rattle.label.specs.declared.Edition.TheVariants.{Edition2005, Edition2025}
use Rattle.label.specs.Formats.{Rule, as_fields, as_rest, as_segments, as_elements, as_text, as_counted, unknown}
use Rattle.label.specs.Layout.{Item, Row, bytes_of, items_of}
use Rattle.label.specs.Envelope.{Envelope, counted}
use Rattle.label.specs.Written.{two_digits, parts}
use Rattle.label.specs.Message.{message_parts, rows_of, ordinals_of, Good}
use Rattle.label.specs.ReadMessage.{refused, reading}
use Rattle.label.specs.Answer.{refusal, room_of, read_answer, table_after}
use Rattle.label.specs.Part.{part_of}
use Rattle.label.specs.Place.{in_front, PlaceFor}
use Rattle.label.specs.Writing.{rows_in, ordinals_in, items_in}

-- Demand 3, of every message

module _ (edition : Edition) (m : Bytes) where
  -- there is no list with which the message is good
  abbrev pub NoneGood : Type 0
  NoneGood = (es : List Envelope) → Good edition m es → ⊥

  -- a refusal has its reason and its place
  pub record IsRefused : Type 0 where
    pub reason : Reason
    pub place : ℕ
    pub says : reading edition m ≡ refused reason place

  -- it is answered with a reason and a place that are so for the message, whatever room the table has
  pub record RefusedForAnyRoom : Type 0 where
    pub reason : Reason
    pub place : ℕ
    pub so : PlaceFor edition m reason place
    pub says : (room : ℕ) → read_answer edition m room ≡ refusal reason place

  -- a list is good, the counts are its own lengths, and its rows are at most the room
  pub record AcceptedAs (room envelopes rows : ℕ) : Type 0 where
    pub list : List Envelope
    pub good : Good edition m list
    pub its_envelopes : envelopes ≡ length list
    pub its_rows : rows ≡ length (rows_of list)
    pub fits : rows ≤ room

  -- a list is good, and its rows are more than the room
  pub record LacksRoom (room : ℕ) : Type 0 where
    pub list : List Envelope
    pub good : Good edition m list
    pub too_few : room < length (rows_of list)

  -- a reason and a place that are so for the message; or 14 at 0, as the table lacks room
  abbrev pub RefusedSo : ℕ → Reason → ℕ → Type 0
  RefusedSo room r p = PlaceFor edition m r p ⊎ ((r ≡ NoRoom) × (p ≡ 0) × LacksRoom room)

-- whether a format's body that breaks the rules is refused as a whole, 11 at the indicator: 02, 03 and 04
abbrev pub judged_whole : Rule → Bool
judged_whole as_fields = false
judged_whole (as_rest permitted) = true
judged_whole (as_segments is_tag) = true
judged_whole (as_elements is_element) = false
judged_whole (as_text permitted) = false
judged_whole (as_counted limits) = false
judged_whole unknown = false

-- the bytes from the indicator of the envelope on that is refused with 11
abbrev pub refused_from : (edition : Edition) (m : Bytes) (p : ℕ) → PlaceFor edition m BodyBreaksRules p → Bytes
refused_from edition m p (inl at) = at.rest
refused_from edition m p (inr at) = bytes_of (parts at.envelope) ++ (RS ∷ at.left)

-- the same answer for every room, and the same numbers in every table
pub record Alike (edition : Edition) (m m' : Bytes) : Type 0 where
  pub answers : (room : ℕ) → read_answer edition m' room ≡ read_answer edition m room
  pub tables : (table : List ℕ) → table_after edition m' table ≡ table_after edition m table

-- rows stand in message order from an offset on: none starts before the one in front of it ends (01, Rows)
abbrev pub InOrder : ℕ → List Row → Type 0
InOrder at [] = Unit {0}
InOrder at (r ∷ rs) = (at ≤ r.start) × InOrder (r.start + r.length) rs

-- 02, No. 9: which envelope a row is in

-- a fact of each row and its ordinal, of which there are as many
abbrev pub EachOf : (Row → ℕ → Type 0) → List Row → List ℕ → Type 0
EachOf fact [] [] = Unit {0}
EachOf fact [] (o ∷ os) = ⊥
EachOf fact (r ∷ rs) [] = ⊥
EachOf fact (r ∷ rs) (o ∷ os) = fact r o × EachOf fact rs os

module _ (m : Bytes) (es : List Envelope) where
  -- the envelope of the list with an ordinal, counted from 0: its bytes stand in the message from an offset on, and in front of it stand the header and
  -- those with smaller ordinals
  pub record EnvelopeAt (o at : ℕ) : Type 0 where
    pub envelope : Envelope
    pub after : List Envelope
    pub there : drop o es ≡ envelope ∷ after
    pub behind : Bytes
    pub bytes : m ≡ in_front (take o es) ++ (bytes_of (parts envelope) ++ behind)
    pub offset : at ≡ length (in_front (take o es))

  -- a row's stretch lies in the envelope with an ordinal
  pub record LiesIn (r : Row) (o : ℕ) : Type 0 where
    pub at : ℕ
    pub stands : EnvelopeAt o at
    pub from : at ≤ r.start
    pub to : r.start + r.length ≤ at + length (bytes_of (parts stands.envelope))

-- Demand 3, of another payload where it is counted: formats 09 and 15

module _ (before after : List Envelope) (f : ℕ) (vs : List Bytes) (n : Bytes) where
  -- a list with a counted payload in it
  abbrev pub with_payload : Bytes → List Envelope
  with_payload payload = before ++ (counted f vs n payload ∷ after)

  module _ (payload payload' : Bytes) (edition : Edition) (m : Bytes) where
    -- the message with the payload's bytes replaced is good, and has the same rows with the same ordinals
    pub record Freed : Type 0 where
      pub around : Bytes
      pub behind : Bytes
      pub stood : m ≡ around ++ (payload ++ behind)
      pub good : Good edition (around ++ (payload' ++ behind)) (with_payload payload')
      pub envelopes : length (with_payload payload') ≡ length (with_payload payload)
      pub rows : rows_of (with_payload payload') ≡ rows_of (with_payload payload)
      pub ordinals : ordinals_of (with_payload payload') ≡ ordinals_of (with_payload payload)

    abbrev pub new_message : Freed → Bytes
    new_message new = new.around ++ (payload' ++ new.behind)

-- Demand 2, of parts

-- the bytes of a stretch
abbrev pub bytes_at : Bytes → Stretch → Bytes
bytes_at m s = take s.length (drop s.start m)

-- the content of item n, counted from 0; nothing where there is no such item
abbrev pub content_at : List Item → ℕ → Bytes
content_at [] n = []
content_at (i ∷ is) zero = i.content
content_at (i ∷ is) (suc n) = content_at is n

-- Demand 2, of the writer

module _ (edition : Edition) (is : List Item) (os : List ℕ) where
  -- a good message with these items, whose rows have these ordinals
  pub record MessageWith (m : Bytes) : Type 0 where
    pub envelopes : List Envelope
    pub good : Good edition m envelopes
    pub items : items_of (message_parts envelopes) ≡ is
    pub ordinals : ordinals_of envelopes ≡ os

  -- one that is longer than the room
  pub record LongerMessageWith (room : ℕ) : Type 0 where
    pub message : Bytes
    pub with : MessageWith message
    pub longer : room < length message

  -- one that the room is enough for, with its length
  pub record FittingMessageWith (room count : ℕ) : Type 0 where
    pub message : Bytes
    pub with : MessageWith message
    pub fits : length message ≤ room
    pub its_length : count ≡ length message

  -- there is none
  abbrev pub NoMessageWith : Type 0
  NoMessageWith = (m : Bytes) (es : List Envelope) → Good edition m es → items_of (message_parts es) ≡ is → ordinals_of es ≡ os → ⊥

-- bytes are good with a list whose rows are as many as those given, and which, in any table with room, name the same items in the same order and have
-- the same ordinals
pub record ReadBack (edition : Edition) (held : Bytes) (ns : List ℕ) (w : Bytes) : Type 0 where
  pub envelopes : List Envelope
  pub good : Good edition w envelopes
  pub items : items_of (message_parts envelopes) ≡ items_in held ns
  pub ordinals : ordinals_of envelopes ≡ ordinals_in ns
  pub counted : length (rows_of envelopes) ≡ length (rows_in ns)
  pub table_same : (table : List ℕ) → length (rows_of envelopes) ≤ room_of table
      → items_in w (take (row_width * length (rows_of envelopes)) (table_after edition w table)) ≡ items_in held ns
  pub table_ordinals : (table : List ℕ) → length (rows_of envelopes) ≤ room_of table
      → ordinals_in (take (row_width * length (rows_of envelopes)) (table_after edition w table)) ≡ ordinals_in ns

-- 02, No. 3: where the editions differ

-- at an offset stands the indicator of a format that only the edition of 2025 has
pub record AddedAt (m : Bytes) (p : ℕ) : Type 0 where
  pub format : ℕ
  pub is_added : (format ≡ 12) ⊎ (format ≡ 15)
  pub behind : Bytes
  pub bytes : drop p m ≡ two_digits format ++ behind

-- the edition of 2005 refuses the message there with 6
pub record Differ (m : Bytes) : Type 0 where
  pub place : ℕ
  pub says : reading Edition2005 m ≡ refused UnknownFormat place
  pub added : AddedAt m place

-- the same answer for every room, the same numbers in every table, the same part for every row
pub record SameInBoth (m : Bytes) : Type 0 where
  pub answers : (room : ℕ) → read_answer Edition2025 m room ≡ read_answer Edition2005 m room
  pub tables : (table : List ℕ) → table_after Edition2025 m table ≡ table_after Edition2005 m table
  pub parts : (n : ℕ) → part_of Edition2025 m n ≡ part_of Edition2005 m n
