-- What the quick path keeps while it sweeps a message, and what it says when it has swept one: the judgement of the exact reader, and rows of the walk.
-- Of what it leaves it says nothing.
use Rattle.std.specs.Prelude.{ℕ, zero, suc, ◌+◌, ◌-◌, ◌*◌, ◌≤◌, ◌<◌, ◌≡◌, Bool, true, cond, List, [], ◌∷◌, length, get_or, take, drop, Result, Ok, Err, IfOk}
use Rattle.label.specs.declared.Edition.{Edition}
use Rattle.label.specs.declared.Counts.{Counts}
use Rattle.label.specs.Bytes.{Bytes, EOT, plain, digit}
use Rattle.label.specs.Limits.{longest, most_rows}
use Rattle.label.specs.Formats.{widest, rule_of}
use Rattle.label.specs.Layout.{Row}
use Rattle.label.specs.ReadEnvelope.{read_by, read_envelope}
use Rattle.label.specs.Message.{header}
use Rattle.label.specs.ReadMessage.{agreement, reading}
use Rattle.label.specs.Answer.{rows_read}
use Rattle.noted.specs.Noted.{note_width}
use Rattle.pieces.specs.declared.Kind.{Kind}
use Rattle.pieces.specs.declared.Kind.TheVariants.{Fields, Segments03, Segments04, Elements05, Elements06, Text, Elements12}
use Rattle.envelope.specs.Judged.{closed_at}
use Rattle.envelope.specs.Shown.{shown}
use Rattle.envelope.specs.Headers.{indicator_of}
use Rattle.envelope.specs.Bodies.{body_found}
use Rattle.judge.specs.Shown.{judged_as}
use Rattle.walk.specs.declared.Stage.TheVariants.{Indicator}
use Rattle.walk.specs.declared.Cursor.{Cursor}
use Rattle.sweeps.specs.declared.Wanted.{Wanted}
use Rattle.sweeps.specs.declared.Unswept.{Unswept}
use Rattle.sweeps.specs.declared.Unswept.TheVariants.{Left}
use Rattle.walk.specs.Cursors.{run_of, standing, row_of, indicator_at, first_cursor, next_cursor}

-- a message that ends with EOT: a run of bytes of a class without EOT ends before the message does
pub record Framed (m : Bytes) : Type 0 where
  pub some : 0 < length m
  pub short : length m ≤ longest
  pub ends : get_or m (length m - 1) 0 ≡ EOT

-- with the message's header in front of a byte and the EOT at least
pub record Headed (m : Bytes) : Type 0 where
  pub framed : Framed m
  pub begins : length header ≤ agreement header m
  pub long : length header + 1 < length m

-- at most n digits in front
abbrev pub digit_run : ℕ → Bytes → ℕ
digit_run zero bs = 0
digit_run (suc n) [] = 0
digit_run (suc n) (b ∷ bs) = cond (digit b) (suc (digit_run n bs)) 0

-- an offset up to which bytes of a class run, before the message's end
pub record RunsTo (class : ℕ → Bool) (m : Bytes) (at end : ℕ) : Type 0 where
  pub runs : end ≡ at + run_of class (drop at m)
  pub inside : end < length m

-- the plain bytes from an offset up to an end pass a test
pub record PassesTo (test : Bytes → Bool) (m : Bytes) (at end : ℕ) : Type 0 where
  pub runs : RunsTo plain m at end
  pub passes : test (take (end - at) (drop at m)) ≡ true

-- where the sweep goes on, and the rows gone over so far
pub record Passed : Type 0 where
  pub next : ℕ
  pub rows : ℕ

abbrev pub IfSo : Bool → Type 0 → Type 0
IfSo t fact = t ≡ true → fact

-- Notes

-- where the walk stands after so many rows
abbrev pub cursor_after : Bytes → ℕ → Cursor
cursor_after m zero = first_cursor m
cursor_after m (suc n) = next_cursor m (cursor_after m n)

-- numbers have a row's from an index on
pub record Holds (ns : List ℕ) (at : ℕ) (r : Row) : Type 0 where
  pub kind : get_or ns at 0 ≡ r.kind
  pub format : get_or ns (at + 1) 0 ≡ r.format
  pub start : get_or ns (at + 2) 0 ≡ r.start
  pub length : get_or ns (at + 3) 0 ≡ r.length

-- of the first rows those from a number on stand in the notes, as far as these reach
abbrev pub Kept : Bytes → ℕ → List ℕ → ℕ → Type 0
Kept m from notes rows = (k : ℕ) → note_width * k + note_width ≤ length notes → from + k < rows → Holds notes (note_width * k) (row_of (cursor_after m (from + k)))

-- so many rows are noted, and the walk stands at a cursor
pub record Noted (m : Bytes) (from : ℕ) (notes : List ℕ) (rows : ℕ) (c : Cursor) : Type 0 where
  pub stands : cursor_after m rows ≡ c
  pub kept : Kept m from notes rows

-- the sweep is at an offset of a message and has gone over so many rows, and the walk stands at a cursor
pub record StandsAt (m : Bytes) (w : Wanted) (at rows : ℕ) (notes : List ℕ) (c : Cursor) : Type 0 where
  pub framed : Framed m
  pub inside : at < length m
  pub few : w.most ≤ most_rows
  pub noted : Noted m w.from notes rows c

-- a row that fits the notes' numbers
pub record Notable (row : ℕ) (c : Cursor) : Type 0 where
  pub few : row ≤ longest
  pub inside : c.start + c.length ≤ longest
  pub known : c.format ≤ 99

-- the row that a cursor stands at has been noted, whatever message it is of
abbrev pub NotedOne : ℕ → List ℕ → List ℕ → ℕ → Cursor → Type 0
NotedOne from old new row c = (m : Bytes) → Noted m from old row c → Noted m from new (row + 1) (next_cursor m c)

-- a row has been gone over: it was asked for, it has been noted, and it is counted
pub record CountedOne (w : Wanted) (row : ℕ) (old : List ℕ) (rows : ℕ) (new : List ℕ) (c : Cursor) : Type 0 where
  pub asked : row < w.most
  pub counted : rows ≡ row + 1
  pub noted : NotedOne w.from old new row c

-- Envelopes

-- an indicator stands at an offset, with more behind it; the number of its format is f, and its row is the walk's
pub record Indicates (m : Bytes) (at f : ℕ) : Type 0 where
  pub more : at + 2 < length m
  pub says : indicator_of (drop at m) ≡ f
  pub row : indicator_at m at ≡ standing Indicator f at 2
  pub known : f ≤ 99

-- the formats of elements, by kind of body
abbrev pub ElementsOf : Kind → ℕ → Type 0
ElementsOf (Fields v) f = ⊥
ElementsOf Segments03 f = ⊥
ElementsOf Segments04 f = ⊥
ElementsOf Elements05 f = f ≡ 5
ElementsOf Elements06 f = f ≡ 6
ElementsOf Text f = ⊥
ElementsOf Elements12 f = f ≡ 12

-- a body of a kind from an offset on is closed before the next offset, and its rows are noted
pub record BodySwept (m : Bytes) (from : ℕ) (k : Kind) (at rows : ℕ) (p : Passed) (notes : List ℕ) : Type 0 where
  pub more : rows ≤ p.rows
  pub inside : p.next < length m
  pub closes : (before : ℕ) → body_found k before m at ≡ closed_at p.next (before + (p.rows - rows))
  pub noted : Noted m from notes p.rows (indicator_at m p.next)

-- an envelope that begins behind the header is the first
abbrev pub FirstAt : ℕ → Bool → Type 0
FirstAt at first = at ≡ length header → first ≡ true

-- a format behind its indicator, whose row is one more; by its rule in the widest edition
pub record FormatSwept (m : Bytes) (from f at rows : ℕ) (p : Passed) (notes : List ℕ) : Type 0 where
  pub more : rows ≤ p.rows
  pub inside : p.next < length m
  pub closes : (first : Bool) → FirstAt (at - 2) first → shown m (read_by (rule_of widest f) first f (drop at m)) ≡ closed_at p.next (1 + (p.rows - rows))
  pub noted : Noted m from notes p.rows (indicator_at m p.next)

-- a format that an edition knows
abbrev pub KnownSwept : Edition → Bytes → ℕ → ℕ → ℕ → ℕ → Passed → List ℕ → Type 0
KnownSwept edition m from f at rows p notes = (rule_of edition f ≡ rule_of widest f) × FormatSwept m from f at rows p notes

-- an envelope
pub record EnvelopeSwept (edition : Edition) (m : Bytes) (from at rows : ℕ) (p : Passed) (notes : List ℕ) : Type 0 where
  pub more : rows ≤ p.rows
  pub inside : p.next < length m
  pub closes : (first : Bool) → FirstAt at first → shown m (read_envelope edition first (drop at m)) ≡ closed_at p.next (p.rows - rows)
  pub noted : Noted m from notes p.rows (indicator_at m p.next)

-- A message

-- what is said of a swept message: the exact reader's judgement, and the rows that are kept; of a message that is left nothing
pub record GoodSwept (edition : Edition) (m : Bytes) (w : Wanted) (notes : List ℕ) (counts : Counts) : Type 0 where
  pub judged : judged_as (reading edition m) ≡ Ok counts
  pub few : counts.rows ≤ w.most
  pub kept : Kept m w.from notes counts.rows

abbrev pub SweptSo : Edition → Bytes → Wanted → List ℕ → Result Counts Unswept → Type 0
SweptSo edition m w notes swept = IfOk swept (GoodSwept edition m w notes)

-- the counts so far are those of a message that ends here
abbrev pub EndsSo : Bytes → ℕ → Counts → ℕ → Result Counts Unswept → Type 0
EndsSo m at counts most (Ok ended) = ((length m ≡ at + 1) × (counts.rows ≤ most)) × (ended ≡ counts)
EndsSo m at counts most (Err why) = why ≡ Left

-- a message that was swept, with all its rows in the notes
pub record Handed (edition : Edition) (m : Bytes) (counts : Counts) (notes : List ℕ) : Type 0 where
  pub judged : judged_as (reading edition m) ≡ Ok counts
  pub roomy : note_width * counts.rows ≤ length notes
  pub kept : Kept m 0 notes counts.rows

-- a message that was swept, with its row of a number in the note, if it has one
pub record OneKept (edition : Edition) (m : Bytes) (row rows : ℕ) (note : List ℕ) : Type 0 where
  pub counted : rows ≡ length (rows_read (reading edition m))
  pub one : note_width ≤ length note
  pub kept : Kept m row note rows
