-- What the quick path keeps while it sweeps format 09 or 15, by header value: type, compression, count, each with its GS; then the payload and its RS.
use Rattle.std.specs.Prelude.{ℕ, ◌+◌, ◌≤◌, ◌<◌, ◌≡◌, true, List, length}
use Rattle.label.specs.Bytes.{Bytes, plain}
use Rattle.label.specs.Limits.{most_rows}
use Rattle.leaves.specs.Classes.{class_of}
use Rattle.envelope.specs.Judged.{Judged, closed_at}
use Rattle.envelope.specs.Headers.{value_end}
use Rattle.envelope.specs.Formats.{count_found}
use Rattle.sweeps.specs.declared.Value.{Value}
use Rattle.sweeps.specs.declared.Wanted.{Wanted}
use Rattle.walk.specs.declared.Stage.{Stage}
use Rattle.walk.specs.Cursors.{plain_row, indicator_at, following}
use Rattle.sweeps.specs.Quick.{Passed, Framed, RunsTo, Noted}

-- the walk stands at a header value of a format from an offset on
pub record ValueDue (m : Bytes) (w : Wanted) (f : ℕ) (stage : Stage) (at rows : ℕ) (notes : List ℕ) : Type 0 where
  pub framed : Framed m
  pub inside : at < length m
  pub few : w.most ≤ most_rows
  pub known : f ≤ 99
  pub noted : Noted m w.from notes rows (plain_row m stage f at)

-- a header value whose bytes are plain
abbrev pub PlainBytes : Value → Type 0
PlainBytes v = (b : ℕ) → class_of v.class b ≡ true → plain b ≡ true

-- a header value from an offset on has its length and bytes, its GS stands where it ends, before the next offset, and its row is noted
pub record ValueSwept (m : Bytes) (from : ℕ) (v : Value) (at rows next : ℕ) (notes : List ℕ) : Type 0 where
  pub end : ℕ
  pub behind : next ≡ end + 1
  pub ends : end ≡ value_end v.least v.most (class_of v.class) m at
  pub runs : RunsTo (class_of v.class) m at end
  pub inside : next < length m
  pub noted : Noted m from notes (rows + 1) (following m v.format at end v.stage)

-- what is found from a header value on is closed before the next offset, with an envelope's rows in all, and so many rows are noted
pub record PartSwept (m : Bytes) (from : ℕ) (found : Judged) (total rows : ℕ) (p : Passed) (notes : List ℕ) : Type 0 where
  pub counts : p.rows ≡ rows
  pub inside : p.next < length m
  pub closes : found ≡ closed_at p.next total
  pub noted : Noted m from notes p.rows (indicator_at m p.next)

-- the count and what follows it, whichever format's they are and so whatever rows the envelope has in all
abbrev pub CountSwept : Bytes → ℕ → ℕ → ℕ → Passed → List ℕ → Type 0
CountSwept m from count rows p notes = (total : ℕ) → PartSwept m from (count_found total m count) total (rows + 2) p notes
