-- What the quick path keeps while it sweeps format 03 or 04: a tag, the rows behind it up to the segment's FS, and segments one behind the other.
use Rattle.std.specs.Prelude.{ℕ, ◌+◌, ◌-◌, ◌≤◌, ◌<◌, ◌≡◌, Bool, true, false, not, ◌&&◌, ◌||◌, cond, List, ◌∷◌, ◌++◌, map, length, get_or, take, drop, eqb}
use Rattle.label.specs.Bytes.{Bytes, FS, GS, US, plain, every}
use Rattle.label.specs.Limits.{most_rows}
use Rattle.label.specs.Pieces.{pieces}
use Rattle.label.specs.Segments.{tag03, tagged}
use Rattle.leaves.specs.Seek.{tally_of}
use Rattle.pieces.specs.declared.Kind.{Kind}
use Rattle.pieces.specs.declared.Kind.TheVariants.{Segments03, Segments04}
use Rattle.walk.specs.declared.Stage.{Stage}
use Rattle.walk.specs.declared.Stage.TheVariants.{LaterElement, FurtherSubElement}
use Rattle.walk.specs.declared.Cursor.{Cursor}
use Rattle.sweeps.specs.declared.Wanted.{Wanted}
use Rattle.walk.specs.Cursors.{after_segment}
use Rattle.sweeps.specs.Quick.{Passed, Framed, RunsTo, Noted}

-- the kind of body of format 03, and of 04
abbrev pub segments_kind : ℕ → Kind
segments_kind f = cond (eqb f 3) Segments03 Segments04

-- what the row behind a GS or a US is
abbrev pub stage_behind : ℕ → Stage
stage_behind b = cond (eqb b US) FurtherSubElement LaterElement

-- the bytes of a segment before its FS, and how many rows stand behind its tag
abbrev pub in_segment : ℕ → Bool
in_segment b = plain b || eqb b GS || eqb b US

abbrev pub later_rows : Bytes → ℕ
later_rows bs = tally_of GS bs + tally_of US bs

-- the plain bytes from an offset up to an end are a tag of either format, and a segment's end or its next element follows
pub record TagTo (m : Bytes) (at end : ℕ) : Type 0 where
  pub runs : RunsTo plain m at end
  pub passes : tag03 (take (end - at) (drop at m)) ≡ true
  pub ends : (not (eqb (get_or m end 0) GS) && not (eqb (get_or m end 0) FS)) ≡ false

-- a part of a body of segments is due from an offset on, and the walk stands at a cursor
pub record SegmentsDue (m : Bytes) (w : Wanted) (f at rows : ℕ) (notes : List ℕ) (c : Cursor) : Type 0 where
  pub framed : Framed m
  pub inside : at < length m
  pub known : f ≤ 99
  pub few : w.most ≤ most_rows
  pub noted : Noted m w.from notes rows c

-- bytes of a segment from an offset up to its FS, before the next offset, and the rows of all that follows a GS or a US are noted
pub record LaterSwept (m : Bytes) (from f at rows : ℕ) (p : Passed) (notes : List ℕ) : Type 0 where
  pub bytes : Bytes
  pub there : drop at m ≡ bytes ++ (FS ∷ drop p.next m)
  pub behind : p.next ≡ at + length bytes + 1
  pub inside : p.next < length m
  pub permitted : every in_segment bytes ≡ true
  pub counts : p.rows ≡ rows + later_rows bytes
  pub noted : Noted m from notes p.rows (after_segment m f p.next)

-- a segment, which has its tag and a row for that too
pub record SegmentSwept (m : Bytes) (from f at rows : ℕ) (p : Passed) (notes : List ℕ) : Type 0 where
  pub later : LaterSwept m from f at (rows + 1) p notes
  pub begins : tagged tag03 (map (pieces US) (pieces GS later.bytes)) ≡ true
