-- A sweep over elements, a turn at a time: where it stands, that one element more keeps this, and that the last one closes the body.
use Prim.Native.Nat.{ℕ, ◌+◌, ◌-◌, ◌≤◌, ◌<◌}
use mathlib.Core.Path.{◌≡◌, sym, ap, ◌∙◌, subst}
use mathlib.Core.Bool.{cond}
use mathlib.Core.List.{List}
use native.Mathlib.Omega.{arith}
use lib.ListN.{length, get_or, drop, length-take, length-drop}
use lib.Dec.{eqb}
use Rattle.label.specs.Bytes.{Bytes, GS, RS, plain}
use Rattle.pieces.specs.declared.Kind.{Kind}
use Rattle.pieces.specs.PieceTests.{piece_test}
use Rattle.envelope.specs.Judged.{closed_at}
use Rattle.walk.specs.declared.Stage.{Stage}
use Rattle.walk.specs.declared.Stage.TheVariants.{Piece}
use Rattle.walk.specs.declared.Cursor.{Cursor}
use Rattle.walk.specs.Cursors.{ahead, plain_run, standing, plain_row, indicator_at, after_piece, following, next_cursor}
use Rattle.sweeps.specs.Quick.{Framed, RunsTo, PassesTo, Noted, NotedOne, ElementsOf, BodySwept}
use Rattle.sweeps.proofs.Framing.{byte_behind}
use Rattle.sweeps.proofs.PieceTurns.{body_kept, kept_closed, body_on, body_last}

-- where the sweep stands: from here on the same is found as from the start, with the rows gone over
pub record Sweeping (m : Bytes) (from : ℕ) (k : Kind) (f start before : ℕ) (notes : List ℕ) (at rows : ℕ) : Type 0 where
  pub inside : at < length m
  pub more : before ≤ rows
  pub same : (n : ℕ) → body_kept k n m start ≡ body_kept k (n + (rows - before)) m at
  pub noted : Noted m from notes rows (plain_row m Piece f at)

pub sweeping_first : (m : Bytes) (from : ℕ) (k : Kind) (f start before : ℕ) (notes : List ℕ) → start < length m → Noted m from notes before (plain_row m Piece f start) → Sweeping m from k f start before notes start before
sweeping_first m from k f start before notes inside noted = record { inside = inside; more = omega arith; same = λ n. let none : n ≡ n + (before - before) = omega arith in ap (λ x. body_kept k x m start) none; noted = noted }

module _ (m : Bytes) (f at end : ℕ) (to : RunsTo plain m at end) where
  -- the row of a run of plain bytes
  pub run_row : (stage : Stage) → standing stage f at (end - at) ≡ plain_row m stage f at
  unfolding plain_row
  run_row stage = let long : end - at ≡ plain_run (drop at m) = omega (arith, to.runs) in ap (standing stage f at) long

  pub run_ahead : ahead m at (end - at) ≡ end
  run_ahead = omega (arith, length-take (end - at) (drop at m), length-drop at m, to.runs, to.inside)

  -- what stands behind it: another element, or the next indicator
  pub piece_next : get_or m end 0 ≡ GS → end + 1 < length m → next_cursor m (standing Piece f at (end - at)) ≡ plain_row m Piece f (end + 1)
  unfolding next_cursor following after_piece
  piece_next is more =
      let one : ahead m end 1 ≡ end + 1 = omega (arith, length-take 1 (drop end m), length-drop end m) in
      ap (λ e. cond (eqb (get_or m e 0) GS) (plain_row m Piece f (ahead m e 1)) (indicator_at m (ahead m e 1))) run_ahead
      ∙ ap (λ b. cond (eqb b GS) (plain_row m Piece f (ahead m end 1)) (indicator_at m (ahead m end 1))) is
      ∙ ap (plain_row m Piece f) one

  pub piece_last : get_or m end 0 ≡ RS → end + 1 < length m → next_cursor m (standing Piece f at (end - at)) ≡ indicator_at m (end + 1)
  unfolding next_cursor following after_piece
  piece_last is more =
      let one : ahead m end 1 ≡ end + 1 = omega (arith, length-take 1 (drop end m), length-drop end m) in
      ap (λ e. cond (eqb (get_or m e 0) GS) (plain_row m Piece f (ahead m e 1)) (indicator_at m (ahead m e 1))) run_ahead
      ∙ ap (λ b. cond (eqb b GS) (plain_row m Piece f (ahead m end 1)) (indicator_at m (ahead m end 1))) is
      ∙ ap (indicator_at m) one

  -- its row is noted
  pub piece_noted : (from : ℕ) (notes new : List ℕ) (rows : ℕ) (c : Cursor) → c ≡ standing Piece f at (end - at) → NotedOne from notes new rows c → Noted m from notes rows (plain_row m Piece f at)
      → Noted m from new (rows + 1) (next_cursor m (standing Piece f at (end - at)))
  piece_noted from notes new rows c row one noted =
      subst (λ (c : Cursor). Noted m from new (rows + 1) (next_cursor m c)) row (one m (subst (Noted m from notes rows) (sym (run_row Piece) ∙ sym row) noted))

module _ (m : Bytes) (framed : Framed m) (from : ℕ) (k : Kind) (f start before : ℕ) (of : ElementsOf k f) (notes new : List ℕ) (at rows end : ℕ)
    (stands : Sweeping m from k f start before notes at rows) (to : PassesTo (piece_test k 0) m at end) (c : Cursor) (row : c ≡ standing Piece f at (end - at)) (one : NotedOne from notes new rows c) where
  noted_on : Noted m from new (rows + 1) (next_cursor m (standing Piece f at (end - at)))
  noted_on = piece_noted m f at end to.runs from notes new rows c row one stands.noted

  pub sweeping_on : get_or m end 0 ≡ GS → Sweeping m from k f start before new (end + 1) (rows + 1)
  sweeping_on is =
      let more = byte_behind m framed end to.runs.inside GS is (λ e. omega arith) in
      record {
        inside = more;
        more = omega (arith, stands.more);
        same = λ n. let one_more : n + (rows - before) + 1 ≡ n + (rows + 1 - before) = omega (arith, stands.more) in
            stands.same n ∙ body_on m at end (n + (rows - before)) f k of to is ∙ ap (λ x. body_kept k x m (end + 1)) one_more;
        noted = subst (Noted m from new (rows + 1)) (piece_next m f at end to.runs is more) noted_on;
      }

  pub sweeping_last : get_or m end 0 ≡ RS → BodySwept m from k start before (record { next = end + 1; rows = rows + 1 }) new
  sweeping_last is =
      let more = byte_behind m framed end to.runs.inside RS is (λ e. omega arith) in
      record {
        more = omega (arith, stands.more);
        inside = more;
        closes = λ n. let one_more : n + (rows - before) + 1 ≡ n + (rows + 1 - before) = omega (arith, stands.more) in
            kept_closed k n m start (end + 1) (n + (rows + 1 - before)) (stands.same n ∙ body_last m at end (n + (rows - before)) f k of to is ∙ ap (closed_at (end + 1)) one_more);
        noted = subst (Noted m from new (rows + 1)) (piece_last m f at end to.runs is more) noted_on;
      }
