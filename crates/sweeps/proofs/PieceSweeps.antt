-- A sweep over pieces, elements or fields, a turn at a time, by the kind: where it stands, that one piece more keeps this, and that the last one closes the body.
use Prim.Native.Nat.{ℕ, ◌+◌, ◌-◌, ◌≤◌, ◌<◌}
use mathlib.Core.Path.{◌≡◌, refl, sym, ◌∙◌, subst}
use mathlib.Core.List.{List}
use lib.ListN.{length, get_or}
use Rattle.label.specs.Bytes.{Bytes, GS, RS}
use Rattle.label.specs.declared.Version.{Version}
use Rattle.pieces.specs.declared.Kind.{Kind}
use Rattle.pieces.specs.declared.Kind.TheVariants.{Fields, Segments03, Segments04, Elements05, Elements06, Text, Elements12}
use Rattle.pieces.specs.PieceTests.{piece_test}
use Rattle.envelope.specs.Judged.{Judged}
use Rattle.walk.specs.declared.Stage.TheVariants.{Piece}
use Rattle.walk.specs.declared.Cursor.{Cursor}
use Rattle.walk.specs.Cursors.{standing, plain_row}
use Rattle.sweeps.specs.Quick.{Framed, PassesTo, Noted, NotedOne, ElementsOf, BodySwept}
use Rattle.sweeps.specs.Transport.{PiecesOf, LastOf}
use Rattle.sweeps.proofs.PieceTurns.{body_kept}
use Rattle.sweeps.proofs.Sweeping.{Sweeping, sweeping_first, sweeping_on, sweeping_last}
use Rattle.sweeps.proofs.FieldTurns.{fields_found, SweepingFields, fields_first, fields_on, fields_last}

-- what is left to find from the piece with an index on
abbrev left_of : Kind → Bytes → ℕ → ℕ → ℕ → Judged
left_of (Fields v) m i n at = fields_found v m i n at
left_of Segments03 m i n at = body_kept Segments03 n m at
left_of Segments04 m i n at = body_kept Segments04 n m at
left_of Elements05 m i n at = body_kept Elements05 n m at
left_of Elements06 m i n at = body_kept Elements06 n m at
left_of Text m i n at = body_kept Text n m at
left_of Elements12 m i n at = body_kept Elements12 n m at

-- where the sweep stands: from here on the same is found as from the start, with the rows gone over
pub record SweepingPieces (m : Bytes) (from : ℕ) (k : Kind) (f start before : ℕ) (notes : List ℕ) (at rows : ℕ) : Type 0 where
  pub inside : at < length m
  pub more : before ≤ rows
  pub same : (n : ℕ) → body_kept k n m start ≡ left_of k m (rows - before) (n + (rows - before)) at
  pub noted : Noted m from notes rows (plain_row m Piece f at)

pub pieces_of : (k : Kind) (f : ℕ) → ElementsOf k f → PiecesOf k f
pieces_of (Fields v) f is = absurd is
pieces_of Segments03 f is = absurd is
pieces_of Segments04 f is = absurd is
pieces_of Elements05 f is = is
pieces_of Elements06 f is = is
pieces_of Text f is = absurd is
pieces_of Elements12 f is = is

module _ (m : Bytes) (from : ℕ) (k : Kind) (f start before : ℕ) (notes : List ℕ) (at rows : ℕ) (left : (i n j : ℕ) → left_of k m i n j ≡ body_kept k n m j) where
  -- of elements, and back
  as_elements : SweepingPieces m from k f start before notes at rows → Sweeping m from k f start before notes at rows
  as_elements s = record { inside = s.inside; more = s.more; same = λ n. s.same n ∙ left (rows - before) (n + (rows - before)) at; noted = s.noted }

  of_elements : Sweeping m from k f start before notes at rows → SweepingPieces m from k f start before notes at rows
  of_elements s = record { inside = s.inside; more = s.more; same = λ n. s.same n ∙ sym (left (rows - before) (n + (rows - before)) at); noted = s.noted }

module _ (m : Bytes) (from : ℕ) (v : Version) (f start before : ℕ) (notes : List ℕ) (at rows : ℕ) (is : f ≡ 1) where
  -- of fields, and back
  as_fields : SweepingPieces m from (Fields v) f start before notes at rows → SweepingFields m from v start before notes at rows
  as_fields s = record { inside = s.inside; more = s.more; same = s.same; noted = subst (λ (f : ℕ). Noted m from notes rows (plain_row m Piece f at)) is s.noted }

  of_fields : SweepingFields m from v start before notes at rows → SweepingPieces m from (Fields v) f start before notes at rows
  of_fields s = record { inside = s.inside; more = s.more; same = s.same; noted = subst (λ (f : ℕ). Noted m from notes rows (plain_row m Piece f at)) (sym is) s.noted }

pub pieces_first : (m : Bytes) (from : ℕ) (k : Kind) (f start before : ℕ) (notes : List ℕ) → PiecesOf k f → start < length m → Noted m from notes before (plain_row m Piece f start) → SweepingPieces m from k f start before notes start before
pieces_first m from (Fields v) f start before notes of inside noted =
    of_fields m from v f start before notes start before of (fields_first m from v start before notes inside (subst (λ (f : ℕ). Noted m from notes before (plain_row m Piece f start)) of noted))
pieces_first m from Segments03 f start before notes of inside noted = absurd of
pieces_first m from Segments04 f start before notes of inside noted = absurd of
pieces_first m from Elements05 f start before notes of inside noted = of_elements m from Elements05 f start before notes start before (λ i n j. refl) (sweeping_first m from Elements05 f start before notes inside noted)
pieces_first m from Elements06 f start before notes of inside noted = of_elements m from Elements06 f start before notes start before (λ i n j. refl) (sweeping_first m from Elements06 f start before notes inside noted)
pieces_first m from Text f start before notes of inside noted = absurd of
pieces_first m from Elements12 f start before notes of inside noted = of_elements m from Elements12 f start before notes start before (λ i n j. refl) (sweeping_first m from Elements12 f start before notes inside noted)

module _ (m : Bytes) (framed : Framed m) (from f start before : ℕ) (notes new : List ℕ) (at rows end : ℕ) (c : Cursor) (row : c ≡ standing Piece f at (end - at)) (one : NotedOne from notes new rows c) where
  row_one : f ≡ 1 → c ≡ standing Piece 1 at (end - at)
  row_one is = subst (λ (f : ℕ). c ≡ standing Piece f at (end - at)) is row

  pub pieces_on : (k : Kind) → PiecesOf k f → SweepingPieces m from k f start before notes at rows → PassesTo (piece_test k (rows - before)) m at end → get_or m end 0 ≡ GS → SweepingPieces m from k f start before new (end + 1) (rows + 1)
  pieces_on (Fields v) of stands to is =
      of_fields m from v f start before new (end + 1) (rows + 1) of
      (fields_on m framed from v start before notes new at rows end (as_fields m from v f start before notes at rows of stands) to c (row_one of) one is)
  pieces_on Segments03 of stands to is = absurd of
  pieces_on Segments04 of stands to is = absurd of
  pieces_on Elements05 of stands to is =
      of_elements m from Elements05 f start before new (end + 1) (rows + 1) (λ i n j. refl)
      (sweeping_on m framed from Elements05 f start before of notes new at rows end (as_elements m from Elements05 f start before notes at rows (λ i n j. refl) stands) to c row one is)
  pieces_on Elements06 of stands to is =
      of_elements m from Elements06 f start before new (end + 1) (rows + 1) (λ i n j. refl)
      (sweeping_on m framed from Elements06 f start before of notes new at rows end (as_elements m from Elements06 f start before notes at rows (λ i n j. refl) stands) to c row one is)
  pieces_on Text of stands to is = absurd of
  pieces_on Elements12 of stands to is =
      of_elements m from Elements12 f start before new (end + 1) (rows + 1) (λ i n j. refl)
      (sweeping_on m framed from Elements12 f start before of notes new at rows end (as_elements m from Elements12 f start before notes at rows (λ i n j. refl) stands) to c row one is)

  pub pieces_last : (k : Kind) → PiecesOf k f → SweepingPieces m from k f start before notes at rows → PassesTo (piece_test k (rows - before)) m at end → get_or m end 0 ≡ RS → LastOf k (rows + 1 - before) (end - at)
      → BodySwept m from k start before (record { next = end + 1; rows = rows + 1 }) new
  pieces_last (Fields v) of stands to is right =
      fields_last m framed from v start before notes new at rows end (as_fields m from v f start before notes at rows of stands) to c (row_one of) one is right
  pieces_last Segments03 of stands to is right = absurd of
  pieces_last Segments04 of stands to is right = absurd of
  pieces_last Elements05 of stands to is right =
      sweeping_last m framed from Elements05 f start before of notes new at rows end (as_elements m from Elements05 f start before notes at rows (λ i n j. refl) stands) to c row one is
  pieces_last Elements06 of stands to is right =
      sweeping_last m framed from Elements06 f start before of notes new at rows end (as_elements m from Elements06 f start before notes at rows (λ i n j. refl) stands) to c row one is
  pieces_last Text of stands to is right = absurd of
  pieces_last Elements12 of stands to is right =
      sweeping_last m framed from Elements12 f start before of notes new at rows end (as_elements m from Elements12 f start before notes at rows (λ i n j. refl) stands) to c row one is
