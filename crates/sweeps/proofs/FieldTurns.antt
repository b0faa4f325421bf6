-- A body of fields, one by one: the rule of the fields from an index on, that a field in front keeps it, what makes the last one right; and the sweep over them,
-- a turn at a time.
use Prim.Native.Nat.{ℕ, ◌+◌, ◌-◌, ◌≤◌, ◌<◌}
use mathlib.Core.Path.{◌≡◌, refl, sym, ap, ◌∙◌, subst}
use mathlib.Core.Bool.{Bool, true, false, not, ◌&&◌, ◌||◌, true≢false, or-true}
use mathlib.Core.List.{List, [], ◌∷◌, ◌++◌}
use native.Mathlib.Omega.{arith}
use borrow.Author.Tests.{le-leb, lt-ltb, eq-eqb}
use lib.ListN.{length, get_or, take, drop}
use lib.Dec.{leb, ltb, eqb}
use Rattle.label.specs.Bytes.{Bytes, GS, RS, plain, every, is_empty}
use Rattle.label.specs.Pieces.{pieces, last_is_empty}
use Rattle.label.specs.declared.Version.{Version}
use Rattle.label.specs.Fields.{least_fields, most_fields, field, transport}
use Rattle.label.specs.ReadEnvelope.{plain_or_gs}
use Rattle.label.proofs.Splitting.{pieces_some, pieces_one, pieces_front}
use Rattle.leaves.specs.Seek.{seek, tally_of}
use Rattle.leaves.proofs.Turns.{tally_behind}
use Rattle.pieces.specs.declared.Kind.TheVariants.{Fields}
use Rattle.bodies.specs.Kinds.{every_from}
use Rattle.bodies.proofs.RuleLaws.{fields_law}
use Rattle.envelope.specs.Judged.{Judged, closed_at}
use Rattle.walk.specs.declared.Stage.TheVariants.{Piece}
use Rattle.walk.specs.declared.Cursor.{Cursor}
use Rattle.walk.specs.Cursors.{standing, plain_row, next_cursor}
use Rattle.sweeps.specs.Quick.{Framed, PassesTo, Noted, NotedOne, BodySwept}
use Rattle.sweeps.specs.Transport.{LastRight}
use Rattle.sweeps.proofs.Framing.{byte_behind}
use Rattle.sweeps.proofs.PieceTurns.{tally_none, no_gs, found_by, body_kept, kept_closed, Passes, found_from, piece, piece_plain, piece_long, message_on, message_last}
use Rattle.sweeps.proofs.Sweeping.{piece_noted, piece_next, piece_last}

-- Fields from an index on

-- one more in front is not the last
last_behind : (p : Bytes) (ps : List Bytes) → is_empty ps ≡ false → last_is_empty (p ∷ ps) ≡ last_is_empty ps
last_behind p [] some = absurd (true≢false some)
last_behind p (q ∷ ps) some = refl

module _ (v : Version) where
  -- the rule by how many separators there are, each one's test, and whether the last is empty
  abbrev pub fields_from : ℕ → Bytes → Bool
  fields_from i body = leb 4 (i + tally_of GS body) && ltb (i + tally_of GS body) (most_fields v) && every_from (field v) i (pieces GS body) && (eqb (i + tally_of GS body) 4 || not (last_is_empty (pieces GS body)))

  module _ (i : ℕ) (p : Bytes) (ok : every plain p ≡ true) (passes : field v i p ≡ true) where
    field_passes : Passes fields_from i p
    field_passes body =
        let count : i + tally_of GS (p ++ (GS ∷ body)) ≡ i + 1 + tally_of GS body = omega (arith, tally_behind GS p (GS ∷ body), tally_none GS p (no_gs p ok)) in
        let cut = pieces_front GS p body (no_gs p ok) in
        (λ j. leb 4 (count j) && ltb (count j) (most_fields v) && every_from (field v) i (cut j) && (eqb (count j) 4 || not (last_is_empty (cut j))))
        ∙ (λ j. leb 4 (i + 1 + tally_of GS body) && ltb (i + 1 + tally_of GS body) (most_fields v) && (passes j && every_from (field v) (i + 1) (pieces GS body)) && (eqb (i + 1 + tally_of GS body) 4 || not (last_behind p (pieces GS body) (pieces_some GS body) j)))

    field_last : LastRight (most_fields v) (i + 1) (length p) → fields_from i p ≡ true
    field_last right =
        let count : i + tally_of GS p ≡ i = omega (arith, tally_none GS p (no_gs p ok)) in
        (λ j. leb 4 (count j) && ltb (count j) (most_fields v) && every_from (field v) i (pieces_one GS p (no_gs p ok) j) && (eqb (count j) 4 || not (last_is_empty (pieces_one GS p (no_gs p ok) j))))
        ∙ (λ j. le-leb 4 i (omega (arith, right.enough)) j && lt-ltb i (most_fields v) (omega (arith, right.few)) j && (passes j && true) && (eqb i 4 || not (is_empty p)))
        ∙ by p right.some
      where
        by : (q : Bytes) → (length q ≡ 0 → i + 1 ≡ least_fields) → (eqb i 4 || not (is_empty q)) ≡ true
        by [] five = let is = five refl in ap (λ t. t || false) (eq-eqb i 4 (omega arith))
        by (b ∷ q) five = or-true (eqb i 4)

-- The sweep

-- what is found from the field with an index on
abbrev pub fields_found : Version → Bytes → ℕ → ℕ → ℕ → Judged
fields_found v m i before at = found_from (fields_from v) m i before at

version_whole : (v : Version) (body : Bytes) → transport v (pieces GS body) ≡ fields_from v 0 body
version_whole v body =
    let none_before : tally_of GS body ≡ 0 + tally_of GS body = omega arith in
    sym (fields_law v body)
    ∙ (λ j. leb 4 (none_before j) && ltb (none_before j) (most_fields v) && every_from (field v) 0 (pieces GS body) && (eqb (none_before j) 4 || not (last_is_empty (pieces GS body))))

fields_whole : (v : Version) (m : Bytes) (before at : ℕ) → body_kept (Fields v) before m at ≡ fields_found v m 0 before at
unfolding body_kept
fields_whole v m before at =
    let bs = drop at m in
    let n = seek RS bs in
    λ j. found_by (ltb n (length bs)) (every plain_or_gs (take n bs)) (version_whole v (take n bs) j) (at + n + 1) (before + (tally_of GS (take n bs) + 1))

-- where the sweep stands: from here on the same is found as from the start, with the rows gone over
pub record SweepingFields (m : Bytes) (from : ℕ) (v : Version) (start before : ℕ) (notes : List ℕ) (at rows : ℕ) : Type 0 where
  pub inside : at < length m
  pub more : before ≤ rows
  pub same : (n : ℕ) → body_kept (Fields v) n m start ≡ fields_found v m (rows - before) (n + (rows - before)) at
  pub noted : Noted m from notes rows (plain_row m Piece 1 at)

pub fields_first : (m : Bytes) (from : ℕ) (v : Version) (start before : ℕ) (notes : List ℕ) → start < length m → Noted m from notes before (plain_row m Piece 1 start) → SweepingFields m from v start before notes start before
fields_first m from v start before notes inside noted = record {
  inside = inside;
  more = omega arith;
  same = λ n.
      let none : 0 ≡ before - before = omega arith in
      let same : n ≡ n + (before - before) = omega arith in
      fields_whole v m n start ∙ (λ j. fields_found v m (none j) (same j) start);
  noted = noted;
}

module _ (m : Bytes) (framed : Framed m) (from : ℕ) (v : Version) (start before : ℕ) (notes new : List ℕ) (at rows end : ℕ)
    (stands : SweepingFields m from v start before notes at rows) (to : PassesTo (field v (rows - before)) m at end) (c : Cursor) (row : c ≡ standing Piece 1 at (end - at)) (one : NotedOne from notes new rows c) where
  one_more : rows - before + 1 ≡ rows + 1 - before
  one_more = omega (arith, stands.more)

  more_rows : (n : ℕ) → n + (rows - before) + 1 ≡ n + (rows + 1 - before)
  more_rows n = omega (arith, stands.more)

  noted_on : Noted m from new (rows + 1) (next_cursor m (standing Piece 1 at (end - at)))
  noted_on = piece_noted m 1 at end to.runs from notes new rows c row one stands.noted

  pub fields_on : get_or m end 0 ≡ GS → SweepingFields m from v start before new (end + 1) (rows + 1)
  fields_on is =
      let more = byte_behind m framed end to.runs.inside GS is (λ e. omega arith) in
      record {
        inside = more;
        more = omega (arith, stands.more);
        same = λ n.
            stands.same n
            ∙ message_on m at end to.runs (fields_from v) (rows - before) (n + (rows - before)) (field_passes v (rows - before) _ (piece_plain m at end to.runs) to.passes) is
            ∙ (λ j. fields_found v m (one_more j) (more_rows n j) (end + 1));
        noted = subst (Noted m from new (rows + 1)) (piece_next m 1 at end to.runs is more) noted_on;
      }

  pub fields_last : get_or m end 0 ≡ RS → LastRight (most_fields v) (rows + 1 - before) (end - at) → BodySwept m from (Fields v) start before (record { next = end + 1; rows = rows + 1 }) new
  fields_last is right =
      let more = byte_behind m framed end to.runs.inside RS is (λ e. omega arith) in
      let last =
      field_last v (rows - before) _ (piece_plain m at end to.runs) to.passes
      (subst (λ (n : ℕ). LastRight (most_fields v) n (length (piece m at end to.runs))) (sym one_more) (subst (LastRight (most_fields v) (rows + 1 - before)) (sym (piece_long m at end to.runs)) right)) in
      record {
        more = omega (arith, stands.more);
        inside = more;
        closes = λ n.
            kept_closed (Fields v) n m start (end + 1) (n + (rows + 1 - before))
            (stands.same n
            ∙ message_last m at end to.runs (fields_from v) (rows - before) (n + (rows - before)) last is
            ∙ ap (closed_at (end + 1)) (more_rows n));
        noted = subst (Noted m from new (rows + 1)) (piece_last m 1 at end to.runs is more) noted_on;
      }
