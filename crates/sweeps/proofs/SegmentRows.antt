-- The rows of a segment, one behind the other: where the sweep over them stands, that a turn keeps this, and that FS ends the segment, which has its tag in front.
use Prim.Native.Nat.{ℕ, suc, ◌+◌, ◌-◌, ◌<◌}
use mathlib.Core.Path.{◌≡◌, refl, sym, ap, ◌∙◌, subst}
use mathlib.Core.Bool.{Bool, true, false, not, ◌&&◌, ◌||◌, cond, true≢false, false≢true}
use mathlib.Core.List.{List, [], ◌∷◌, ◌++◌, map, append_assoc, append-nil}
use native.Mathlib.Omega.{arith}
use borrow.Author.Tests.{eqb-true}
use lib.ListN.{length, get_or, take, drop, length-append, length-take, length-drop, take-append-drop}
use lib.Seq.{drop-drop}
use lib.Dec.{eqb}
use Rattle.std.proofs.lemmas.Bool.{and_parts, or_left}
use Rattle.std.specs.Cmp.Derive.{both_true}
use Rattle.std.proofs.lemmas.List.{drop_more}
use Rattle.label.specs.Bytes.{Bytes, FS, GS, US, EOT, plain, between, every}
use Rattle.label.specs.Pieces.{pieces}
use Rattle.label.specs.Segments.{Element, tag03, tagged}
use Rattle.label.proofs.Tests.{free, free_of, plain_without, Implies, every_implies, every_append}
use Rattle.label.proofs.Splitting.{pieces_one, pieces_front}
use Rattle.leaves.specs.Seek.{tally_of}
use Rattle.leaves.proofs.Turns.{tally_behind}
use Rattle.walk.specs.declared.Stage.TheVariants.{Tag, LaterElement, FurtherSubElement}
use Rattle.walk.specs.declared.Cursor.{Cursor}
use Rattle.walk.specs.Cursors.{ahead, plain_run, standing, plain_row, after_segment, after_sub_element, following, next_cursor}
use Rattle.sweeps.specs.Quick.{Passed, Framed, RunsTo, Noted, NotedOne}
use Rattle.sweeps.specs.Segments.{stage_behind, in_segment, later_rows, TagTo, LaterSwept, SegmentSwept}
use Rattle.walk.proofs.Offsets.{ahead_inside}
use Rattle.sweeps.proofs.Framing.{more_behind, byte_behind}
use Rattle.walk.proofs.Walks.{byte_there}
use Rattle.sweeps.proofs.PieceTurns.{run_every, tally_none}
use Rattle.sweeps.proofs.Sweeping.{run_row, run_ahead}

-- Bytes

plain_inside : Implies plain in_segment
plain_inside b is = or_left _ (eqb b US) (or_left _ (eqb b GS) is)

-- plain bytes are no rows of their own
plain_rows : (p : Bytes) → every plain p ≡ true → later_rows p ≡ 0
plain_rows p ok =
    omega (arith, tally_none GS p (free_of GS plain (plain_without GS (omega arith)) p ok), tally_none US p (free_of US plain (plain_without US (omega arith)) p ok))

rows_append : (p q : Bytes) → later_rows (p ++ q) ≡ later_rows p + later_rows q
rows_append p q = omega (arith, tally_behind GS p q, tally_behind US p q)

module _ (m : Bytes) (at end : ℕ) (to : RunsTo plain m at end) where
  abbrev run : Bytes
  run = take (end - at) (drop at m)

  run_there : drop at m ≡ run ++ drop end m
  run_there =
      let there : at + (end - at) ≡ end = omega (arith, to.runs) in
      sym (take-append-drop (end - at) (drop at m)) ∙ ap (λ l. run ++ l) (drop-drop (end - at) at m ∙ ap (λ n. drop n m) there)

  run_is_plain : every plain run ≡ true
  run_is_plain = let long : end - at ≡ plain_run (drop at m) = omega (arith, to.runs) in ap (λ n. every plain (take n (drop at m))) long ∙ run_every plain (drop at m)

  run_long : at + length run ≡ end
  run_long = omega (arith, length-take (end - at) (drop at m), length-drop at m, to.runs, to.inside)

-- Behind a GS or a US

abbrev Parts : ℕ → Type 0
Parts b = (not (eqb b GS) && not (eqb b US)) ≡ false

parts_inside : (b : ℕ) → Parts b → in_segment b ≡ true
parts_inside b is = by (plain b) (eqb b GS) (eqb b US) is
  where
    by : (p g u : Bool) → (not g && not u) ≡ false → (p || g || u) ≡ true
    by true true u is = refl
    by true false u is = refl
    by false true u is = refl
    by false false true is = refl
    by false false false is = absurd (true≢false is)

parts_rows : (b : ℕ) (p : Bytes) → Parts b → every plain p ≡ true → later_rows (b ∷ p) ≡ 1
parts_rows b p is ok = by (eqb b GS) (eqb b US) refl refl is
  where
    none : later_rows p ≡ 0
    none = plain_rows p ok

    by : (g u : Bool) → eqb b GS ≡ g → eqb b US ≡ u → (not g && not u) ≡ false → cond g (suc (tally_of GS p)) (tally_of GS p) + cond u (suc (tally_of US p)) (tally_of US p) ≡ 1
    by true true x y is = absurd (omega (arith, eqb-true b GS x, eqb-true b US y))
    by true false x y is = omega (arith, none)
    by false true x y is = omega (arith, none)
    by false false x y is = absurd (true≢false is)

parts_end : Parts EOT → ⊥
parts_end is = true≢false is

module _ (m : Bytes) (f : ℕ) where
  parts_cursor : (end : ℕ) → Parts (get_or m end 0) → end + 1 < length m → after_sub_element m f end ≡ plain_row m (stage_behind (get_or m end 0)) f (end + 1)
  unfolding after_sub_element
  parts_cursor end is more = by (eqb (get_or m end 0) US) (eqb (get_or m end 0) GS) is ∙ ap (plain_row m (stage_behind (get_or m end 0)) f) (sym (ahead_inside m end 1 (omega arith)))
    where
      by : (u g : Bool) → (not g && not u) ≡ false
          → cond u (plain_row m FurtherSubElement f (ahead m end 1)) (cond g (plain_row m LaterElement f (ahead m end 1)) (after_segment m f (ahead m end 1))) ≡ plain_row m (cond u FurtherSubElement LaterElement) f (ahead m end 1)
      by true g is = refl
      by false true is = refl
      by false false is = absurd (true≢false is)

  parts_next : (b at end : ℕ) → RunsTo plain m at end → next_cursor m (standing (stage_behind b) f at (end - at)) ≡ after_sub_element m f end
  unfolding next_cursor following
  parts_next b at end to = by (eqb b US) ∙ ap (after_sub_element m f) (run_ahead m f at end to)
    where
      by : (u : Bool) → following m f at (ahead m at (end - at)) (cond u FurtherSubElement LaterElement) ≡ after_sub_element m f (ahead m at (end - at))
      by true = refl
      by false = refl

  tag_next : (at end : ℕ) → RunsTo plain m at end → next_cursor m (standing Tag f at (end - at)) ≡ after_sub_element m f end
  unfolding next_cursor following
  tag_next at end to = ap (after_sub_element m f) (run_ahead m f at end to)

  fs_cursor : (end : ℕ) → get_or m end 0 ≡ FS → end + 1 < length m → after_sub_element m f end ≡ after_segment m f (end + 1)
  unfolding after_sub_element
  fs_cursor end is more =
      ap (λ b. cond (eqb b US) (plain_row m FurtherSubElement f (ahead m end 1)) (cond (eqb b GS) (plain_row m LaterElement f (ahead m end 1)) (after_segment m f (ahead m end 1)))) is
      ∙ ap (after_segment m f) (sym (ahead_inside m end 1 (omega arith)))

-- where the sweep stands: at the end of a row of the segment, with the bytes gone over
pub record Rowing (m : Bytes) (from f start before : ℕ) (notes : List ℕ) (end rows : ℕ) : Type 0 where
  pub bytes : Bytes
  pub there : drop start m ≡ bytes ++ drop end m
  pub behind : end ≡ start + length bytes
  pub inside : end < length m
  pub permitted : every in_segment bytes ≡ true
  pub counts : rows ≡ before + later_rows bytes
  pub noted : Noted m from notes rows (after_sub_element m f end)

module _ (m : Bytes) (framed : Framed m) (from f start before : ℕ) (notes : List ℕ) (end rows : ℕ) (stands : Rowing m from f start before notes end rows) where
  pub parts_more : Parts (get_or m end 0) → end + 1 < length m
  parts_more is = more_behind m framed end stands.inside (λ e. parts_end (ap (λ b. not (eqb b GS) && not (eqb b US)) (sym e) ∙ is))

  pub rowing_on : (next : ℕ) (new : List ℕ) (c : Cursor) → Parts (get_or m end 0) → RunsTo plain m (end + 1) next → c ≡ standing (stage_behind (get_or m end 0)) f (end + 1) (next - (end + 1))
      → NotedOne from notes new rows c → Rowing m from f start before new next (rows + 1)
  rowing_on next new c is to row one =
      let b = get_or m end 0 in
      let p = run m (end + 1) next to in
      let ok = run_is_plain m (end + 1) next to in
      let old = stands.bytes in
      record {
        bytes = old ++ (b ∷ p);
        there = stands.there ∙ ap (λ l. old ++ l) (drop_more m end 0 stands.inside ∙ ap (λ l. b ∷ l) (run_there m (end + 1) next to)) ∙ sym (append_assoc old (b ∷ p) (drop next m));
        behind = omega (arith, stands.behind, length-append old (b ∷ p), run_long m (end + 1) next to);
        inside = to.inside;
        permitted = every_append in_segment old (b ∷ p) stands.permitted (both_true (parts_inside b is) (every_implies plain in_segment plain_inside p ok));
        counts = omega (arith, stands.counts, rows_append old (b ∷ p), parts_rows b p is ok);
        noted = subst (λ (d : Cursor). Noted m from new (rows + 1) d) (ap (next_cursor m) row ∙ parts_next m f b (end + 1) next to)
            (one m (subst (λ (d : Cursor). Noted m from notes rows d) (parts_cursor m f end is (parts_more is) ∙ sym (run_row m f (end + 1) next to (stage_behind b)) ∙ sym row) stands.noted));
      }

  pub rowing_last : get_or m end 0 ≡ FS → LaterSwept m from f start before (record { next = end + 1; rows = rows }) notes
  rowing_last is =
      let more = byte_behind m framed end stands.inside FS is (λ e. omega arith) in
      record {
        bytes = stands.bytes;
        there = stands.there ∙ ap (λ l. stands.bytes ++ l) (drop_more m end 0 stands.inside ∙ ap (λ b. b ∷ drop (end + 1) m) is);
        behind = omega (arith, stands.behind);
        inside = more;
        permitted = stands.permitted;
        counts = stands.counts;
        noted = subst (λ (d : Cursor). Noted m from notes rows d) (fs_cursor m f end is more) stands.noted;
      }

-- A segment

-- the row of its tag is noted
pub tag_noted : (m : Bytes) (from f at rows end : ℕ) (old new : List ℕ) (c : Cursor) → RunsTo plain m at end → c ≡ standing Tag f at (end - at) → NotedOne from old new rows c
    → Noted m from old rows (plain_row m Tag f at) → Noted m from new (rows + 1) (after_sub_element m f end)
tag_noted m from f at rows end old new c to row one noted =
    subst (λ (d : Cursor). Noted m from new (rows + 1) d) (ap (next_cursor m) row ∙ tag_next m f at end to)
    (one m (subst (λ (d : Cursor). Noted m from old rows d) (sym (run_row m f at end to Tag) ∙ sym row) noted))

fs_outside : in_segment FS ≡ true → ⊥
unfolding plain between
fs_outside is = false≢true is

-- a tag alone, and before later elements
module _ (t : Bytes) (ok : every plain t ≡ true) (is : tag03 t ≡ true) where
  first_element : (later : List Element) → tagged tag03 (pieces US t ∷ later) ≡ true
  unfolding tagged
  first_element later = ap (λ (e : Element). tagged tag03 (e ∷ later)) (pieces_one US t (free_of US plain (plain_without US (omega arith)) t ok)) ∙ is

  no_gs : free GS t ≡ true
  no_gs = free_of GS plain (plain_without GS (omega arith)) t ok

  begins_so : (later : Bytes) → every in_segment later ≡ true → (not (eqb (get_or later 0 FS) GS) && not (eqb (get_or later 0 FS) FS)) ≡ false → tagged tag03 (map (pieces US) (pieces GS (t ++ later))) ≡ true
  begins_so [] permitted ends = ap (λ l. tagged tag03 (map (pieces US) (pieces GS l))) (append-nil t) ∙ ap (λ ps. tagged tag03 (map (pieces US) ps)) (pieces_one GS t no_gs) ∙ first_element []
  begins_so (b ∷ bs) permitted ends = by (eqb b GS) (eqb b FS) refl refl ends
    where
      by : (g f : Bool) → eqb b GS ≡ g → eqb b FS ≡ f → (not g && not f) ≡ false → tagged tag03 (map (pieces US) (pieces GS (t ++ (b ∷ bs)))) ≡ true
      by true f x y ends =
          ap (λ c. tagged tag03 (map (pieces US) (pieces GS (t ++ (c ∷ bs))))) (eqb-true b GS x)
          ∙ ap (λ ps. tagged tag03 (map (pieces US) ps)) (pieces_front GS t bs no_gs)
          ∙ first_element (map (pieces US) (pieces GS bs))
      by false true x y ends = absurd (fs_outside (sym (ap in_segment (eqb-true b FS y)) ∙ (and_parts (in_segment b) (every in_segment bs) permitted).0))
      by false false x y ends = absurd (true≢false ends)

pub segment_swept : (m : Bytes) (from f at rows end : ℕ) (p : Passed) (notes : List ℕ) → TagTo m at end → LaterSwept m from f end (rows + 1) p notes → SegmentSwept m from f at rows p notes
segment_swept m from f at rows end p notes to later =
    let t = run m at end to.runs in
    let ok = run_is_plain m at end to.runs in
    record {
      later = record {
        bytes = t ++ later.bytes;
        there = run_there m at end to.runs ∙ ap (λ l. t ++ l) later.there ∙ sym (append_assoc t later.bytes (FS ∷ drop p.next m));
        behind = omega (arith, later.behind, length-append t later.bytes, run_long m at end to.runs);
        inside = later.inside;
        permitted = every_append in_segment t later.bytes (every_implies plain in_segment plain_inside t ok) later.permitted;
        counts = omega (arith, later.counts, rows_append t later.bytes, plain_rows t ok);
        noted = later.noted;
      };
      begins = begins_so t ok to.passes later.bytes later.permitted
          (ap (λ b. not (eqb b GS) && not (eqb b FS)) (sym (byte_there m end _ later.there ∙ first_of later.bytes)) ∙ to.ends);
    }
  where
    first_of : (bs : Bytes) → get_or (bs ++ (FS ∷ drop p.next m)) 0 0 ≡ get_or bs 0 FS
    first_of [] = refl
    first_of (b ∷ bs) = refl
