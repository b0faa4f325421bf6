-- A body of segments, segment by segment: what is found of it from one segment on is what is found from the next one on with the rows of that one more; and
-- where RS stands behind a segment it is closed.
use Prim.Native.Nat.{ℕ, suc, ◌+◌, ◌-◌, ◌≤◌, ◌<◌}
use mathlib.Core.Path.{◌≡◌, refl, sym, ap, ◌∙◌, subst}
use mathlib.Core.Bool.{Bool, true, false, not, ◌&&◌, ◌||◌, cond, true≢false}
use mathlib.Core.List.{List, [], ◌∷◌, ◌++◌, map}
use native.Mathlib.Omega.{arith}
use borrow.Author.Tests.{lt-ltb, eq-eqb, ne_eqb, eqb-true, eqb-false}
use lib.ListN.{length, get_or, take, drop, length-append}
use lib.Seq.{take-append-add}
use lib.Dec.{eqb, ltb}
use Rattle.std.proofs.lemmas.Bool.{and_parts}
use Rattle.std.proofs.lemmas.List.{drop_more}
use Rattle.label.specs.declared.Reason.TheVariants.{NoRecordSeparator}
use Rattle.label.specs.Bytes.{Bytes, FS, GS, RS, US, plain, between, capital_or_digit, every, is_empty}
use Rattle.label.specs.Pieces.{pieces, last_is_empty, without_last}
use Rattle.label.specs.Segments.{Segment, tag, tag03, tagged}
use Rattle.label.specs.Values.{release_length}
use Rattle.label.specs.Formats.{widest, rule_of}
use Rattle.label.specs.ReadEnvelope.{segment_byte, segments_in, are_segments, read_by}
use Rattle.label.specs.ReadMessage.{agreement}
use Rattle.label.proofs.Tests.{free, free_of, Without, without_or, without_one, plain_without, Implies, every_implies}
use Rattle.label.proofs.Splitting.{pieces_some, pieces_front}
use Rattle.label.proofs.SegmentLaws.{segment_cut}
use Rattle.leaves.specs.Seek.{seek, tally_of}
use Rattle.leaves.proofs.Turns.{seek_behind, tally_behind}
use Rattle.pieces.specs.declared.Kind.TheVariants.{Segments03, Segments04}
use Rattle.bodies.proofs.PieceLaws.{leb_same}
use Rattle.envelope.specs.Judged.{Judged, closed_at, no_envelope}
use Rattle.envelope.specs.Bodies.{body_found}
use Rattle.envelope.specs.Formats.{segments_found}
use Rattle.envelope.specs.Shown.{shown}
use Rattle.envelope.proofs.FormatTests.{segments_body}
use Rattle.envelope.proofs.FormatLaws.{shown_segments}
use Rattle.walk.specs.declared.Stage.TheVariants.{Tag, ReleaseValue}
use Rattle.walk.specs.declared.Cursor.{Cursor}
use Rattle.walk.specs.Cursors.{ahead, standing, plain_row, indicator_at, opening, after_segment, following, next_cursor}
use Rattle.sweeps.specs.Quick.{Passed, Framed, Noted, NotedOne, BodySwept, FormatSwept}
use Rattle.sweeps.specs.Segments.{segments_kind, in_segment, later_rows, SegmentSwept}
use Rattle.walk.proofs.Offsets.{ahead_inside}
use Rattle.sweeps.proofs.Framing.{byte_behind}
use Rattle.sweeps.proofs.PieceTurns.{every_front, tally_none, found_by}

-- Bytes of a segment

inside_without : (c : ℕ) → c < 0x20 → eqb GS c ≡ false → eqb US c ≡ false → Without c in_segment
inside_without c small gs us =
    without_or c (λ b. plain b || eqb b GS) (λ b. eqb b US) (without_or c plain (λ b. eqb b GS) (plain_without c small) (without_one c GS gs)) (without_one c US us)

inside_permitted : Implies in_segment segment_byte
unfolding segment_byte
inside_permitted b is = by (plain b) (eqb b FS) (eqb b GS) (eqb b US) is
  where
    by : (p f g u : Bool) → (p || g || u) ≡ true → (p || f || g || u) ≡ true
    by true f g u is = refl
    by false true g u is = refl
    by false false g u is = is

-- how many rows they have
abbrev rows_in : Bytes → ℕ
rows_in body = tally_of FS body + tally_of GS body + tally_of US body

-- Rules: segments one or more, or, behind some, none or more

module _ (is_tag : Bytes → Bool) where
  abbrev rule : Bool → Bytes → Bool
  rule some body = last_is_empty (pieces FS body) && (some || not (is_empty (segments_in body))) && every (tagged is_tag) (segments_in body)

  -- a segment and its FS in front
  rule_on : (some : Bool) (p body : Bytes) → free FS p ≡ true → tagged is_tag (segment_cut p) ≡ true → rule some (p ++ (FS ∷ body)) ≡ rule true body
  unfolding segments_in
  rule_on some p body no_fs is = ap (ruled some) (pieces_front FS p body no_fs) ∙ by some (pieces FS body) (pieces_some FS body)
    where
      ruled : Bool → List Bytes → Bool
      ruled some ps = last_is_empty ps && (some || not (is_empty (map segment_cut (without_last ps)))) && every (tagged is_tag) (map segment_cut (without_last ps))

      by : (some : Bool) (ps : List Bytes) → is_empty ps ≡ false → ruled some (p ∷ ps) ≡ ruled true ps
      by some [] none = absurd (true≢false none)
      by true (q ∷ ps) none = ap (λ t. last_is_empty (q ∷ ps) && true && (t && every (tagged is_tag) (map segment_cut (without_last (q ∷ ps))))) is
      by false (q ∷ ps) none = ap (λ t. last_is_empty (q ∷ ps) && true && (t && every (tagged is_tag) (map segment_cut (without_last (q ∷ ps))))) is

  -- what is found in bytes that begin at an offset, given how long the body is
  abbrev found_in : Bool → ℕ → ℕ → Bytes → ℕ → Judged
  found_in some before at bs n = found_by (ltb n (length bs)) (every segment_byte (take n bs)) (rule some (take n bs)) (at + n + 1) (before + rows_in (take n bs))

  list_on : (some : Bool) (before at : ℕ) (p rest : Bytes) → every in_segment p ≡ true → tagged is_tag (segment_cut p) ≡ true
      → found_in some before at (p ++ (FS ∷ rest)) (seek RS (p ++ (FS ∷ rest))) ≡ found_in true (before + (1 + later_rows p)) (at + length p + 1) rest (seek RS rest)
  unfolding segment_byte plain between
  list_on some before at p rest ok is =
      let n = seek RS rest in
      let body = take n rest in
      let no_fs : free FS p ≡ true = free_of FS in_segment (inside_without FS (omega arith) refl refl) p ok in
      let no_rs_lem : free RS p ≡ true = free_of RS in_segment (inside_without RS (omega arith) refl refl) p ok in
      let first : seek RS (p ++ (FS ∷ rest)) ≡ length p + suc n = seek_behind RS p (FS ∷ rest) no_rs_lem in
      let cut : take (length p + suc n) (p ++ (FS ∷ rest)) ≡ p ++ (FS ∷ body) = take-append-add p (FS ∷ rest) (suc n) in
      let long = length-append p (FS ∷ rest) in
      let ended : ltb (length p + suc n) (length (p ++ (FS ∷ rest))) ≡ ltb n (length rest) = leb_same (suc (length p + suc n)) (length (p ++ (FS ∷ rest))) (suc n) (length rest) (λ h. omega arith) (λ h. omega arith) in
      let next : at + (length p + suc n) + 1 ≡ at + length p + 1 + n + 1 = omega arith in
      let rows : before + rows_in (p ++ (FS ∷ body)) ≡ before + (1 + later_rows p) + rows_in body = omega (arith, tally_behind FS p (FS ∷ body), tally_none FS p no_fs, tally_behind GS p (FS ∷ body), tally_behind US p (FS ∷ body)) in
      ap (found_in some before at (p ++ (FS ∷ rest))) first
      ∙ (λ i. found_by (ended i) (every segment_byte (cut i)) (rule some (cut i)) (next i) (before + rows_in (cut i)))
      ∙ (λ i. found_by (ltb n (length rest)) (every_front segment_byte p (FS ∷ body) (every_implies in_segment segment_byte inside_permitted p ok) i) (rule_on some p body no_fs is i) (at + length p + 1 + n + 1) (rows i))

  list_last : (before at : ℕ) (rest : Bytes) → found_in true before at (RS ∷ rest) (seek RS (RS ∷ rest)) ≡ closed_at (at + 1) before
  unfolding segments_in
  list_last before at rest =
      let next : at + 0 + 1 ≡ at + 1 = omega arith in
      let rows : before + 0 ≡ before = omega arith in
      ap (λ t. cond t (closed_at (at + 0 + 1) (before + 0)) (no_envelope NoRecordSeparator)) (lt-ltb 0 (suc (length rest)) (omega arith)) ∙ (λ i. closed_at (next i) (rows i))

-- Kinds of bodies

abbrev tag_for : ℕ → Bytes → Bool
tag_for f = cond (eqb f 3) tag03 tag

abbrev rest_found : ℕ → Bool → ℕ → Bytes → ℕ → Judged
rest_found f some before m at = found_in (tag_for f) some before at (drop at m) (seek RS (drop at m))

body_rest : (f before : ℕ) (m : Bytes) (at : ℕ) → body_found (segments_kind f) before m at ≡ rest_found f false before m at
unfolding body_found are_segments
body_rest f before m at = by (eqb f 3)
  where
    by : (t : Bool) → body_found (cond t Segments03 Segments04) before m at ≡ found_in (cond t tag03 tag) false before at (drop at m) (seek RS (drop at m))
    by true = refl
    by false = refl

tagged_either : (f : ℕ) (s : Segment) → tagged tag03 s ≡ true → tagged (tag_for f) s ≡ true
unfolding tagged tag03
tagged_either f s is = by (eqb f 3) s is
  where
    by : (t : Bool) (s : Segment) → tagged tag03 s ≡ true → tagged (cond t tag03 tag) s ≡ true
    by true s is = is
    by false [] is = is
    by false ([] ∷ later) is = is
    by false ((t ∷ []) ∷ later) is = (and_parts (tag t) _ is).0
    by false ((t ∷ (s ∷ ss)) ∷ later) is = is

-- where the sweep stands: from here on the same is found as from the start, with the rows gone over
pub record Segmenting (m : Bytes) (from f start before : ℕ) (notes : List ℕ) (at rows : ℕ) : Type 0 where
  pub inside : at < length m
  pub more : before ≤ rows
  pub some : Bool
  pub same : (n : ℕ) → rest_found f false n m start ≡ rest_found f some (n + (rows - before)) m at
  pub noted : Noted m from notes rows (plain_row m Tag f at)

module _ (m : Bytes) (framed : Framed m) (from f start before : ℕ) (old new : List ℕ) (at rows : ℕ) (stands : Segmenting m from f start before old at rows) (p : Passed) (swept : SegmentSwept m from f at rows p new) where
  found_on : (n : ℕ) → rest_found f false n m start ≡ rest_found f true (n + (p.rows - before)) m p.next
  found_on n =
      let s = swept.later in
      let rows_on : n + (rows - before) + (1 + later_rows s.bytes) ≡ n + (p.rows - before) = omega (arith, s.counts, stands.more) in
      stands.same n
      ∙ ap (λ bs. found_in (tag_for f) stands.some (n + (rows - before)) at bs (seek RS bs)) s.there
      ∙ list_on (tag_for f) stands.some (n + (rows - before)) at s.bytes (drop p.next m) s.permitted (tagged_either f _ swept.begins)
      ∙ (λ i. found_in (tag_for f) true (rows_on i) (sym s.behind i) (drop p.next m) (seek RS (drop p.next m)))

  pub segmenting_on : (get_or m p.next 0 ≡ RS → ⊥) → Segmenting m from f start before new p.next p.rows
  unfolding after_segment
  segmenting_on other = record {
    inside = swept.later.inside;
    more = omega (arith, stands.more, swept.later.counts);
    some = true;
    same = found_on;
    noted = subst (λ (c : Cursor). Noted m from new p.rows c) (ap (λ t. cond t (indicator_at m (ahead m p.next 1)) (plain_row m Tag f p.next)) (ne_eqb (get_or m p.next 0) RS other)) swept.later.noted;
  }

  pub segmenting_last : get_or m p.next 0 ≡ RS → BodySwept m from (segments_kind f) start before (record { next = p.next + 1; rows = p.rows }) new
  unfolding after_segment
  segmenting_last is =
      let more = byte_behind m framed p.next swept.later.inside RS is (λ e. omega arith) in
      record {
        more = omega (arith, stands.more, swept.later.counts);
        inside = more;
        closes = λ n.
            body_rest f n m start
            ∙ found_on n
            ∙ ap (λ bs. found_in (tag_for f) true (n + (p.rows - before)) p.next bs (seek RS bs)) (drop_more m p.next 0 swept.later.inside ∙ ap (λ b. b ∷ drop (p.next + 1) m) is)
            ∙ list_last (tag_for f) (n + (p.rows - before)) p.next (drop (p.next + 1) m);
        noted = subst (λ (c : Cursor). Noted m from new p.rows c)
            (ap (λ t. cond t (indicator_at m (ahead m p.next 1)) (plain_row m Tag f p.next)) (eq-eqb (get_or m p.next 0) RS is) ∙ ap (indicator_at m) (sym (ahead_inside m p.next 1 (omega arith)))) swept.later.noted;
      }

-- Behind the indicator

module _ (m : Bytes) (f at : ℕ) (least : 3 ≤ f) (most : f ≤ 4) where
  -- what holds of 3 and of 4
  either : (Fact : ℕ → Type 0) → Fact 3 → Fact 4 → Fact f
  either Fact three four = by (eqb f 3) refl
    where
      by : (t : Bool) → eqb f 3 ≡ t → Fact f
      by true is = subst Fact (sym (eqb-true f 3 is)) three
      by false is = let other = eqb-false f 3 is in let is_four : 4 ≡ f = omega (arith, least, most, other) in subst Fact is_four four

  formats_shown : at ≤ length m → (first : Bool) → shown m (read_by (rule_of widest f) first f (drop at m)) ≡ segments_found (segments_kind f) m at
  unfolding rule_of read_by
  formats_shown inside first = either (λ g. shown m (read_by (rule_of widest g) first g (drop at m)) ≡ segments_found (segments_kind g) m at) (shown_segments Segments03 tag03 3 m at inside refl (λ body kept. kept) (λ body. refl)) (shown_segments Segments04 tag 4 m at inside refl (λ body kept. kept) (λ body. refl))

  formats_open : opening m f at (rule_of widest f) ≡ standing ReleaseValue f at release_length
  unfolding opening rule_of
  formats_open = either (λ g. opening m g at (rule_of widest g) ≡ standing ReleaseValue g at release_length) refl refl

  release_next : at + 9 ≤ length m → next_cursor m (standing ReleaseValue f at release_length) ≡ plain_row m Tag f (at + 6 + 3)
  unfolding next_cursor following
  release_next inside = ap (λ e. plain_row m Tag f (ahead m e 3)) (sym (ahead_inside m at 6 (omega arith))) ∙ ap (plain_row m Tag f) (sym (ahead_inside m (at + 6) 3 (omega arith)))

  -- the row of the six bytes is noted
  pub release_noted : (from rows : ℕ) (old new : List ℕ) (c : Cursor) → at + 9 ≤ length m → c ≡ standing ReleaseValue f at 6 → NotedOne from old new rows c
      → Noted m from old rows (opening m f at (rule_of widest f)) → Noted m from new (rows + 1) (plain_row m Tag f (at + 6 + 3))
  release_noted from rows old new c inside row one noted =
      subst (λ (d : Cursor). Noted m from new (rows + 1) d) (ap (next_cursor m) row ∙ release_next inside) (one m (subst (λ (d : Cursor). Noted m from old rows d) (formats_open ∙ sym row) noted))

  -- FS GS US stand behind them, then segments
  pub segments_swept : (from rows : ℕ) (p : Passed) (notes : List ℕ) → at + 9 ≤ length m → every capital_or_digit (take 6 (drop at m)) ≡ true
      → agreement (FS ∷ GS ∷ US ∷ []) (drop (at + 6) m) ≡ 3 → BodySwept m from (segments_kind f) (at + 6 + 3) (rows + 1) p notes → FormatSwept m from f at rows p notes
  segments_swept from rows p notes inside class marks body =
      let count : 2 + (p.rows - (rows + 1)) ≡ 1 + (p.rows - rows) = omega (arith, body.more) in
      record {
        more = omega (arith, body.more);
        inside = body.inside;
        closes = λ first only.
            formats_shown (omega arith) first
            ∙ sym (segments_body (segments_kind f) m at (omega arith) (omega arith) class marks)
            ∙ body.closes 2
            ∙ ap (closed_at p.next) count;
        noted = body.noted;
      }
