-- The rules of a body of fields, of elements and of segments, by tests that the code makes of separators, of pieces one by one, and of the last byte.
use Prim.Native.Nat.{ℕ, zero, suc, ◌+◌, ◌-◌, ◌≤◌}
use mathlib.Core.Path.{◌≡◌, refl, sym, ap, ◌∙◌}
use mathlib.Core.Bool.{Bool, true, false, not, ◌&&◌, ◌||◌, cond, true≢false}
use mathlib.Core.List.{List, [], ◌∷◌, ◌++◌, map, append-nil}
use native.Mathlib.Omega.{arith}
use borrow.Author.Tests.{leb-true, eqb-true, eq-eqb, ne_eqb}
use lib.ListN.{length, take, drop}
use lib.Dec.{eqb, leb, ltb, eqb-suc-suc}
use Rattle.std.proofs.lemmas.Bool.Decides.{nat_tests}
use Rattle.std.proofs.lemmas.Bool.{and_parts}
use Rattle.label.specs.Bytes.{Bytes, FS, GS, US, digit, capital, capital_or_digit, every, is_empty}
use Rattle.label.specs.Limits.{long_as}
use Rattle.label.specs.Pieces.{piece_with, pieces, last_is_empty, without_last}
use Rattle.label.specs.declared.Version.{Version}
use Rattle.label.specs.Segments.{Segment, Element, tag, tag03, tagged}
use Rattle.label.specs.Fields.{least_fields, most_fields, field, fields_from, transport}
use Rattle.label.specs.ReadEnvelope.{segments_in, are_segments}
use Rattle.label.proofs.Tests.{free, free_of, Without, between_without, without_or}
use Rattle.label.proofs.Splitting.{joined, joined_pieces, pieces_some, pieces_one, last_of_terminated, without_last_of_terminated}
use Rattle.label.proofs.SegmentLaws.{segment_cut}
use Rattle.leaves.specs.Seek.{seek, tally_of}
use Rattle.bodies.specs.Kinds.{every_from, fields_of, segments_of}
use Rattle.bodies.proofs.PieceLaws.{pieces_by_seek, pieces_ended, before_last, last_is, leb_same}

-- Fields

count_with : (t : Bool) (b : ℕ) (ps : List Bytes) (n : ℕ) → is_empty ps ≡ false → length ps ≡ n + 1 → length (piece_with t b ps) ≡ cond t (suc n) n + 1
count_with true b ps n some h = omega arith
count_with false b [] n some h = absurd (true≢false some)
count_with false b (p ∷ ps) n some h = h

-- one piece more than separators
pub pieces_count : (c : ℕ) (bs : Bytes) → length (pieces c bs) ≡ tally_of c bs + 1
pieces_count c [] = refl
pieces_count c (b ∷ bs) = count_with (eqb b c) b (pieces c bs) (tally_of c bs) (pieces_some c bs) (pieces_count c bs)

every_fields : (v : Version) (i : ℕ) (ps : List Bytes) → every_from (field v) i ps ≡ fields_from v i ps
unfolding fields_from
every_fields v i [] = refl
every_fields v i (p ∷ ps) = ap (λ t. field v i p && t) (every_fields v (i + 1) ps)

-- the last of those past the k-th
last_past : (k : ℕ) (ps : List Bytes) → k ≤ length ps → (eqb (length ps) k || not (last_is_empty ps)) ≡ not (last_is_empty (drop k ps))
last_past zero [] h = refl
last_past zero (p ∷ ps) h = ap (λ t. t || not (last_is_empty (p ∷ ps))) (ne_eqb (suc (length ps)) 0 (λ is. omega arith))
last_past (suc k) [] h = absurd (omega arith)
last_past (suc k) (p ∷ []) h = ap (λ t. t || not (is_empty p)) (eq-eqb 1 (suc k) (omega arith)) ∙ sym (ap (λ n. not (last_is_empty (drop n []))) none_left)
  where
    none_left : k ≡ 0
    none_left = omega arith
last_past (suc k) (p ∷ (q ∷ ps)) h = ap (λ t. t || not (last_is_empty (q ∷ ps))) (eqb-suc-suc (suc (length ps)) k) ∙ last_past k (q ∷ ps) (omega arith)

eqb_same : (a b c d : ℕ) → (a ≡ b → c ≡ d) → (c ≡ d → a ≡ b) → eqb a b ≡ eqb c d
eqb_same a b c d there back = grind (arith, nat_tests)

pub fields_law : (v : Version) (body : Bytes) → fields_of (field v) (most_fields v) (pieces GS body) body ≡ transport v (pieces GS body)
unfolding transport
fields_law v body =
    let ps = pieces GS body in
    let n = tally_of GS body in
    let count = pieces_count GS body in
    (λ i. leb_same 4 n least_fields (length ps) (λ h. omega arith) (λ h. omega arith) i
    && leb_same (suc n) (most_fields v) (length ps) (most_fields v) (λ h. omega arith) (λ h. omega arith) i
    && every_fields v 0 ps i
    && (eqb_same n 4 (length ps) least_fields (λ h. omega arith) (λ h. omega arith) i || not (last_is_empty ps)))
    ∙ by (leb least_fields (length ps)) (leb (length ps) (most_fields v)) (fields_from v 0 ps) refl
  where
    by : (t u w : Bool) → leb least_fields (length (pieces GS body)) ≡ t
        → (t && u && w && (eqb (length (pieces GS body)) least_fields || not (last_is_empty (pieces GS body)))) ≡ (t && u && w && not (last_is_empty (drop least_fields (pieces GS body))))
    by true u w h = ap (λ x. u && w && x) (last_past least_fields (pieces GS body) (leb-true least_fields _ h))
    by false u w h = refl

-- Elements

pub every_elements : (test : Bytes → Bool) (i : ℕ) (ps : List Bytes) → every_from (λ i p. test p) i ps ≡ every test ps
every_elements test i [] = refl
every_elements test i (p ∷ ps) = ap (λ t. test p && t) (every_elements test (i + 1) ps)

-- Segments

-- a test of tags that no byte US passes
abbrev pub NoUs : (Bytes → Bool) → Type 0
NoUs is_tag = (bs : Bytes) → is_tag bs ≡ true → free US bs ≡ true

capital_or_digit_without : Without US capital_or_digit
unfolding capital_or_digit capital digit
capital_or_digit_without = without_or US capital digit (between_without 0x41 0x5A US (omega arith)) (between_without 0x30 0x39 US (omega arith))

pub tag_no_us : NoUs tag
unfolding tag
tag_no_us bs h = free_of US capital_or_digit capital_or_digit_without bs (and_parts (long_as (record { 0 = 2; 1 = 3 }) bs && every capital (take 1 bs)) (every capital_or_digit bs) h).1

pub tag03_no_us : NoUs tag03
unfolding tag03
tag03_no_us bs h = tag_no_us bs (and_parts (tag bs) _ h).0

first_tagged : (is_tag : Bytes → Bool) (e : Bytes) (later : List Element) → NoUs is_tag → tagged is_tag (pieces US e ∷ later) ≡ is_tag e
unfolding tagged
first_tagged is_tag e later no_us = by (is_tag e) refl
  where
    other : (xs : List Bytes) → is_empty xs ≡ false → joined US xs ≡ e → is_tag e ≡ false → tagged is_tag (xs ∷ later) ≡ false
    other [] some whole is = absurd (true≢false some)
    other (t ∷ []) some whole is = ap is_tag (sym (append-nil t) ∙ whole) ∙ is
    other (t ∷ (s ∷ ss)) some whole is = refl

    by : (t : Bool) → is_tag e ≡ t → tagged is_tag (pieces US e ∷ later) ≡ t
    by true is = ap (λ xs. tagged is_tag (xs ∷ later)) (pieces_one US e (no_us e is)) ∙ is
    by false is = other (pieces US e) (pieces_some US e) (joined_pieces US e) is

segment_tagged : (is_tag : Bytes → Bool) (p : Bytes) → NoUs is_tag → tagged is_tag (segment_cut p) ≡ is_tag (take (seek GS p) p)
segment_tagged is_tag p no_us =
    ap (λ ps. tagged is_tag (map (pieces US) ps)) (pieces_by_seek GS p)
    ∙ first_tagged is_tag (take (seek GS p) p) (map (pieces US) (cond (ltb (seek GS p) (length p)) (pieces GS (drop (seek GS p + 1) p)) [])) no_us

every_segment : (is_tag : Bytes → Bool) → NoUs is_tag → (i : ℕ) (ps : List Bytes) → every_from (λ i p. is_tag (take (seek GS p) p)) i ps ≡ every (tagged is_tag) (map segment_cut ps)
every_segment is_tag no_us i [] = refl
every_segment is_tag no_us i (p ∷ ps) = λ j. sym (segment_tagged is_tag p no_us) j && every_segment is_tag no_us (i + 1) ps j

-- a body that ends in FS: its segments are the pieces before that
ended_segments : (is_tag : Bytes → Bool) (init : Bytes) → NoUs is_tag → every_from (λ i p. is_tag (take (seek GS p) p)) 0 (pieces FS init) ≡ are_segments is_tag (init ++ (FS ∷ []))
unfolding are_segments segments_in
ended_segments is_tag init no_us =
    let cut_all : List Bytes → List Segment = λ ps. map segment_cut (without_last ps) in
    let ended = pieces_ended FS init in
    let segments : cut_all (pieces FS (init ++ (FS ∷ []))) ≡ map segment_cut (pieces FS init) = ap cut_all ended ∙ ap (map segment_cut) (without_last_of_terminated (pieces FS init)) in
    every_segment is_tag no_us 0 (pieces FS init)
    ∙ sym (λ j. (ap last_is_empty ended ∙ last_of_terminated (pieces FS init)) j && (ap (λ s. not (is_empty s)) segments ∙ some (pieces FS init) (pieces_some FS init)) j && every (tagged is_tag) (segments j))
  where
    some : (ps : List Bytes) → is_empty ps ≡ false → not (is_empty (map segment_cut ps)) ≡ true
    some [] h = absurd (true≢false h)
    some (p ∷ ps) h = refl

pub segments_law : (is_tag : Bytes → Bool) (body : Bytes) → NoUs is_tag → segments_of (λ i p. is_tag (take (seek GS p) p)) FS body ≡ are_segments is_tag body
unfolding are_segments segments_in
segments_law is_tag [] no_us = refl
segments_law is_tag (b ∷ bs) no_us = by (last_is_empty (pieces FS body)) refl
  where
    body : Bytes
    body = b ∷ bs

    init : Bytes
    init = take (length body - 1) body

    some : length body ≡ 0 → ⊥
    some is = omega arith

    test : ℕ → Bytes → Bool
    test i p = is_tag (take (seek GS p) p)

    by : (t : Bool) → last_is_empty (pieces FS body) ≡ t → (not (eqb (length body) 0) && t && every_from test 0 (pieces FS init)) ≡ (t && not (is_empty (segments_in body)) && every (tagged is_tag) (segments_in body))
    by true is =
        ap (λ x. not x && true && every_from test 0 (pieces FS init)) (ne_eqb (length body) 0 some)
        ∙ ended_segments is_tag init no_us
        ∙ ap (are_segments is_tag) (sym (before_last body some ∙ ap (λ x. init ++ (x ∷ [])) (eqb-true _ FS (last_is FS body some ∙ is))))
        ∙ ap (λ x. x && not (is_empty (segments_in body)) && every (tagged is_tag) (segments_in body)) is
    by false is = ap (λ x. not x && false && every_from test 0 (pieces FS init)) (ne_eqb (length body) 0 some)

-- How many rows: no byte is counted twice
pub rows_inside : (bs : Bytes) → tally_of FS bs + tally_of GS bs + tally_of US bs ≤ length bs
rows_inside [] = omega arith
rows_inside (b ∷ bs) = by (eqb b FS) (eqb b GS) (eqb b US) refl refl refl (rows_inside bs)
  where
    by : (f g u : Bool) → eqb b FS ≡ f → eqb b GS ≡ g → eqb b US ≡ u → tally_of FS bs + tally_of GS bs + tally_of US bs ≤ length bs
        → cond f (suc (tally_of FS bs)) (tally_of FS bs) + cond g (suc (tally_of GS bs)) (tally_of GS bs) + cond u (suc (tally_of US bs)) (tally_of US bs) ≤ suc (length bs)
    by true true u p q r h = let x = eqb-true b FS p in let y = eqb-true b GS q in absurd (omega arith)
    by true false true p q r h = let x = eqb-true b FS p in let y = eqb-true b US r in absurd (omega arith)
    by true false false p q r h = omega arith
    by false true true p q r h = let x = eqb-true b GS q in let y = eqb-true b US r in absurd (omega arith)
    by false true false p q r h = omega arith
    by false false true p q r h = omega arith
    by false false false p q r h = omega arith
