-- How many rows each shape of envelope has.
use Prim.Native.Nat.{ℕ, suc, ◌+◌, ◌-◌}
use mathlib.Core.Path.{◌≡◌, refl, sym, ap, ◌∙◌}
use mathlib.Core.Bool.{Bool, true, false, cond, true≢false, false≢true}
use mathlib.Core.List.{List, [], ◌∷◌, ◌++◌, map}
use native.Mathlib.Omega.{arith}
use borrow.Author.Tests.{eqb-true}
use lib.ListN.{length, length-append}
use lib.Dec.{eqb}
use Rattle.label.specs.Bytes.{Bytes, FS, GS, US, is_empty}
use Rattle.label.specs.Pieces.{piece_with, pieces, last_is_empty, without_last}
use Rattle.label.specs.Segments.{Element, Segment}
use Rattle.label.specs.Layout.{Part, mark, items_of, further, separated, ended}
use Rattle.label.specs.Written.{rowed_each, element_row, sub_element_row, tag_row, element_parts, segment_parts, value_parts, value_row}
use Rattle.label.specs.ReadEnvelope.{segments_in}
use Rattle.label.proofs.Splitting.{pieces_some}
use Rattle.label.proofs.SegmentLaws.{segment_cut}
use Rattle.label.proofs.Ordinals.{parts_items}
use Rattle.leaves.specs.Seek.{tally_of}
use Rattle.bodies.proofs.RuleLaws.{pieces_count}

pub items_append : (ps qs : List Part) → length (items_of (ps ++ qs)) ≡ length (items_of ps) + length (items_of qs)
items_append ps qs = ap length (parts_items ps qs) ∙ length-append (items_of ps) (items_of qs)

items_further : (c k f : ℕ) (ps : List Bytes) → length (items_of (further c (rowed_each k f ps))) ≡ length ps
items_further c k f [] = refl
items_further c k f (p ∷ ps) = ap suc (items_further c k f ps)

-- pieces that are a row each
pub items_pieces : (c k f : ℕ) (ps : List Bytes) → length (items_of (separated c (rowed_each k f ps))) ≡ length ps
items_pieces c k f [] = refl
items_pieces c k f (p ∷ ps) = ap suc (items_further c k f ps)

-- values that are a row each
items_ended : (c k f : ℕ) (vs : List Bytes) → length (items_of (ended c (rowed_each k f vs))) ≡ length vs
items_ended c k f [] = refl
items_ended c k f (v ∷ vs) = ap suc (items_ended c k f vs)

pub items_values : (f : ℕ) (vs : List Bytes) → length (items_of (value_parts f vs)) ≡ length vs
items_values f [] = refl
items_values f (v ∷ vs) = items_ended GS value_row f (v ∷ vs)

items_element : (k f : ℕ) (e : Element) → length (items_of (element_parts k f e)) ≡ length e
items_element k f [] = refl
items_element k f (s ∷ ss) = ap suc (items_further US sub_element_row f ss)

-- sums over lists
sum_of : {A : Type 0} → (A → ℕ) → List A → ℕ
sum_of f [] = 0
sum_of f (x ∷ xs) = f x + sum_of f xs

items_elements : (f : ℕ) (es : List Element) → length (items_of (further GS (map (element_parts element_row f) es))) ≡ sum_of length es
unfolding sum_of
items_elements f [] = refl
items_elements f (e ∷ es) = omega (arith, items_append (element_parts element_row f e) (further GS (map (element_parts element_row f) es)), items_element element_row f e, items_elements f es)

items_segment : (f : ℕ) (s : Segment) → length (items_of (segment_parts f s)) ≡ sum_of length s
unfolding sum_of
items_segment f [] = refl
items_segment f (e ∷ es) = omega (arith, items_append (element_parts tag_row f e) (further GS (map (element_parts element_row f) es)), items_element tag_row f e, items_elements f es)

items_segments : (f : ℕ) (ss : List Segment) → length (items_of (ended FS (map (segment_parts f) ss))) ≡ sum_of (sum_of length) ss
unfolding sum_of
items_segments f [] = refl
items_segments f (s ∷ ss) = omega (arith, items_append (segment_parts f s) (mark FS ∷ ended FS (map (segment_parts f) ss)), items_segment f s, items_segments f ss)

-- what is counted in pieces is what is counted in all, but for the separators
sum_with : (c d : ℕ) → (c ≡ d → ⊥) → (t u : Bool) (b : ℕ) (ps : List Bytes) → eqb b c ≡ t → eqb b d ≡ u → is_empty ps ≡ false → sum_of (tally_of d) (piece_with t b ps) ≡ cond u (suc (sum_of (tally_of d) ps)) (sum_of (tally_of d) ps)
unfolding sum_of
sum_with c d other true true b ps p q some = absurd (other (sym (eqb-true b c p) ∙ eqb-true b d q))
sum_with c d other true false b ps p q some = omega arith
sum_with c d other false u b [] p q some = absurd (true≢false some)
sum_with c d other false true b (x ∷ ps) p q some = ap (λ t. cond t (suc (tally_of d x)) (tally_of d x) + sum_of (tally_of d) ps) q ∙ omega arith
sum_with c d other false false b (x ∷ ps) p q some = ap (λ t. cond t (suc (tally_of d x)) (tally_of d x) + sum_of (tally_of d) ps) q

sum_pieces : (c d : ℕ) → (c ≡ d → ⊥) → (bs : Bytes) → sum_of (tally_of d) (pieces c bs) ≡ tally_of d bs
unfolding sum_of
sum_pieces c d other [] = refl
sum_pieces c d other (b ∷ bs) =
    sum_with c d other (eqb b c) (eqb b d) b (pieces c bs) refl refl (pieces_some c bs)
    ∙ ap (λ n. cond (eqb b d) (suc n) n) (sum_pieces c d other bs)

-- a segment has a row for its tag, and one behind each GS and US
sum_elements : (ps : List Bytes) → sum_of length (map (pieces US) ps) ≡ sum_of (tally_of US) ps + length ps
unfolding sum_of
sum_elements [] = refl
sum_elements (p ∷ ps) = omega (arith, pieces_count US p, sum_elements ps)

rows_segment : (p : Bytes) → sum_of length (segment_cut p) ≡ tally_of US p + tally_of GS p + 1
rows_segment p = omega (arith, sum_elements (pieces GS p), pieces_count GS p, sum_pieces GS US (λ is. omega arith) p)

sum_segments : (ps : List Bytes) → sum_of (sum_of length) (map segment_cut ps) ≡ sum_of (tally_of US) ps + sum_of (tally_of GS) ps + length ps
unfolding sum_of
sum_segments [] = refl
sum_segments (p ∷ ps) = omega (arith, rows_segment p, sum_segments ps)

-- without an empty last piece nothing is lost
sum_without_last : (d : ℕ) (ps : List Bytes) → last_is_empty ps ≡ true → sum_of (tally_of d) (without_last ps) ≡ sum_of (tally_of d) ps
unfolding sum_of
sum_without_last d [] h = refl
sum_without_last d ([] ∷ []) h = refl
sum_without_last d ((b ∷ p) ∷ []) h = absurd (false≢true h)
sum_without_last d (p ∷ (q ∷ ps)) h = ap (λ n. tally_of d p + n) (sum_without_last d (q ∷ ps) h)

length_without_last : (ps : List Bytes) → length (without_last ps) ≡ length ps - 1
length_without_last [] = refl
length_without_last (p ∷ []) = refl
length_without_last (p ∷ (q ∷ ps)) = omega (arith, length_without_last (q ∷ ps))

pub rows_segments : (f : ℕ) (body : Bytes) → last_is_empty (pieces FS body) ≡ true → length (items_of (ended FS (map (segment_parts f) (segments_in body)))) ≡ tally_of FS body + tally_of GS body + tally_of US body
unfolding segments_in
rows_segments f body ends =
    let ps = pieces FS body in
    omega (
      arith,
      items_segments f (map segment_cut (without_last ps)),
      sum_segments (without_last ps),
      sum_without_last US ps ends,
      sum_without_last GS ps ends,
      length_without_last ps,
      pieces_count FS body,
      sum_pieces FS US (λ is. omega arith) body,
      sum_pieces FS GS (λ is. omega arith) body,
    )
