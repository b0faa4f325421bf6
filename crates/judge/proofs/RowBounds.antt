-- An envelope has at most as many rows as bytes. Of the rows of a run of parts at most one stands without a mark or a byte of its own before it.
use Prim.Native.Nat.{ℕ, ◌+◌, ◌≤◌}
use mathlib.Core.Path.{◌≡◌, refl, ap}
use mathlib.Core.List.{List, [], ◌∷◌, ◌++◌, map}
use native.Mathlib.Omega.{arith}
use lib.ListN.{length, length-append}
use Rattle.label.specs.Bytes.{Bytes, FS, GS, US}
use Rattle.label.specs.Values.{version_digits}
use Rattle.label.specs.declared.Version.{Version}
use Rattle.label.specs.declared.Version.TheVariants.{Version02, Version96}
use Rattle.label.specs.Segments.{Element, Segment}
use Rattle.label.specs.Layout.{Part, mark, bytes_of, items_of, further, separated, ended}
use Rattle.label.specs.Envelope.{Envelope, fields, whole_rest, segments, elements, text, counted}
use Rattle.label.specs.Written.{rowed, rowed_each, element_row, sub_element_row, tag_row, piece_row, element_parts, segment_parts, parts, value_parts, value_row, body_row}
use Rattle.label.specs.Message.{Each}
use Rattle.label.proofs.Laid.{bytes_append}
use Rattle.envelope.specs.Shown.{row_count}
use Rattle.envelope.proofs.RowCounts.{items_append}

-- at most k rows more than bytes
abbrev Under : ℕ → List Part → Type 0
Under k ps = length (items_of ps) ≤ length (bytes_of ps) + k

under_append : (j k : ℕ) (ps qs : List Part) → Under j ps → Under k qs → Under (j + k) (ps ++ qs)
under_append j k ps qs p q = let b = length-append (bytes_of ps) (bytes_of qs) in omega (arith, items_append ps qs, ap length (bytes_append ps qs))

under_further : (c : ℕ) (runs : List (List Part)) → Each (Under 1) runs → Under 0 (further c runs)
under_further c [] all = omega arith
under_further c (run ∷ runs) all = let later = under_append 1 0 run (further c runs) all.0 (under_further c runs all.1) in omega arith

under_ended : (c : ℕ) (runs : List (List Part)) → Each (Under 1) runs → Under 0 (ended c runs)
under_ended c [] all = omega arith
under_ended c (run ∷ runs) all =
    let later = under_ended c runs all.1 in
    omega (arith, items_append run (mark c ∷ ended c runs), ap length (bytes_append run (mark c ∷ ended c runs)), length-append (bytes_of run) (c ∷ bytes_of (ended c runs)), all.0)

each_rowed : (k f : ℕ) (ps : List Bytes) → Each (Under 1) (rowed_each k f ps)
each_rowed k f [] = tt
each_rowed k f (p ∷ ps) = (omega arith, each_rowed k f ps)

under_pieces : (c k f : ℕ) (ps : List Bytes) → Under 1 (separated c (rowed_each k f ps))
under_pieces c k f [] = omega arith
under_pieces c k f (p ∷ ps) = under_append 1 0 (rowed k f p ∷ []) (further c (rowed_each k f ps)) (omega arith) (under_further c (rowed_each k f ps) (each_rowed k f ps))

under_element : (k f : ℕ) (e : Element) → Under 1 (element_parts k f e)
under_element k f [] = omega arith
under_element k f (s ∷ ss) = under_append 1 0 (rowed k f s ∷ []) (further US (rowed_each sub_element_row f ss)) (omega arith) (under_further US (rowed_each sub_element_row f ss) (each_rowed sub_element_row f ss))

each_element : (f : ℕ) (es : List Element) → Each (Under 1) (map (element_parts element_row f) es)
each_element f [] = tt
each_element f (e ∷ es) = (under_element element_row f e, each_element f es)

under_segment : (f : ℕ) (s : Segment) → Under 1 (segment_parts f s)
under_segment f [] = omega arith
under_segment f (e ∷ es) =
    under_append 1 0 (element_parts tag_row f e) (further GS (map (element_parts element_row f) es)) (under_element tag_row f e) (under_further GS (map (element_parts element_row f) es) (each_element f es))

each_segment : (f : ℕ) (ss : List Segment) → Each (Under 1) (map (segment_parts f) ss)
each_segment f [] = tt
each_segment f (s ∷ ss) = (under_segment f s, each_segment f ss)

under_values : (f : ℕ) (vs : List Bytes) → Under 0 (value_parts f vs)
under_values f [] = omega arith
under_values f (v ∷ vs) = omega (arith, under_ended GS (rowed_each value_row f (v ∷ vs)) (each_rowed value_row f (v ∷ vs)))

two_digits_long : (v : Version) → length (version_digits v) ≡ 2
two_digits_long Version02 = refl
two_digits_long Version96 = refl

pub few_rows_lem : (e : Envelope) → row_count e ≤ length (bytes_of (parts e))
unfolding parts
few_rows_lem (fields f v fs) = omega (arith, under_pieces GS piece_row f fs, two_digits_long v, length-append (version_digits v) (bytes_of (separated GS (rowed_each piece_row f fs))))
few_rows_lem (whole_rest f body) = omega (arith, length-append body [])
few_rows_lem (segments f header ss) = omega (arith, under_ended FS (map (segment_parts f) ss) (each_segment f ss), length-append header (FS ∷ (GS ∷ (US ∷ bytes_of (ended FS (map (segment_parts f) ss))))))
few_rows_lem (elements f es) = omega (arith, under_pieces GS piece_row f es)
few_rows_lem (text f body) = omega (arith, length-append body [])
few_rows_lem (counted f vs n payload) =
    let tail = rowed value_row f n ∷ mark GS ∷ rowed body_row f payload ∷ [] in
    omega (
      arith,
      items_append (value_parts f vs) tail,
      ap length (bytes_append (value_parts f vs) tail),
      length-append (bytes_of (value_parts f vs)) (bytes_of tail),
      under_values f vs,
      length-append n (GS ∷ (payload ++ [])),
    )
