-- The bytes of parts: of parts behind one another, of runs with a separator between them or a terminator behind each, and so of each shape of envelope.
use Prim.Native.Nat.{ℕ}
use mathlib.Core.Path.{◌≡◌, refl, sym, ap, ◌∙◌}
use mathlib.Core.List.{List, [], ◌∷◌, ◌++◌, map, append_assoc, append-nil}
use Rattle.label.specs.Bytes.{Bytes, FS, GS, US}
use Rattle.label.specs.Values.{version_digits}
use Rattle.label.specs.Segments.{Element, Segment}
use Rattle.label.specs.Layout.{Part, mark, item, marks, bytes_of, further, separated, ended}
use Rattle.label.specs.Envelope.{Envelope, fields, whole_rest, segments, elements, text, counted}
use Rattle.label.specs.Written.{rowed_each, two_digits, element_row, sub_element_row, tag_row, piece_row, element_parts, segment_parts, parts, value_parts, value_row, rowed, body_row}
use Rattle.label.proofs.Splitting.{behind, joined, terminated}

pub bytes_append : (ps qs : List Part) → bytes_of (ps ++ qs) ≡ bytes_of ps ++ bytes_of qs
bytes_append [] qs = refl
bytes_append (mark b ∷ ps) qs = ap (λ r. b ∷ r) (bytes_append ps qs)
bytes_append (item i ∷ ps) qs = ap (λ r. i.content ++ r) (bytes_append ps qs) ∙ sym (append_assoc i.content (bytes_of ps) (bytes_of qs))

pub bytes_marks : (bs : Bytes) → bytes_of (marks bs) ≡ bs
bytes_marks [] = refl
bytes_marks (b ∷ bs) = ap (λ r. b ∷ r) (bytes_marks bs)

bytes_further : (c : ℕ) (runs : List (List Part)) → bytes_of (further c runs) ≡ behind c (map bytes_of runs)
bytes_further c [] = refl
bytes_further c (run ∷ runs) = ap (λ r. c ∷ r) (bytes_append run (further c runs) ∙ ap (λ r. bytes_of run ++ r) (bytes_further c runs))

pub bytes_separated : (c : ℕ) (runs : List (List Part)) → bytes_of (separated c runs) ≡ joined c (map bytes_of runs)
bytes_separated c [] = refl
bytes_separated c (run ∷ runs) = bytes_append run (further c runs) ∙ ap (λ r. bytes_of run ++ r) (bytes_further c runs)

pub bytes_ended : (c : ℕ) (runs : List (List Part)) → bytes_of (ended c runs) ≡ terminated c (map bytes_of runs)
bytes_ended c [] = refl
bytes_ended c (run ∷ runs) = bytes_append run (mark c ∷ ended c runs) ∙ ap (λ r. bytes_of run ++ (c ∷ r)) (bytes_ended c runs)

bytes_rowed : (k f : ℕ) (ps : List Bytes) → map bytes_of (rowed_each k f ps) ≡ ps
bytes_rowed k f [] = refl
bytes_rowed k f (p ∷ ps) = λ i. append-nil p i ∷ bytes_rowed k f ps i

-- pieces that are rows each
pub bytes_pieces : (c k f : ℕ) (ps : List Bytes) → bytes_of (separated c (rowed_each k f ps)) ≡ joined c ps
bytes_pieces c k f ps = bytes_separated c (rowed_each k f ps) ∙ ap (joined c) (bytes_rowed k f ps)

pub bytes_each_ended : (c k f : ℕ) (ps : List Bytes) → bytes_of (ended c (rowed_each k f ps)) ≡ terminated c ps
bytes_each_ended c k f ps = bytes_ended c (rowed_each k f ps) ∙ ap (terminated c) (bytes_rowed k f ps)

pub bytes_element : (k f : ℕ) (e : Element) → bytes_of (element_parts k f e) ≡ joined US e
bytes_element k f [] = refl
bytes_element k f (s ∷ ss) = ap (λ r. s ++ r) (bytes_further US (rowed_each sub_element_row f ss) ∙ ap (behind US) (bytes_rowed sub_element_row f ss))

bytes_elements : (f : ℕ) (es : List Element) → map bytes_of (map (element_parts element_row f) es) ≡ map (joined US) es
bytes_elements f [] = refl
bytes_elements f (e ∷ es) = λ i. bytes_element element_row f e i ∷ bytes_elements f es i

-- a segment's elements joined, each its sub-elements joined
abbrev pub segment_bytes : Segment → Bytes
segment_bytes s = joined GS (map (joined US) s)

pub bytes_segment : (f : ℕ) (s : Segment) → bytes_of (segment_parts f s) ≡ segment_bytes s
bytes_segment f [] = refl
bytes_segment f (e ∷ es) =
    bytes_append (element_parts tag_row f e) (further GS (map (element_parts element_row f) es))
    ∙ (λ i. bytes_element tag_row f e i ++ (bytes_further GS (map (element_parts element_row f) es) ∙ ap (behind GS) (bytes_elements f es)) i)

bytes_segments : (f : ℕ) (ss : List Segment) → map bytes_of (map (segment_parts f) ss) ≡ map segment_bytes ss
bytes_segments f [] = refl
bytes_segments f (s ∷ ss) = λ i. bytes_segment f s i ∷ bytes_segments f ss i

-- the header values in front of a count
abbrev pub value_bytes : List Bytes → Bytes
value_bytes [] = []
value_bytes (v ∷ vs) = GS ∷ terminated GS (v ∷ vs)

bytes_values : (f : ℕ) (vs : List Bytes) → bytes_of (value_parts f vs) ≡ value_bytes vs
bytes_values f [] = refl
bytes_values f (v ∷ vs) = ap (λ r. GS ∷ r) (bytes_each_ended GS value_row f (v ∷ vs))

-- an envelope's header and body
abbrev pub content_bytes : Envelope → Bytes
content_bytes (fields f v fs) = GS ∷ (version_digits v ++ joined GS fs)
content_bytes (whole_rest f body) = body
content_bytes (segments f header ss) = header ++ (FS ∷ (GS ∷ (US ∷ terminated FS (map segment_bytes ss))))
content_bytes (elements f es) = GS ∷ joined GS es
content_bytes (text f body) = body
content_bytes (counted f vs n payload) = value_bytes vs ++ (n ++ (GS ∷ payload))

-- its format
abbrev pub format_of : Envelope → ℕ
format_of (fields f v fs) = f
format_of (whole_rest f body) = f
format_of (segments f header ss) = f
format_of (elements f es) = f
format_of (text f body) = f
format_of (counted f vs n payload) = f

-- an envelope is written as its indicator, header and body
pub bytes_envelope : (e : Envelope) → bytes_of (parts e) ≡ two_digits (format_of e) ++ content_bytes e
unfolding parts
bytes_envelope (fields f v fs) = ap (λ r. two_digits f ++ (GS ∷ (version_digits v ++ r))) (bytes_pieces GS piece_row f fs)
bytes_envelope (whole_rest f body) = ap (λ r. two_digits f ++ r) (append-nil body)
bytes_envelope (segments f header ss) =
    ap (λ r. two_digits f ++ (header ++ (FS ∷ (GS ∷ (US ∷ r))))) (bytes_ended FS (map (segment_parts f) ss) ∙ ap (terminated FS) (bytes_segments f ss))
bytes_envelope (elements f es) = ap (λ r. two_digits f ++ (GS ∷ r)) (bytes_pieces GS piece_row f es)
bytes_envelope (text f body) = ap (λ r. two_digits f ++ r) (append-nil body)
bytes_envelope (counted f vs n payload) =
    ap (λ r. two_digits f ++ r)
    (bytes_append (value_parts f vs) (rowed value_row f n ∷ mark GS ∷ rowed body_row f payload ∷ [])
    ∙ (λ i. bytes_values f vs i ++ (n ++ (GS ∷ append-nil payload i))))
