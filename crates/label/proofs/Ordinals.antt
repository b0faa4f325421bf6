-- Ordinals by counting: an envelope has one indicator, in front of its other rows, so that counting indicators comes to the ordinals that the list of
-- envelopes has. And what counting says of a row and of the one behind it.
use Prim.Native.Nat.{ℕ, zero, suc, ◌+◌, ◌≤◌, ◌<◌}
use mathlib.Core.Path.{◌≡◌, refl, sym, ap, ◌∙◌}
use mathlib.Core.Bool.{Bool, true, false, not, cond, false≢true}
use mathlib.Core.List.{List, [], ◌∷◌, ◌++◌, map, append_assoc, append-nil, map-append}
use native.Mathlib.Nat.{add-zero}
use native.Mathlib.Omega.{arith}
use native.Mathlib.Numerals.{add-one}
use lib.ListN.{length, get_or, drop, length-map, length-drop}
use lib.Dec.{leb, ltb}
use borrow.Author.Tests.{leb-true, leb-false, lt-ltb, le-ltb, not-true}
use Rattle.std.specs.Int.{from_bool}
use Rattle.std.proofs.lemmas.Bool.{and_parts}
use Rattle.std.specs.Cmp.Derive.{both_true}
use Rattle.label.specs.Bytes.{Bytes, EOT, FS, GS, RS, US, every}
use Rattle.label.specs.Layout.{Item, Part, mark, item, marks, Row, items_of, rows_from, separated, further, ended}
use Rattle.label.specs.Segments.{Element, Segment}
use Rattle.label.specs.Envelope.{Envelope, fields, whole_rest, segments, elements, text, counted}
use Rattle.label.specs.Written.{indicator_row, value_row, piece_row, tag_row, element_row, sub_element_row, rowed, rowed_each, element_parts, segment_parts, parts, value_parts}
use Rattle.label.specs.Message.{header, is_rest_alone, message_parts, rows_of, ordinals_from, ordinals_of}
use Rattle.label.specs.ReadMessage.{Outcome, read, refused}
use Rattle.label.specs.Answer.{rows_read, ordinals_read}
use Rattle.label.specs.Counting.{kinds_of, item_kinds, raised, counting_on, by_counting}
use Rattle.label.proofs.Tests.{every_append}

-- Kinds

abbrev kinds_in : List Part → List ℕ
kinds_in ps = item_kinds (items_of ps)

row_kinds : (at : ℕ) (ps : List Part) → kinds_of (rows_from at ps) ≡ kinds_in ps
row_kinds at [] = refl
row_kinds at (mark b ∷ ps) = row_kinds (at + 1) ps
row_kinds at (item i ∷ ps) = ap (λ ks. i.kind ∷ ks) (row_kinds (at + length i.content) ps)

pub parts_items : (ps qs : List Part) → items_of (ps ++ qs) ≡ items_of ps ++ items_of qs
parts_items [] qs = refl
parts_items (mark b ∷ ps) qs = parts_items ps qs
parts_items (item i ∷ ps) qs = ap (λ is. i ∷ is) (parts_items ps qs)

-- An envelope has one indicator, in front

-- a row that is no indicator's
abbrev other : Item → Bool
other i = not (leb i.kind indicator_row)

abbrev others : List Part → Bool
others ps = every other (items_of ps)

others_append : (ps qs : List Part) → others ps ≡ true → others qs ≡ true → others (ps ++ qs) ≡ true
others_append ps qs h h' = ap (every other) (parts_items ps qs) ∙ every_append other (items_of ps) (items_of qs) h h'

-- runs of parts, each without an indicator
others_further : (s : ℕ) (runs : List (List Part)) → every others runs ≡ true → others (further s runs) ≡ true
others_further s [] h = refl
others_further s (run ∷ runs) h = let k = and_parts (others run) (every others runs) h in others_append run (further s runs) k.0 (others_further s runs k.1)

others_separated : (s : ℕ) (runs : List (List Part)) → every others runs ≡ true → others (separated s runs) ≡ true
others_separated s [] h = refl
others_separated s (run ∷ runs) h = others_further s (run ∷ runs) h

others_ended : (s : ℕ) (runs : List (List Part)) → every others runs ≡ true → others (ended s runs) ≡ true
others_ended s [] h = refl
others_ended s (run ∷ runs) h = let k = and_parts (others run) (every others runs) h in others_append run (mark s ∷ ended s runs) k.0 (others_ended s runs k.1)

others_runs : {A : Type 0} (run : A → List Part) → ((x : A) → others (run x) ≡ true) → (xs : List A) → every others (map run xs) ≡ true
others_runs run each [] = refl
others_runs run each (x ∷ xs) = both_true (each x) (others_runs run each xs)

-- rows of one kind that is no indicator's, an element of a segment, a segment
others_each : (k f : ℕ) → not (leb k indicator_row) ≡ true → (ps : List Bytes) → every others (rowed_each k f ps) ≡ true
others_each k f not_first ps = others_runs (λ bs. rowed k f bs ∷ []) (λ p. both_true not_first refl) ps

others_element : (k f : ℕ) → not (leb k indicator_row) ≡ true → (e : Element) → others (element_parts k f e) ≡ true
others_element k f not_first [] = refl
others_element k f not_first (s ∷ ss) = both_true not_first (others_further US (rowed_each sub_element_row f ss) (others_each sub_element_row f refl ss))

others_segment : (f : ℕ) (s : Segment) → others (segment_parts f s) ≡ true
others_segment f [] = refl
others_segment f (e ∷ es) =
    others_append (element_parts tag_row f e) (further GS (map (element_parts element_row f) es)) (others_element tag_row f refl e)
    (others_further GS (map (element_parts element_row f) es) (others_runs (element_parts element_row f) (others_element element_row f refl) es))

others_values : (f : ℕ) (vs : List Bytes) → others (value_parts f vs) ≡ true
others_values f [] = refl
others_values f (v ∷ vs) = others_ended GS (rowed_each value_row f (v ∷ vs)) (others_each value_row f refl (v ∷ vs))

-- the items of an envelope: an indicator, and others
record OneIndicator (is : List Item) : Type 0 where
  first : Item
  rest : List Item
  so : is ≡ first ∷ rest
  indicates : leb first.kind indicator_row ≡ true
  no_others : every other rest ≡ true

one_indicator : (e : Envelope) → OneIndicator (items_of (parts e))
unfolding parts
one_indicator (fields f v fs) = record { first = _; rest = _; so = refl; indicates = refl; no_others = others_separated GS (rowed_each piece_row f fs) (others_each piece_row f refl fs) }
one_indicator (whole_rest f body) = record { first = _; rest = _; so = refl; indicates = refl; no_others = refl }
one_indicator (segments f r ss) = record { first = _; rest = _; so = refl; indicates = refl; no_others = others_ended FS (map (segment_parts f) ss) (others_runs (segment_parts f) (others_segment f) ss) }
one_indicator (elements f es) = record { first = _; rest = _; so = refl; indicates = refl; no_others = others_separated GS (rowed_each piece_row f es) (others_each piece_row f refl es) }
one_indicator (text f body) = record { first = _; rest = _; so = refl; indicates = refl; no_others = refl }
one_indicator (counted f vs n payload) =
    record { first = _; rest = _; so = refl; indicates = refl; no_others = others_append (value_parts f vs) _ (others_values f vs) refl }

-- Counting

-- over others the count stays
counting_others : (n : ℕ) (is : List Item) (ks : List ℕ) → every other is ≡ true → counting_on n (item_kinds is ++ ks) ≡ map (λ (i : Item). n) is ++ counting_on n ks
counting_others n [] ks h = refl
counting_others n (i ∷ is) ks h =
    let k = and_parts (other i) (every other is) h in
    ap (λ t. cond t (suc n) n ∷ counting_on (cond t (suc n) n) (item_kinds is ++ ks)) (not-true (leb i.kind indicator_row) k.0)
    ∙ ap (λ os. n ∷ os) (counting_others n is ks k.1)

-- the kinds of an envelope in front of other parts
kinds_front : (e : Envelope) (ps : List Part) → kinds_in (parts e ++ ps) ≡ item_kinds (items_of (parts e)) ++ kinds_in ps
kinds_front e ps = ap item_kinds (parts_items (parts e) ps) ∙ map-append (λ (i : Item). i.kind) (items_of (parts e)) (items_of ps)

-- behind a row with ordinal n the next envelope has n + 1
counting_envelope : (n : ℕ) (e : Envelope) (ps : List Part) → counting_on n (kinds_in (parts e ++ ps)) ≡ map (λ (i : Item). n + 1) (items_of (parts e)) ++ counting_on (n + 1) (kinds_in ps)
counting_envelope n e ps =
    let one = one_indicator e in
    ap (counting_on n) (kinds_front e ps ∙ ap (λ is. item_kinds is ++ kinds_in ps) one.so)
    ∙ ap (λ t. cond t (suc n) n ∷ counting_on (cond t (suc n) n) (item_kinds one.rest ++ kinds_in ps)) one.indicates
    ∙ ap (λ x. x ∷ counting_on x (item_kinds one.rest ++ kinds_in ps)) (sym (add-one n))
    ∙ ap (λ os. (n + 1) ∷ os) (counting_others (n + 1) one.rest (kinds_in ps) one.no_others)
    ∙ ap (λ is. map (λ (i : Item). n + 1) is ++ counting_on (n + 1) (kinds_in ps)) (sym one.so)

counting_envelopes : (n : ℕ) (es : List Envelope) (ps : List Part) → items_of ps ≡ [] → counting_on n (kinds_in (ended RS (map parts es) ++ ps)) ≡ ordinals_from (n + 1) es
counting_envelopes n [] ps none = ap (λ is. counting_on n (item_kinds is)) none
counting_envelopes n (e ∷ es) ps none =
    ap (λ ps. counting_on n (kinds_in ps)) (append_assoc (parts e) (mark RS ∷ ended RS (map parts es)) ps)
    ∙ counting_envelope n e (mark RS ∷ (ended RS (map parts es) ++ ps))
    ∙ ap (λ os. map (λ (i : Item). n + 1) (items_of (parts e)) ++ os) (counting_envelopes (n + 1) es ps none)

-- the first envelope has 0
counting_first : (e : Envelope) (ps : List Part) → by_counting (kinds_in (parts e ++ ps)) ≡ map (λ (i : Item). 0) (items_of (parts e)) ++ counting_on 0 (kinds_in ps)
counting_first e ps =
    let one = one_indicator e in
    ap by_counting (kinds_front e ps ∙ ap (λ is. item_kinds is ++ kinds_in ps) one.so)
    ∙ ap (λ os. 0 ∷ os) (counting_others 0 one.rest (kinds_in ps) one.no_others)
    ∙ ap (λ is. map (λ (i : Item). 0) is ++ counting_on 0 (kinds_in ps)) (sym one.so)

counting_closed : (es : List Envelope) → by_counting (kinds_in (ended RS (map parts es) ++ (mark EOT ∷ []))) ≡ ordinals_from 0 es
counting_closed [] = refl
counting_closed (e ∷ es) =
    ap (λ ps. by_counting (kinds_in ps)) (append_assoc (parts e) (mark RS ∷ ended RS (map parts es)) (mark EOT ∷ []))
    ∙ counting_first e (mark RS ∷ (ended RS (map parts es) ++ (mark EOT ∷ [])))
    ∙ ap (λ os. map (λ (i : Item). 0) (items_of (parts e)) ++ os) (counting_envelopes 0 es (mark EOT ∷ []) refl)

counting_alone : (es : List Envelope) → is_rest_alone es ≡ true → by_counting (kinds_in (separated RS (map parts es))) ≡ ordinals_from 0 es
counting_alone [] is = absurd (false≢true is)
counting_alone (e ∷ []) is = counting_first e []
counting_alone (e ∷ (e' ∷ es)) is = absurd (false≢true is)

kinds_counted : (es : List Envelope) → by_counting (kinds_in (message_parts es)) ≡ ordinals_of es
unfolding message_parts ordinals_of
kinds_counted es = by (is_rest_alone es) refl
  where
    by : (t : Bool) → is_rest_alone es ≡ t → by_counting (kinds_in (marks header ++ cond t (separated RS (map parts es)) (ended RS (map parts es) ++ (mark EOT ∷ [])))) ≡ ordinals_from 0 es
    by true is = counting_alone es is
    by false is = counting_closed es

-- the ordinals are those that counting the items comes to, and the rows
pub items_counted : (es : List Envelope) → ordinals_of es ≡ by_counting (item_kinds (items_of (message_parts es)))
items_counted es = sym (kinds_counted es)

pub ordinals_counted_lem : (es : List Envelope) → ordinals_of es ≡ by_counting (kinds_of (rows_of es))
unfolding rows_of
ordinals_counted_lem es = items_counted es ∙ ap by_counting (sym (row_kinds 0 (message_parts es)))

pub read_counted_lem : (o : Outcome) → ordinals_read o ≡ by_counting (kinds_of (rows_read o))
read_counted_lem (read es) = ordinals_counted_lem es
read_counted_lem (refused reason place) = refl

-- as many as there are rows
counting_long : (n : ℕ) (ks : List ℕ) → length (counting_on n ks) ≡ length ks
counting_long n [] = refl
counting_long n (k ∷ ks) = ap suc (counting_long (raised n k) ks)

pub counted_long : (ks : List ℕ) → length (by_counting ks) ≡ length ks
counted_long [] = refl
counted_long (k ∷ ks) = ap suc (counting_long 0 ks)

pub ordinals_long : (es : List Envelope) → length (ordinals_of es) ≡ length (rows_of es)
ordinals_long es = ap length (ordinals_counted_lem es) ∙ counted_long (kinds_of (rows_of es)) ∙ length-map (rows_of es) (λ r. r.kind)

-- the kind of a row of a list
pub kind_at : (rs : List Row) (i : ℕ) (r : Row) (rest : List Row) → drop i rs ≡ r ∷ rest → get_or (kinds_of rs) i 0 ≡ r.kind
kind_at [] i r rest here = let none : List Row = [] in absurd (omega (arith, ap length here, length-drop i none))
kind_at (q ∷ rs) zero r rest here = cc
kind_at (q ∷ rs) (suc i) r rest here = kind_at rs i r rest here

-- a row's ordinal by that of the row before it
counting_step : (n : ℕ) (ks : List ℕ) (i : ℕ) → i < length ks → get_or (counting_on n ks) i 0 ≡ raised (get_or (n ∷ counting_on n ks) i 0) (get_or ks i 0)
counting_step n [] i less = absurd (omega arith)
counting_step n (k ∷ ks) zero less = refl
counting_step n (k ∷ ks) (suc i) less = counting_step (raised n k) ks i (omega arith)

pub counted_first : (ks : List ℕ) → get_or (by_counting ks) 0 0 ≡ 0
counted_first [] = refl
counted_first (k ∷ ks) = refl

pub counted_step : (ks : List ℕ) (i : ℕ) → i + 1 < length ks → get_or (by_counting ks) (i + 1) 0 ≡ raised (get_or (by_counting ks) i 0) (get_or ks (i + 1) 0)
counted_step [] i less = absurd (omega arith)
counted_step (k ∷ ks) i less = ap (λ n. get_or (0 ∷ counting_on 0 ks) n 0) (add-one i) ∙ counting_step 0 ks i (omega arith) ∙ ap (λ n. raised (get_or (0 ∷ counting_on 0 ks) i 0) (get_or (k ∷ ks) n 0)) (sym (add-one i))

-- at most as many as rows before it
pub raised_small : (n k i : ℕ) → n ≤ i → raised n k ≤ i + 1
raised_small n k i small = by (leb k indicator_row)
  where
    by : (t : Bool) → cond t (suc n) n ≤ i + 1
    by true = omega arith
    by false = omega arith

-- counting on as code does, by a test of the kind
pub raised_by_test : (n k : ℕ) → n + from_bool (ltb k 2) ≡ raised n k
raised_by_test n k = by (leb k indicator_row) refl
  where
    by : (t : Bool) → leb k indicator_row ≡ t → n + from_bool (ltb k 2) ≡ cond t (suc n) n
    by true is = ap (λ t. n + from_bool t) (lt-ltb k 2 (omega (arith, leb-true k indicator_row is))) ∙ add-one n
    by false is = ap (λ t. n + from_bool t) (le-ltb k 2 (omega (arith, leb-false k indicator_row is))) ∙ add-zero n

pub counted_small : (ks : List ℕ) (i : ℕ) → i < length ks → get_or (by_counting ks) i 0 ≤ i
counted_small ks zero less = omega (arith, counted_first ks)
counted_small ks (suc i) less =
    let step = ap (λ n. get_or (by_counting ks) n 0) (sym (add-one i)) ∙ counted_step ks i (omega arith) in
    omega (arith, step, raised_small (get_or (by_counting ks) i 0) (get_or ks (i + 1) 0) i (counted_small ks i (omega arith)))

-- of one envelope, or none, each is 0
pub ordinals_of_one : (es : List Envelope) → length es ≤ 1 → ordinals_of es ≡ map (λ (r : Row). 0) (rows_of es)
unfolding ordinals_of
ordinals_of_one es few = by es few (rows_of es) (ordinals_long es)
  where
    zeros : {A : Type 0} (xs : List A) (rs : List Row) → length (map {B = ℕ} (λ x. 0) xs) ≡ length rs → map {B = ℕ} (λ x. 0) xs ≡ map (λ (r : Row). 0) rs
    zeros [] [] same = refl
    zeros [] (r ∷ rs) same = absurd (omega (arith, same))
    zeros (x ∷ xs) [] same = absurd (omega (arith, same))
    zeros (x ∷ xs) (r ∷ rs) same = ap (λ ns. 0 ∷ ns) (zeros xs rs (omega (arith, same)))

    by : (es : List Envelope) → length es ≤ 1 → (rs : List Row) → length (ordinals_from 0 es) ≡ length rs → ordinals_from 0 es ≡ map (λ (r : Row). 0) rs
    by [] few [] same = refl
    by [] few (r ∷ rs) same = absurd (omega (arith, same))
    by (e ∷ []) few rs same =
        let whole : map {B = ℕ} (λ (i : Item). 0) (items_of (parts e)) ++ [] ≡ map (λ i. 0) (items_of (parts e)) = append-nil (map (λ i. 0) (items_of (parts e))) in
        whole ∙ zeros (items_of (parts e)) rs (ap length (sym whole) ∙ same)
    by (e ∷ (e' ∷ es)) few rs same = absurd (omega arith)
