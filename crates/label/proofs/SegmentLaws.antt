-- A body cut into segments, those into elements and those into sub-elements, and put together again: each is the other's inverse, and what may stand at
-- each level.
use Prim.Native.Nat.{ℕ}
use mathlib.Core.Path.{◌≡◌, refl, ap, ◌∙◌}
use mathlib.Core.Bool.{Bool, true, false, not, ◌||◌, true≢false, false≢true}
use mathlib.Core.List.{List, [], ◌∷◌, ◌++◌, map}
use native.Mathlib.Omega.{arith}
use borrow.Author.Tests.{not-true}
use lib.Dec.{eqb}
use Rattle.std.proofs.lemmas.Bool.{and_parts, or_left, or_right}
use Rattle.std.specs.Cmp.Derive.{both_true}
use Rattle.label.specs.Bytes.{Bytes, FS, GS, US, plain, every, is_empty}
use Rattle.label.specs.Pieces.{pieces, last_is_empty, without_last}
use Rattle.label.specs.Segments.{Segment, Element, tagged}
use Rattle.label.specs.Envelope.{plain_element}
use Rattle.label.specs.ReadEnvelope.{segment_byte, segments_in}
use Rattle.label.proofs.Tests.{or_not, free, free_of, Without, without_or, without_one, plain_without, Implies, every_implies}
use Rattle.label.proofs.Splitting.{joined, terminated, joined_pieces, pieces_some, terminated_without_last, every_pieces, pieces_of_joined, pieces_of_terminated, without_last_of_terminated, every_joined, every_terminated}
use Rattle.label.proofs.Laid.{segment_bytes}

-- From bytes to segments and back

-- a segment cut into elements and those into sub-elements, and joined again
abbrev pub segment_cut : Bytes → Segment
segment_cut bs = map (pieces US) (pieces GS bs)

elements_back : (es : List Bytes) → map (joined US) (map (pieces US) es) ≡ es
elements_back [] = refl
elements_back (e ∷ es) = λ i. joined_pieces US e i ∷ elements_back es i

segment_back : (bs : Bytes) → segment_bytes (segment_cut bs) ≡ bs
segment_back bs = ap (joined GS) (elements_back (pieces GS bs)) ∙ joined_pieces GS bs

each_segment_back : (xs : List Bytes) → map segment_bytes (map segment_cut xs) ≡ xs
each_segment_back [] = refl
each_segment_back (x ∷ xs) = λ i. segment_back x i ∷ each_segment_back xs i

pub segments_back : (body : Bytes) → last_is_empty (pieces FS body) ≡ true → terminated FS (map segment_bytes (segments_in body)) ≡ body
unfolding segments_in
segments_back body ends =
    ap (terminated FS) (each_segment_back (without_last (pieces FS body))) ∙ terminated_without_last FS (pieces FS body) ends ∙ joined_pieces FS body

-- bytes of a segment, and of an element
abbrev pub in_segment : ℕ → Bool
in_segment b = plain b || eqb b GS || eqb b US

abbrev pub in_element : ℕ → Bool
in_element b = plain b || eqb b US

or_without : (a b c : Bool) → (a || b || c) ≡ true → b ≡ false → (a || c) ≡ true
or_without true b c h e = refl
or_without false true c h e = absurd (true≢false e)
or_without false false c h e = h

or_without₄ : (a b c d : Bool) → (a || b || c || d) ≡ true → b ≡ false → (a || c || d) ≡ true
or_without₄ true b c d h e = refl
or_without₄ false true c d h e = absurd (true≢false e)
or_without₄ false false c d h e = h

every_without_last : (test : Bytes → Bool) (ps : List Bytes) → every test ps ≡ true → every test (without_last ps) ≡ true
every_without_last test [] h = refl
every_without_last test (p ∷ []) h = refl
every_without_last test (p ∷ (q ∷ ps)) h =
    let k = and_parts (test p) (every test (q ∷ ps)) h in
    both_true k.0 (every_without_last test (q ∷ ps) k.1)

every_map : {A B : Type 0} (f : A → B) (p : A → Bool) (q : B → Bool) → ((x : A) → p x ≡ true → q (f x) ≡ true) → (xs : List A) → every p xs ≡ true → every q (map f xs) ≡ true
every_map f p q h [] e = refl
every_map f p q h (x ∷ xs) e =
    let k = and_parts (p x) (every p xs) e in
    both_true (h x k.0) (every_map f p q h xs k.1)

plain_element_lem : (bs : Bytes) → every in_element bs ≡ true → plain_element (pieces US bs) ≡ true
plain_element_lem bs h = both_true (ap not (pieces_some US bs)) (every_pieces in_element plain US (λ b. or_not (plain b) (eqb b US)) bs h)

plain_segment : (bs : Bytes) → every in_segment bs ≡ true → every plain_element (segment_cut bs) ≡ true
plain_segment bs h =
    every_map (pieces US) (every in_element) plain_element plain_element_lem (pieces GS bs)
    (every_pieces in_segment in_element GS (λ b. or_without (plain b) (eqb b GS) (eqb b US)) bs h)

pub plain_segments : (body : Bytes) → every segment_byte body ≡ true → every (every plain_element) (segments_in body) ≡ true
unfolding segments_in segment_byte
plain_segments body h =
    every_map segment_cut (every in_segment) (every plain_element) plain_segment (without_last (pieces FS body))
    (every_without_last (every in_segment) (pieces FS body)
    (every_pieces segment_byte in_segment FS (λ b. or_without₄ (plain b) (eqb b FS) (eqb b GS) (eqb b US)) body h))

-- From segments to bytes and back

element_bytes : (e : Element) → plain_element e ≡ true → every in_element (joined US e) ≡ true
element_bytes e h =
    let k = and_parts (not (is_empty e)) (every (every plain) e) h in
    every_joined in_element US e (or_right (plain US) _ refl) (every_implies (every plain) (every in_element) (every_implies plain in_element (λ b p. or_left _ (eqb b US) p)) e k.1)

element_again : (e : Element) → plain_element e ≡ true → pieces US (joined US e) ≡ e
element_again e h =
    let k = and_parts (not (is_empty e)) (every (every plain) e) h in
    pieces_of_joined US e (not-true (is_empty e) k.0) (every_implies (every plain) (free US) (free_of US plain (plain_without US (omega arith))) e k.1)

elements_again : (es : List Element) → every plain_element es ≡ true → map (pieces US) (map (joined US) es) ≡ es
elements_again [] h = refl
elements_again (e ∷ es) h =
    let k = and_parts (plain_element e) (every plain_element es) h in
    λ i. element_again e k.0 i ∷ elements_again es k.1 i

in_element_without : Without GS in_element
in_element_without = without_or GS plain (λ b. eqb b US) (plain_without GS (omega arith)) (without_one GS US refl)

in_segment_without : Without FS in_segment
in_segment_without =
    without_or FS (λ b. plain b || eqb b GS) (λ b. eqb b US)
    (without_or FS plain (λ b. eqb b GS) (plain_without FS (omega arith)) (without_one FS GS refl))
    (without_one FS US refl)

element_in_segment : Implies in_element in_segment
element_in_segment b h = or_between (plain b) (eqb b GS) (eqb b US) h
  where
    or_between : (a b c : Bool) → (a || c) ≡ true → (a || b || c) ≡ true
    or_between true b c h = refl
    or_between false true c h = refl
    or_between false false c h = h

segment_in_body : Implies in_segment segment_byte
unfolding segment_byte
segment_in_body b h = or_between (plain b) (eqb b FS) (eqb b GS) (eqb b US) h
  where
    or_between : (a b c d : Bool) → (a || c || d) ≡ true → (a || b || c || d) ≡ true
    or_between true b c d h = refl
    or_between false true c d h = refl
    or_between false false c d h = h

segment_bytes_lem : (s : Segment) → every plain_element s ≡ true → every in_segment (segment_bytes s) ≡ true
segment_bytes_lem s h =
    every_joined in_segment GS (map (joined US) s) (or_left _ (eqb GS US) (or_right (plain GS) _ refl))
    (every_map (joined US) plain_element (every in_segment) (λ e p. every_implies in_element in_segment element_in_segment (joined US e) (element_bytes e p)) s h)

some_map : {A B : Type 0} (f : A → B) (xs : List A) → is_empty xs ≡ false → is_empty (map f xs) ≡ false
some_map f [] h = h
some_map f (x ∷ xs) h = refl

pub tagged_some : (is_tag : Bytes → Bool) (s : Segment) → tagged is_tag s ≡ true → is_empty s ≡ false
unfolding tagged
tagged_some is_tag [] h = absurd (false≢true h)
tagged_some is_tag (e ∷ es) h = refl

segment_again : (s : Segment) → is_empty s ≡ false → every plain_element s ≡ true → segment_cut (segment_bytes s) ≡ s
segment_again s some h =
    ap (map (pieces US))
    (pieces_of_joined GS (map (joined US) s) (some_map (joined US) s some)
    (every_map (joined US) plain_element (free GS) (λ e p. free_of GS in_element in_element_without (joined US e) (element_bytes e p)) s h))
    ∙ elements_again s h

each_segment_again : (is_tag : Bytes → Bool) (ss : List Segment) → every (every plain_element) ss ≡ true → every (tagged is_tag) ss ≡ true → map segment_cut (map segment_bytes ss) ≡ ss
each_segment_again is_tag [] h t = refl
each_segment_again is_tag (s ∷ ss) h t =
    let k = and_parts (every plain_element s) (every (every plain_element) ss) h in
    let l = and_parts (tagged is_tag s) (every (tagged is_tag) ss) t in
    λ i. segment_again s (tagged_some is_tag s l.0) k.0 i ∷ each_segment_again is_tag ss k.1 l.1 i

-- the body of segments
abbrev pub body_of : List Segment → Bytes
body_of ss = terminated FS (map segment_bytes ss)

pub body_bytes : (ss : List Segment) → every (every plain_element) ss ≡ true → every segment_byte (body_of ss) ≡ true
unfolding segment_byte
body_bytes ss h =
    every_terminated segment_byte FS (map segment_bytes ss) (or_left _ (eqb FS US) (or_left _ (eqb FS GS) (or_right (plain FS) _ refl)))
    (every_map segment_bytes (every plain_element) (every segment_byte) (λ s p. every_implies in_segment segment_byte segment_in_body (segment_bytes s) (segment_bytes_lem s p)) ss h)

pub body_pieces : (ss : List Segment) → every (every plain_element) ss ≡ true → pieces FS (body_of ss) ≡ map segment_bytes ss ++ ([] ∷ [])
body_pieces ss h =
    pieces_of_terminated FS (map segment_bytes ss)
    (every_map segment_bytes (every plain_element) (free FS) (λ s p. free_of FS in_segment in_segment_without (segment_bytes s) (segment_bytes_lem s p)) ss h)

pub segments_again : (is_tag : Bytes → Bool) (ss : List Segment) → every (every plain_element) ss ≡ true → every (tagged is_tag) ss ≡ true → segments_in (body_of ss) ≡ ss
unfolding segments_in
segments_again is_tag ss h t =
    ap (λ ps. map segment_cut (without_last ps)) (body_pieces ss h)
    ∙ ap (map segment_cut) (without_last_of_terminated (map segment_bytes ss))
    ∙ each_segment_again is_tag ss h t
