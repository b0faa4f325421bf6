-- Cutting at a separator and joining with it are inverse to each other; where the first separator is; and what holds of all bytes holds of all pieces.
use Prim.Native.Nat.{ℕ}
use mathlib.Core.Path.{◌≡◌, refl, sym, ap, ◌∙◌}
use mathlib.Core.Bool.{Bool, true, false, not, false≢true, true≢false}
use mathlib.Core.List.{List, [], ◌∷◌, ◌++◌, append-nil}
use borrow.Author.Tests.{eqb-true, eq-eqb, not-true}
use lib.Dec.{eqb}
use Rattle.std.proofs.lemmas.Bool.{and_parts}
use Rattle.std.specs.Cmp.Derive.{both_true}
use Rattle.label.specs.Bytes.{Bytes, every, is_empty}
use Rattle.label.specs.Pieces.{piece_with, pieces, last_is_empty, without_last, Cut, found, absent, cut_with, cut}
use Rattle.label.proofs.Tests.{free, every_append}

-- pieces behind separators; pieces joined
abbrev pub behind : ℕ → List Bytes → Bytes
behind c [] = []
behind c (p ∷ ps) = c ∷ (p ++ behind c ps)

abbrev pub joined : ℕ → List Bytes → Bytes
joined c [] = []
joined c (p ∷ ps) = p ++ behind c ps

-- pieces each with a terminator behind it
abbrev pub terminated : ℕ → List Bytes → Bytes
terminated c [] = []
terminated c (p ∷ ps) = p ++ (c ∷ terminated c ps)

-- the pieces of bytes: at least one
some_with : (t : Bool) (b : ℕ) (ps : List Bytes) → is_empty (piece_with t b ps) ≡ false
some_with true b ps = refl
some_with false b [] = refl
some_with false b (p ∷ ps) = refl

pub pieces_some : (c : ℕ) (bs : Bytes) → is_empty (pieces c bs) ≡ false
pieces_some c [] = refl
pieces_some c (b ∷ bs) = some_with (eqb b c) b (pieces c bs)

-- joined again, pieces are the bytes that were cut
joined_with : (t : Bool) (c b : ℕ) (ps : List Bytes) → is_empty ps ≡ false → eqb b c ≡ t → joined c (piece_with t b ps) ≡ b ∷ joined c ps
joined_with true c b [] some e = absurd (true≢false some)
joined_with true c b (p ∷ ps) some e = ap (λ x. x ∷ (p ++ behind c ps)) (sym (eqb-true b c e))
joined_with false c b [] some e = refl
joined_with false c b (p ∷ ps) some e = refl

pub joined_pieces : (c : ℕ) (bs : Bytes) → joined c (pieces c bs) ≡ bs
joined_pieces c [] = refl
joined_pieces c (b ∷ bs) = joined_with (eqb b c) c b (pieces c bs) (pieces_some c bs) refl ∙ ap (λ x. b ∷ x) (joined_pieces c bs)

-- a piece in front of a separator is cut off, and bytes without a separator are one piece
pub pieces_one : (c : ℕ) (p : Bytes) → free c p ≡ true → pieces c p ≡ p ∷ []
pieces_one c [] h = refl
pieces_one c (b ∷ bs) h =
    let k = and_parts (not (eqb b c)) (free c bs) h in
    ap (λ t. piece_with t b (pieces c bs)) (not-true (eqb b c) k.0) ∙ ap (piece_with false b) (pieces_one c bs k.1)

pub pieces_front : (c : ℕ) (p rest : Bytes) → free c p ≡ true → pieces c (p ++ (c ∷ rest)) ≡ p ∷ pieces c rest
pieces_front c [] rest h = ap (λ t. piece_with t c (pieces c rest)) (eq-eqb c c refl)
pieces_front c (b ∷ bs) rest h =
    let k = and_parts (not (eqb b c)) (free c bs) h in
    ap (λ t. piece_with t b (pieces c (bs ++ (c ∷ rest)))) (not-true (eqb b c) k.0) ∙ ap (piece_with false b) (pieces_front c bs rest k.1)

-- cut again, joined pieces are the pieces
pieces_behind : (c : ℕ) (p : Bytes) (ps : List Bytes) → free c p ≡ true → every (free c) ps ≡ true → pieces c (p ++ behind c ps) ≡ p ∷ ps
pieces_behind c p [] h hs = ap (pieces c) (append-nil p) ∙ pieces_one c p h
pieces_behind c p (q ∷ qs) h hs =
    let k = and_parts (free c q) (every (free c) qs) hs in
    pieces_front c p (q ++ behind c qs) h ∙ ap (λ r. p ∷ r) (pieces_behind c q qs k.0 k.1)

pub pieces_of_joined : (c : ℕ) (ps : List Bytes) → is_empty ps ≡ false → every (free c) ps ≡ true → pieces c (joined c ps) ≡ ps
pieces_of_joined c [] some h = absurd (true≢false some)
pieces_of_joined c (p ∷ ps) some h =
    let k = and_parts (free c p) (every (free c) ps) h in
    pieces_behind c p ps k.0 k.1

-- pieces with a terminator behind each: cut, one more piece that is empty
pub pieces_of_terminated : (c : ℕ) (ps : List Bytes) → every (free c) ps ≡ true → pieces c (terminated c ps) ≡ ps ++ ([] ∷ [])
pieces_of_terminated c [] h = refl
pieces_of_terminated c (p ∷ ps) h =
    let k = and_parts (free c p) (every (free c) ps) h in
    pieces_front c p (terminated c ps) k.0 ∙ ap (λ r. p ∷ r) (pieces_of_terminated c ps k.1)

pub last_of_terminated : (ps : List Bytes) → last_is_empty (ps ++ ([] ∷ [])) ≡ true
last_of_terminated [] = refl
last_of_terminated (p ∷ []) = refl
last_of_terminated (p ∷ (q ∷ ps)) = last_of_terminated (q ∷ ps)

pub without_last_of_terminated : (ps : List Bytes) → without_last (ps ++ ([] ∷ [])) ≡ ps
without_last_of_terminated [] = refl
without_last_of_terminated (p ∷ []) = refl
without_last_of_terminated (p ∷ (q ∷ ps)) = ap (λ r. p ∷ r) (without_last_of_terminated (q ∷ ps))

-- pieces of which the last is empty: the others with a terminator behind each
empty_is : (p : Bytes) → is_empty p ≡ true → p ≡ []
empty_is [] h = refl
empty_is (b ∷ bs) h = absurd (false≢true h)

pub terminated_without_last : (c : ℕ) (ps : List Bytes) → last_is_empty ps ≡ true → terminated c (without_last ps) ≡ joined c ps
terminated_without_last c [] h = refl
terminated_without_last c (p ∷ []) h = sym (append-nil p ∙ empty_is p h)
terminated_without_last c (p ∷ (q ∷ ps)) h = ap (λ r. p ++ (c ∷ r)) (terminated_without_last c (q ∷ ps) h)

-- The first separator

pub cut_front : (c : ℕ) (p rest : Bytes) → free c p ≡ true → cut c (p ++ (c ∷ rest)) ≡ found p rest
cut_front c [] rest h = ap (λ t. cut_with t c rest (cut c rest)) (eq-eqb c c refl)
cut_front c (b ∷ bs) rest h =
    let k = and_parts (not (eqb b c)) (free c bs) h in
    ap (λ t. cut_with t b (bs ++ (c ∷ rest)) (cut c (bs ++ (c ∷ rest)))) (not-true (eqb b c) k.0) ∙ ap (cut_with false b (bs ++ (c ∷ rest))) (cut_front c bs rest k.1)

-- what a cut says of the bytes
pub record FirstAt (c : ℕ) (bs p rest : Bytes) : Type 0 where
  pub bytes : bs ≡ p ++ (c ∷ rest)
  pub none_before : free c p ≡ true

abbrev pub CutSo : ℕ → Bytes → Cut → Type 0
CutSo c bs (found p rest) = FirstAt c bs p rest
CutSo c bs absent = free c bs ≡ true

cut_so_with : (t : Bool) (c b : ℕ) (bs : Bytes) (k : Cut) → eqb b c ≡ t → CutSo c bs k → CutSo c (b ∷ bs) (cut_with t b bs k)
cut_so_with true c b bs k e h = record { bytes = ap (λ x. x ∷ bs) (eqb-true b c e); none_before = refl }
cut_so_with false c b bs (found p rest) e h = record { bytes = ap (λ r. b ∷ r) h.bytes; none_before = both_true (ap not e) h.none_before }
cut_so_with false c b bs absent e h = both_true (ap not e) h

pub cut_so : (c : ℕ) (bs : Bytes) → CutSo c bs (cut c bs)
cut_so c [] = refl
cut_so c (b ∷ bs) = cut_so_with (eqb b c) c b bs (cut c bs) refl (cut_so c bs)

-- Tests of all bytes, and of all bytes of all pieces

every_behind : (test : ℕ → Bool) (c : ℕ) (ps : List Bytes) → test c ≡ true → every (every test) ps ≡ true → every test (behind c ps) ≡ true
every_behind test c [] hc h = refl
every_behind test c (p ∷ ps) hc h =
    let k = and_parts (every test p) (every (every test) ps) h in
    both_true hc (every_append test p (behind c ps) k.0 (every_behind test c ps hc k.1))

pub every_joined : (test : ℕ → Bool) (c : ℕ) (ps : List Bytes) → test c ≡ true → every (every test) ps ≡ true → every test (joined c ps) ≡ true
every_joined test c [] hc h = refl
every_joined test c (p ∷ ps) hc h =
    let k = and_parts (every test p) (every (every test) ps) h in
    every_append test p (behind c ps) k.0 (every_behind test c ps hc k.1)

pub every_terminated : (test : ℕ → Bool) (c : ℕ) (ps : List Bytes) → test c ≡ true → every (every test) ps ≡ true → every test (terminated c ps) ≡ true
every_terminated test c [] hc h = refl
every_terminated test c (p ∷ ps) hc h =
    let k = and_parts (every test p) (every (every test) ps) h in
    every_append test p (c ∷ terminated c ps) k.0 (both_true hc (every_terminated test c ps hc k.1))

-- a byte that passes a test is the separator, or passes the test of pieces
abbrev pub OrSeparator : ℕ → (ℕ → Bool) → (ℕ → Bool) → Type 0
OrSeparator c test inner = (b : ℕ) → test b ≡ true → eqb b c ≡ false → inner b ≡ true

every_with : (inner : ℕ → Bool) (t : Bool) (b : ℕ) (ps : List Bytes) → (t ≡ false → inner b ≡ true) → every (every inner) ps ≡ true → every (every inner) (piece_with t b ps) ≡ true
every_with inner true b ps hb h = h
every_with inner false b [] hb h = both_true (both_true (hb refl) refl) refl
every_with inner false b (p ∷ ps) hb h =
    let k = and_parts (every inner p) (every (every inner) ps) h in
    both_true (both_true (hb refl) k.0) k.1

pub every_pieces : (test inner : ℕ → Bool) (c : ℕ) → OrSeparator c test inner → (bs : Bytes) → every test bs ≡ true → every (every inner) (pieces c bs) ≡ true
every_pieces test inner c or [] h = refl
every_pieces test inner c or (b ∷ bs) h =
    let k = and_parts (test b) (every test bs) h in
    every_with inner (eqb b c) b (pieces c bs) (or b k.0) (every_pieces test inner c or bs k.1)
