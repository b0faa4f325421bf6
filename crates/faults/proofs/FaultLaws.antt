-- The faults of fields and elements by the tests that the code makes; a turn of the search for the first; and where a fault starts lies in the body.
use Rattle.std.specs.Prelude.{None, Option, Some}
use Prim.Native.Nat.{ℕ, zero, suc, ◌+◌, ◌≤◌}
use mathlib.Core.Path.{◌≡◌, refl, sym, ap, ◌∙◌}
use mathlib.Core.Bool.{Bool, true, false, not, ◌&&◌, ◌||◌, cond}
use mathlib.Core.List.{List, [], ◌∷◌}
use native.Mathlib.Omega.{arith}
use borrow.Author.Tests.{lt-ltb, lt-leb}
use lib.ListN.{length, get_or, drop, length-append}
use lib.Seq.{drop-nil}
use lib.Dec.{leb, ltb, leb-suc-suc}
use Rattle.label.specs.declared.Reason.{Reason}
use Rattle.label.specs.declared.Reason.TheVariants.{BadFieldCount, FieldTooShort, FieldTooLong, BadFieldBytes}
use Rattle.label.specs.Bytes.{Bytes, GS, plain, every, is_empty}
use Rattle.label.specs.Pieces.{pieces, last_is_empty}
use Rattle.label.specs.Limits.{limit_of, long_as}
use Rattle.label.specs.declared.Version.{Version}
use Rattle.label.specs.Elements.{element05, element06, element12}
use Rattle.label.specs.Fields.{field_bytes, version_row, most_fields, least_fields, field}
use Rattle.label.specs.Faults.{fault_or, first_fault, element_fault, left_out, field_fault, count_fits, fields_fault, elements_fault, in_piece}
use Rattle.label.proofs.Faults.{not_leb}
use Rattle.label.proofs.Splitting.{joined, joined_pieces}
use Rattle.leaves.specs.Seek.{tally_of}
use Rattle.pieces.specs.declared.Kind.{Kind}
use Rattle.pieces.specs.declared.Kind.TheVariants.{Fields, Segments03, Segments04, Elements05, Elements06, Text, Elements12}
use Rattle.bodies.proofs.RuleLaws.{pieces_count}
use Rattle.faults.specs.PieceFaults.{field_reason, piece_fault, fields_fault_of, fault_of}
use Rattle.label.specs.declared.Refusal.{Refusal}

-- Fields

-- a field that isn't as stated and fits its limits has wrong bytes
field_fault_by : (v : Version) (i : ℕ) (f : Bytes) → cond (field v i f) None (Some (field_reason v i (length f))) ≡ field_fault v i f
unfolding field field_fault long_as
field_fault_by v i f =
    (λ j. cond (leb least (length f) && leb (length f) greatest && right || left_out i f) None (Some (cond (not_leb (length f) least j) FieldTooShort (cond (not_leb greatest (length f) j) FieldTooLong BadFieldBytes))))
    ∙ by (leb least (length f)) (leb (length f) greatest) right (left_out i f)
    ∙ (λ j. cond (left_out i f) None (cond (sym (not_leb (length f) least) j) (Some FieldTooShort) (cond (sym (not_leb greatest (length f)) j) (Some FieldTooLong) (cond right None (Some BadFieldBytes)))))
  where
    least : ℕ
    least = (limit_of (version_row v) i).0

    greatest : ℕ
    greatest = (limit_of (version_row v) i).1

    right : Bool
    right = get_or (field_bytes v) i (every plain) f

    by : (l g b out : Bool) → cond (l && g && b || out) None (Some (cond (not l) FieldTooShort (cond (not g) FieldTooLong BadFieldBytes)))
        ≡ cond out None (cond (not l) (Some FieldTooShort) (cond (not g) (Some FieldTooLong) (cond b None (Some BadFieldBytes))))
    by true true true true = refl
    by true true true false = refl
    by true true false true = refl
    by true true false false = refl
    by true false b true = refl
    by true false b false = refl
    by false g b true = refl
    by false g b false = refl

-- the last of those past the k-th is empty
last_past : (k : ℕ) (ps : List Bytes) → (ltb k (length ps) && last_is_empty ps) ≡ last_is_empty (drop k ps)
last_past zero [] = refl
last_past zero (p ∷ ps) = ap (λ t. t && last_is_empty (p ∷ ps)) (lt-ltb 0 (suc (length ps)) (omega arith))
last_past (suc k) [] = ap (λ t. t && false) (lt-leb (suc (suc k)) 0 (omega arith))
last_past (suc k) (p ∷ []) = ap (λ t. t && is_empty p) (lt-leb (suc (suc k)) 1 (omega arith)) ∙ sym (ap last_is_empty (drop-nil k))
last_past (suc k) (p ∷ (q ∷ ps)) = ap (λ t. t && last_is_empty (q ∷ ps)) (leb-suc-suc (suc k) (suc (length ps))) ∙ last_past k (q ∷ ps)

-- the code's tests of the number of fields, of the last one and of each are the definition's
pub in_fields : (v : Version) (body : Bytes) → fields_fault_of (piece_fault (Fields v)) (most_fields v) body ≡ fields_fault v body
unfolding fields_fault
in_fields v body =
    (λ j. cond (ltb (count j) least_fields || ltb (most_fields v) (count j)) (in_piece BadFieldCount 0)
    (cond (ltb least_fields (count j) && last_is_empty ps) (in_piece BadFieldCount (length body)) (first_fault (λ i f. field_fault_by v i f j) 0 0 ps)))
    ∙ (λ j. cond (not_leb (length ps) least_fields j || not_leb (most_fields v) (length ps) j) (in_piece BadFieldCount 0) (cond (last_past least_fields ps j) (in_piece BadFieldCount (length body)) (first_fault (field_fault v) 0 0 ps)))
    ∙ by (leb least_fields (length ps)) (leb (length ps) (most_fields v)) (in_piece BadFieldCount 0) _
  where
    ps : List Bytes
    ps = pieces GS body

    count : tally_of GS body + 1 ≡ length ps
    count = sym (pieces_count GS body)

    by : (enough few : Bool) (x y : Option Refusal) → cond (not enough || not few) x y ≡ cond (enough && few) y x
    by true true x y = refl
    by true false x y = refl
    by false few x y = refl

-- The search for the first

-- a turn: the piece with its fault, or the next
pub fault_here : (fault_of : ℕ → Bytes → Option Reason) (i at : ℕ) (p : Bytes) (ps qs : List Bytes) (r : Reason) → qs ≡ p ∷ ps → fault_of i p ≡ Some r → in_piece r at ≡ first_fault fault_of i at qs
fault_here fault_of i at p ps qs r is faulty = sym (ap (first_fault fault_of i at) is ∙ ap (λ x. fault_or x at (first_fault fault_of (i + 1) (at + length p + 1) ps)) faulty)

pub fault_later : (fault_of : ℕ → Bytes → Option Reason) (i at next : ℕ) (p : Bytes) (ps qs : List Bytes) → qs ≡ p ∷ ps → fault_of i p ≡ None → next ≡ at + length p + 1
    → first_fault fault_of (i + 1) next ps ≡ first_fault fault_of i at qs
fault_later fault_of i at next p ps qs is faultless there =
    ap (λ n. first_fault fault_of (i + 1) n ps) there ∙ sym (ap (first_fault fault_of i at) is ∙ ap (λ x. fault_or x at (first_fault fault_of (i + 1) (at + length p + 1) ps)) faultless)

pub fault_nowhere : (fault_of : ℕ → Bytes → Option Reason) (i at : ℕ) (qs : List Bytes) → qs ≡ [] → None ≡ first_fault fault_of i at qs
fault_nowhere fault_of i at qs is = sym (ap (first_fault fault_of i at) is)

-- Where a fault starts lies in the body or at its end

-- a fault's place, 0 where there is none
abbrev place_of : Option Refusal → ℕ
place_of (Some fault) = fault.place
place_of None = 0

first_inside : (fault_of : ℕ → Bytes → Option Reason) (p : Bytes) (ps : List Bytes) (i at : ℕ) (r : Reason) (n : ℕ) → first_fault fault_of i at (p ∷ ps) ≡ in_piece r n → n ≤ at + length (joined GS (p ∷ ps))
first_inside fault_of p [] i at r n found = by (fault_of i p) found
  where
    by : (x : Option Reason) → fault_or x at None ≡ in_piece r n → n ≤ at + length (joined GS (p ∷ []))
    by (Some r') found = let here : at ≡ n = ap place_of found in omega arith
    by None found = let z : ◌≡◌ {A = ℕ} 0 1 = cc in absurd (omega arith)
first_inside fault_of p (q ∷ qs) i at r n found = by (fault_of i p) found (first_inside fault_of q qs (i + 1) (at + length p + 1) r n)
  where
    later : Option Refusal
    later = first_fault fault_of (i + 1) (at + length p + 1) (q ∷ qs)

    by : (x : Option Reason) → fault_or x at later ≡ in_piece r n → (later ≡ in_piece r n → n ≤ at + length p + 1 + length (joined GS (q ∷ qs))) → n ≤ at + length (joined GS (p ∷ (q ∷ qs)))
    by (Some r') found behind = let here : at ≡ n = ap place_of found in omega arith
    by None found behind = let inside = behind found in omega (arith, length-append p (GS ∷ joined GS (q ∷ qs)))

pieces_inside : (fault_of : ℕ → Bytes → Option Reason) (body : Bytes) (r : Reason) (n : ℕ) → first_fault fault_of 0 0 (pieces GS body) ≡ in_piece r n → n ≤ length body
pieces_inside fault_of body r n found = by (pieces GS body) found (ap length (joined_pieces GS body))
  where
    by : (ps : List Bytes) → first_fault fault_of 0 0 ps ≡ in_piece r n → length (joined GS ps) ≡ length body → n ≤ length body
    by [] found long = let z : ◌≡◌ {A = ℕ} 0 1 = cc in absurd (omega arith)
    by (p ∷ ps) found long = let here = first_inside fault_of p ps 0 0 r n found in omega arith

fields_inside : (v : Version) (body : Bytes) (r : Reason) (n : ℕ) → fields_fault v body ≡ in_piece r n → n ≤ length body
unfolding fields_fault
fields_inside v body r n found = by (count_fits v (pieces GS body)) (last_is_empty (drop least_fields (pieces GS body))) found
  where
    by : (fits empty : Bool) → cond fits (cond empty (in_piece BadFieldCount (length body)) (first_fault (field_fault v) 0 0 (pieces GS body))) (in_piece BadFieldCount 0) ≡ in_piece r n → n ≤ length body
    by true true found = let here : length body ≡ n = ap place_of found in omega arith
    by true false found = pieces_inside (field_fault v) body r n found
    by false empty found = let here : 0 ≡ n = ap place_of found in omega arith

pub fault_inside : (k : Kind) (body : Bytes) (r : Reason) (n : ℕ) → fault_of k body ≡ in_piece r n → n ≤ length body
unfolding elements_fault
fault_inside (Fields v) body r n found = fields_inside v body r n found
fault_inside Segments03 body r n found = let z : ◌≡◌ {A = ℕ} 0 1 = cc in absurd (omega arith)
fault_inside Segments04 body r n found = let z : ◌≡◌ {A = ℕ} 0 1 = cc in absurd (omega arith)
fault_inside Elements05 body r n found = pieces_inside (element_fault element05) body r n found
fault_inside Elements06 body r n found = pieces_inside (element_fault element06) body r n found
fault_inside Elements12 body r n found = pieces_inside (element_fault element12) body r n found
fault_inside Text body r n found = let z : ◌≡◌ {A = ℕ} 0 1 = cc in absurd (omega arith)
