-- A fault that is found is there, and one that is there is found: the first faulty piece of pieces, and what is wrong with fields and elements whose rules
-- don't hold. The pieces in front of the faulty one, each with its separator, are as long as its offset says.
use Rattle.std.specs.Prelude.{None, Option, Some}
use Prim.Native.Nat.{ℕ, zero, suc, ◌+◌, ◌≤◌}
use mathlib.Core.Path.{◌≡◌, refl, sym, ap, ◌∙◌}
use mathlib.Core.Bool.{Bool, true, false, not, ◌&&◌, ◌||◌, cond, true≢false, false≢true}
use mathlib.Core.List.{List, [], ◌∷◌, ◌++◌, append_assoc, append-nil}
use native.Mathlib.Omega.{arith}
use borrow.Author.Tests.{ltb-true, ltb-false, leb-true, lt-ltb, le-ltb, le-leb}
use lib.ListN.{length, get_or, drop, length-append}
use lib.Seq.{drop-nil}
use lib.Dec.{leb, ltb}
use Rattle.std.proofs.lemmas.Bool.Decides.{nat_tests}
use Rattle.std.proofs.lemmas.Bool.{and_parts, and_right, cond-true, cond-false}
use Rattle.std.specs.Cmp.Derive.{both_true}
use Rattle.label.specs.declared.Reason.{Reason}
use Rattle.label.specs.declared.Reason.TheVariants.{BodyBreaksRules, BadFieldCount, FieldTooShort, FieldTooLong, BadFieldBytes}
use Rattle.label.specs.Bytes.{Bytes, GS, plain, every}
use Rattle.label.specs.Pieces.{last_is_empty, without_last}
use Rattle.label.specs.declared.Limit.{Limit}
use Rattle.label.specs.Limits.{limits, limit_of, long_as, ◌to◌}
use Rattle.label.specs.declared.Version.{Version}
use Rattle.label.specs.declared.Version.TheVariants.{Version02, Version96}
use Rattle.label.specs.Fields.{field_bytes, version_row, least_fields, field, fields_from, transport}
use Rattle.label.specs.Faults.{fault_or, first_fault, element_fault, left_out, field_fault, count_fits, fields_fault_by, in_piece}
use Rattle.label.specs.Lacking.{FieldLacks, too_short, too_long, bad_bytes, FieldsLack, bad_count, empty_last, at_field, ElementsLack, at_element}
use Rattle.label.proofs.Splitting.{behind, joined, terminated, last_of_terminated, terminated_without_last}
use Rattle.label.specs.declared.Refusal.{Refusal}

-- Pieces in front of one

-- pieces joined are those in front, each with its separator, and then the others joined
behind_more : (c : ℕ) (front : List Bytes) (p : Bytes) (more : List Bytes) → behind c (front ++ (p ∷ more)) ≡ c ∷ joined c (front ++ (p ∷ more))
behind_more c [] p more = refl
behind_more c (q ∷ front) p more = refl

joined_at : (c : ℕ) (front : List Bytes) (p : Bytes) (more : List Bytes) → joined c (front ++ (p ∷ more)) ≡ terminated c front ++ joined c (p ∷ more)
joined_at c [] p more = refl
joined_at c (q ∷ front) p more =
    ap (λ x. q ++ x) (behind_more c front p more ∙ ap (λ x. c ∷ x) (joined_at c front p more))
    ∙ sym (append_assoc q (c ∷ terminated c front) (joined c (p ∷ more)))

-- bytes that begin with the pieces in front of a fault, each with its GS
pub record Ahead (body : Bytes) (front : List Bytes) : Type 0 where
  pub tail : Bytes
  pub is : body ≡ terminated GS front ++ tail

ahead_of : (ps front : List Bytes) (p : Bytes) (more : List Bytes) → ps ≡ front ++ (p ∷ more) → Ahead (joined GS ps) front
ahead_of ps front p more list = record { tail = joined GS (p ∷ more); is = ap (joined GS) list ∙ joined_at GS front p more }

-- a piece more in front
terminated_longer : (c : ℕ) (p : Bytes) (ps : List Bytes) (at : ℕ) → (at + length p + 1) + length (terminated c ps) ≡ at + length (terminated c (p ∷ ps))
terminated_longer c p ps at = omega (arith, length-append p (c ∷ terminated c ps))

-- The first faulty piece

abbrev is_faultless : Option Reason → Bool
is_faultless (Some r) = false
is_faultless None = true

-- each faultless, numbered from i on
abbrev faultless_from : (ℕ → Bytes → Option Reason) → ℕ → List Bytes → Bool
faultless_from fault_of i [] = true
faultless_from fault_of i (p ∷ ps) = is_faultless (fault_of i p) && faultless_from fault_of (i + 1) ps

-- a piece with its reason, behind faultless ones, is what is found first
record FirstFaulty (fault_of : ℕ → Bytes → Option Reason) (i at : ℕ) (ps : List Bytes) : Type 0 where
  front : List Bytes
  piece : Bytes
  more : List Bytes
  reason : Reason
  list : ps ≡ front ++ (piece ∷ more)
  faultless : faultless_from fault_of i front ≡ true
  faulty : fault_of (i + length front) piece ≡ Some reason
  found : first_fault fault_of i at ps ≡ in_piece reason (at + length (terminated GS front))

module _ (fault_of : ℕ → Bytes → Option Reason) where
  first_so : (ps : List Bytes) (i at : ℕ) → faultless_from fault_of i ps ≡ false → FirstFaulty fault_of i at ps
  first_so [] i at not_all = absurd (true≢false not_all)
  first_so (p ∷ ps) i at not_all = by (fault_of i p) refl not_all (first_so ps (i + 1) (at + length p + 1))
    where
      by : (x : Option Reason) → fault_of i p ≡ x → (is_faultless x && faultless_from fault_of (i + 1) ps) ≡ false
          → (faultless_from fault_of (i + 1) ps ≡ false → FirstFaulty fault_of (i + 1) (at + length p + 1) ps) → FirstFaulty fault_of i at (p ∷ ps)
      by (Some r) is not_all among = record {
        front = [];
        piece = p;
        more = ps;
        reason = r;
        list = refl;
        faultless = refl;
        faulty = ap (λ n. fault_of n p) (omega arith) ∙ is;
        found = ap (λ x. fault_or x at (first_fault fault_of (i + 1) (at + length p + 1) ps)) is ∙ ap (in_piece r) (omega arith);
      }
      by None is not_all among =
          let later = among not_all in
          record {
            front = p ∷ later.front;
            piece = later.piece;
            more = later.more;
            reason = later.reason;
            list = ap (λ x. p ∷ x) later.list;
            faultless = both_true (ap is_faultless is) later.faultless;
            faulty = ap (λ n. fault_of n later.piece) (omega arith) ∙ later.faulty;
            found = ap (λ x. fault_or x at (first_fault fault_of (i + 1) (at + length p + 1) ps)) is
                ∙ later.found
                ∙ ap (in_piece later.reason) (terminated_longer GS p later.front at);
          }

  not_all_with : (front : List Bytes) (i : ℕ) (p : Bytes) (more : List Bytes) (r : Reason) → fault_of (i + length front) p ≡ Some r → faultless_from fault_of i (front ++ (p ∷ more)) ≡ false
  not_all_with [] i p more r faulty = ap (λ x. is_faultless x && faultless_from fault_of (i + 1) more) (ap (λ n. fault_of n p) (omega arith) ∙ faulty)
  not_all_with (q ∷ front) i p more r faulty =
      and_right (is_faultless (fault_of i q)) _ (not_all_with front (i + 1) p more r (ap (λ n. fault_of n p) (omega arith) ∙ faulty))

  first_pass : (front : List Bytes) (i at : ℕ) (p : Bytes) (more : List Bytes) (r : Reason) → faultless_from fault_of i front ≡ true → fault_of (i + length front) p ≡ Some r
      → first_fault fault_of i at (front ++ (p ∷ more)) ≡ in_piece r (at + length (terminated GS front))
  first_pass [] i at p more r faultless faulty =
      ap (λ x. fault_or x at (first_fault fault_of (i + 1) (at + length p + 1) more)) (ap (λ n. fault_of n p) (omega arith) ∙ faulty) ∙ ap (in_piece r) (omega arith)
  first_pass (q ∷ front) i at p more r faultless faulty =
      let k = and_parts (is_faultless (fault_of i q)) (faultless_from fault_of (i + 1) front) faultless in
      ap (λ x. fault_or x at (first_fault fault_of (i + 1) (at + length q + 1) (front ++ (p ∷ more)))) (none (fault_of i q) k.0)
      ∙ first_pass front (i + 1) (at + length q + 1) p more r k.1 (ap (λ n. fault_of n p) (omega arith) ∙ faulty)
      ∙ ap (in_piece r) (terminated_longer GS q front at)
    where
      none : (x : Option Reason) → is_faultless x ≡ true → x ≡ None
      none (Some r) is = absurd (false≢true is)
      none None is = refl

-- Elements

elements_agree : (is_element : Bytes → Bool) (es : List Bytes) (i : ℕ) → faultless_from (element_fault is_element) i es ≡ every is_element es
unfolding element_fault
elements_agree is_element [] i = refl
elements_agree is_element (e ∷ es) i = λ j. by (is_element e) j && elements_agree is_element es (i + 1) j
  where
    by : (t : Bool) → is_faultless (cond t None (Some BodyBreaksRules)) ≡ t
    by true = refl
    by false = refl

-- what is found in a body: its reason, and how long the pieces in front of it are
pub record FoundIn (Lacks : List Bytes → Reason → Type 0) (found : Option Refusal) : Type 0 where
  pub front : List Bytes
  pub reason : Reason
  pub fault : Lacks front reason
  pub is : found ≡ in_piece reason (length (terminated GS front))

pub elements_fault_so : (is_element : Bytes → Bool) (es : List Bytes) → every is_element es ≡ false → FoundIn (ElementsLack is_element es) (first_fault (element_fault is_element) 0 0 es)
unfolding element_fault
elements_fault_so is_element es broken =
    let first = first_so (element_fault is_element) es 0 0 (elements_agree is_element es 0 ∙ broken) in
    let this = by (is_element first.piece) refl first.reason first.faulty in
    record {
      front = first.front;
      reason = first.reason;
      fault = at_element this.0 (sym (elements_agree is_element first.front 0) ∙ first.faultless) first.piece first.more first.list this.1;
      is = first.found ∙ ap (in_piece first.reason) (omega arith);
    }
  where
    by : {e : Bytes} (t : Bool) → is_element e ≡ t → (r : Reason) → cond t None (Some BodyBreaksRules) ≡ Some r → (r ≡ BodyBreaksRules) × (is_element e ≡ false)
    by true is r faulty = let z : ◌≡◌ {A = ℕ} 0 1 = cc in absurd (omega arith)
    by false is r faulty = (cc, is)

pub record Told (rules : Bool) (found : Option Refusal) (front : List Bytes) (r : Reason) : Type 0 where
  pub broken : rules ≡ false
  pub is : found ≡ in_piece r (length (terminated GS front))

pub elements_fault_pass : (is_element : Bytes → Bool) (es front : List Bytes) (r : Reason) → ElementsLack is_element es front r → Told (every is_element es) (first_fault (element_fault is_element) 0 0 es) front r
unfolding element_fault
elements_fault_pass is_element es front r (at_element why faultless e more list faulty) =
    let this : element_fault is_element (length front) e ≡ Some r = cond-false (is_element e) _ _ faulty ∙ ap Some (sym why) in
    record {
      broken = sym (elements_agree is_element es 0) ∙ ap (faultless_from (element_fault is_element) 0) list ∙ not_all_with (element_fault is_element) front 0 e more r this;
      is = ap (first_fault (element_fault is_element) 0 0) list ∙ first_pass (element_fault is_element) front 0 0 e more r (elements_agree is_element front 0 ∙ faultless) this ∙ ap (in_piece r) (omega arith);
    }

pub elements_ahead : (is_element : Bytes → Bool) (es front : List Bytes) (r : Reason) → ElementsLack is_element es front r → Ahead (joined GS es) front
elements_ahead is_element es front r (at_element why faultless e more list faulty) = ahead_of es front e more list

-- Fields

-- one number is below another exactly if that isn't at most it
pub not_leb : (a b : ℕ) → ltb a b ≡ not (leb b a)
not_leb a b = grind (arith, nat_tests)

-- no least length is above its greatest, so a field that is too long isn't too short
ordered_in : (row : List Limit) → every (λ l. leb l.0 l.1) row ≡ true → (i : ℕ) → (get_or row i (0 to 0)).0 ≤ (get_or row i (0 to 0)).1
ordered_in [] h i = omega arith
ordered_in (l ∷ row) h zero = leb-true l.0 l.1 (and_parts (leb l.0 l.1) (every (λ l. leb l.0 l.1) row) h).0
ordered_in (l ∷ row) h (suc i) = ordered_in row (and_parts (leb l.0 l.1) (every (λ l. leb l.0 l.1) row) h).1 i

limits_ordered : (v : Version) (i : ℕ) → (limit_of (version_row v) i).0 ≤ (limit_of (version_row v) i).1
limits_ordered Version02 i = ordered_in (get_or limits 0 []) refl i
limits_ordered Version96 i = ordered_in (get_or limits 1 []) refl i

module _ (v : Version) where
  abbrev least : ℕ → ℕ
  least i = (limit_of (version_row v) i).0

  abbrev greatest : ℕ → ℕ
  greatest i = (limit_of (version_row v) i).1

  abbrev right : ℕ → Bytes → Bool
  right i f = get_or (field_bytes v) i (every plain) f

  -- a field as the tests of its fault have it
  abbrev fault_by : Bool → Bool → Bool → Bool → Option Reason
  fault_by out short long ok = cond out None (cond short (Some FieldTooShort) (cond long (Some FieldTooLong) (cond ok None (Some BadFieldBytes))))

  field_agrees : (i : ℕ) (f : Bytes) → is_faultless (field_fault v i f) ≡ field v i f
  unfolding field_fault field long_as
  field_agrees i f =
      (λ j. is_faultless (fault_by (left_out i f) (not_leb (length f) (least i) j) (not_leb (greatest i) (length f) j) (right i f)))
      ∙ by (leb (least i) (length f)) (leb (length f) (greatest i)) (right i f) (left_out i f)
    where
      by : (l g b out : Bool) → is_faultless (fault_by out (not l) (not g) b) ≡ (l && g && b || out)
      by true true true true = refl
      by true true true false = refl
      by true true false true = refl
      by true true false false = refl
      by true false b true = refl
      by true false b false = refl
      by false g b true = refl
      by false g b false = refl

  fields_agree : (fs : List Bytes) (i : ℕ) → faultless_from (field_fault v) i fs ≡ fields_from v i fs
  unfolding fields_from
  fields_agree [] i = refl
  fields_agree (f ∷ fs) i = λ j. field_agrees i f j && fields_agree fs (i + 1) j

  record FieldSo (i : ℕ) (f : Bytes) (r : Reason) : Type 0 where
    stands : left_out i f ≡ false
    lacks : FieldLacks v i f r

  field_fault_so : (i : ℕ) (f : Bytes) (r : Reason) → field_fault v i f ≡ Some r → FieldSo i f r
  unfolding field_fault long_as
  field_fault_so i f r is =
      by (left_out i f) (ltb (length f) (least i)) (ltb (greatest i) (length f)) (right i f) refl refl refl refl is
    where
      by : (out short long ok : Bool) → left_out i f ≡ out → ltb (length f) (least i) ≡ short → ltb (greatest i) (length f) ≡ long
          → right i f ≡ ok → fault_by out short long ok ≡ Some r → FieldSo i f r
      by true short long ok o s l b is = let z : ◌≡◌ {A = ℕ} 0 1 = cc in absurd (omega arith)
      by false true long ok o s l b is = record { stands = o; lacks = too_short (cc) (ltb-true (length f) (least i) s) }
      by false false true ok o s l b is = record { stands = o; lacks = too_long (cc) (ltb-true (greatest i) (length f) l) }
      by false false false true o s l b is = let z : ◌≡◌ {A = ℕ} 0 1 = cc in absurd (omega arith)
      by false false false false o s l b is =
          record { stands = o; lacks = bad_bytes (cc) (both_true (le-leb (least i) (length f) (ltb-false (length f) (least i) s)) (le-leb (length f) (greatest i) (ltb-false (greatest i) (length f) l))) b }

  field_fault_pass : (i : ℕ) (f : Bytes) (r : Reason) → left_out i f ≡ false → FieldLacks v i f r → field_fault v i f ≡ Some r
  unfolding field_fault long_as
  field_fault_pass i f r stands (too_short why short) =
      cond-false (left_out i f) _ _ stands ∙ cond-true (ltb (length f) (least i)) _ _ (lt-ltb (length f) (least i) short) ∙ ap Some (sym why)
  field_fault_pass i f r stands (too_long why long) =
      let order = limits_ordered v i in
      cond-false (left_out i f) _ _ stands
      ∙ cond-false (ltb (length f) (least i)) _ _ (le-ltb (length f) (least i) (omega arith))
      ∙ cond-true (ltb (greatest i) (length f)) _ _ (lt-ltb (greatest i) (length f) long)
      ∙ ap Some (sym why)
  field_fault_pass i f r stands (bad_bytes why fits wrong) =
      let k = and_parts (leb (least i) (length f)) (leb (length f) (greatest i)) fits in
      cond-false (left_out i f) _ _ stands
      ∙ cond-false (ltb (length f) (least i)) _ _ (le-ltb (length f) (least i) (leb-true (least i) (length f) k.0))
      ∙ cond-false (ltb (greatest i) (length f)) _ _ (le-ltb (greatest i) (length f) (leb-true (length f) (greatest i) k.1))
      ∙ cond-false (right i f) _ _ wrong
      ∙ ap Some (sym why)

-- an empty last one past some: the others stand in front of it
record LastEmpty (n : ℕ) (ps : List Bytes) : Type 0 where
  whole : last_is_empty ps ≡ true
  list : ps ≡ without_last ps ++ ([] ∷ [])
  past : n ≤ length (without_last ps)

last_empty_so : (n : ℕ) (ps : List Bytes) → last_is_empty (drop n ps) ≡ true → LastEmpty n ps
last_empty_so zero ps h = record { whole = h; list = by ps h; past = omega arith }
  where
    by : (ps : List Bytes) → last_is_empty ps ≡ true → ps ≡ without_last ps ++ ([] ∷ [])
    by [] h = absurd (false≢true h)
    by ([] ∷ []) h = refl
    by ((b ∷ bs) ∷ []) h = absurd (false≢true h)
    by (p ∷ (q ∷ ps)) h = ap (λ x. p ∷ x) (by (q ∷ ps) h)
last_empty_so (suc n) [] h = absurd (false≢true h)
last_empty_so (suc n) (p ∷ []) h = absurd (false≢true (sym (ap last_is_empty (drop-nil n)) ∙ h))
last_empty_so (suc n) (p ∷ (q ∷ ps)) h =
    let so = last_empty_so n (q ∷ ps) h in
    record { whole = so.whole; list = ap (λ x. p ∷ x) so.list; past = omega (arith, so.past) }

last_empty_pass : (n : ℕ) (front : List Bytes) → n ≤ length front → last_is_empty (drop n (front ++ ([] ∷ []))) ≡ true
last_empty_pass zero front past = last_of_terminated front
last_empty_pass (suc n) [] past = absurd (omega arith)
last_empty_pass (suc n) (p ∷ front) past = last_empty_pass n front (omega arith)

module _ (v : Version) where
  -- the rules of fields, by count, fields and last
  abbrev kept_by : Bool → Bool → Bool → Bool
  kept_by fits all empty = fits && all && not empty

  pub fields_fault_so : (fs : List Bytes) → transport v fs ≡ false → FoundIn (FieldsLack v fs) (fields_fault_by v (length (joined GS fs)) fs)
  unfolding transport
  fields_fault_so fs broken = by (count_fits v fs) (last_is_empty (drop least_fields fs)) (fields_from v 0 fs) refl refl refl broken
    where
      by : (fits empty all : Bool) → count_fits v fs ≡ fits → last_is_empty (drop least_fields fs) ≡ empty → fields_from v 0 fs ≡ all → kept_by fits all empty ≡ false
          → FoundIn (FieldsLack v fs) (cond fits (cond empty (in_piece BadFieldCount (length (joined GS fs))) (first_fault (field_fault v) 0 0 fs)) (in_piece BadFieldCount 0))
      by false empty all f e a broken = record { front = []; reason = BadFieldCount; fault = bad_count refl f refl; is = refl }
      by true true all f e a broken =
          let last = last_empty_so least_fields fs e in
          record {
            front = without_last fs;
            reason = BadFieldCount;
            fault = empty_last refl f last.list last.past;
            is = ap (λ x. in_piece BadFieldCount (length x)) (sym (terminated_without_last GS fs last.whole));
          }
      by true false true f e a broken = absurd (true≢false broken)
      by true false false f e a broken =
          let first = first_so (field_fault v) fs 0 0 (fields_agree v fs 0 ∙ a) in
          let faulty : field_fault v (length first.front) first.piece ≡ Some first.reason = ap (λ n. field_fault v n first.piece) (omega arith) ∙ first.faulty in
          let this = field_fault_so v (length first.front) first.piece first.reason faulty in
          record {
            front = first.front;
            reason = first.reason;
            fault = at_field f e (sym (fields_agree v first.front 0) ∙ first.faultless) first.piece first.more first.list this.stands this.lacks;
            is = first.found ∙ ap (in_piece first.reason) (omega arith);
          }

  pub fields_fault_pass : (fs front : List Bytes) (r : Reason) → FieldsLack v fs front r → Told (transport v fs) (fields_fault_by v (length (joined GS fs)) fs) front r
  unfolding transport
  fields_fault_pass fs front r (bad_count why fits none) = record {
    broken = ap (λ t. kept_by t (fields_from v 0 fs) (last_is_empty (drop least_fields fs))) fits;
    is = cond-false (count_fits v fs) _ _ fits ∙ (λ i. in_piece (sym why i) (length (terminated GS (sym none i))));
  }
  fields_fault_pass fs front r (empty_last why fits list past) =
      let empty : last_is_empty (drop least_fields fs) ≡ true = ap (λ x. last_is_empty (drop least_fields x)) list ∙ last_empty_pass least_fields front past in
      let end : joined GS fs ≡ terminated GS front = ap (joined GS) list ∙ joined_at GS front [] [] ∙ append-nil (terminated GS front) in
      record {
        broken = and_right (count_fits v fs && fields_from v 0 fs) _ (ap not empty);
        is = cond-true (count_fits v fs) _ _ fits ∙ cond-true (last_is_empty (drop least_fields fs)) _ _ empty ∙ (λ i. in_piece (sym why i) (length (end i)));
      }
  fields_fault_pass fs front r (at_field fits full faultless f more list stands lacks) =
      let this : field_fault v (0 + length front) f ≡ Some r = ap (λ n. field_fault v n f) (omega arith) ∙ field_fault_pass v (length front) f r stands lacks in
      let not_all : fields_from v 0 fs ≡ false = sym (fields_agree v fs 0) ∙ ap (faultless_from (field_fault v) 0) list ∙ not_all_with (field_fault v) front 0 f more r this in
      record {
        broken = (λ i. kept_by (fits i) (not_all i) (full i));
        is = cond-true (count_fits v fs) _ _ fits
            ∙ cond-false (last_is_empty (drop least_fields fs)) _ _ full
            ∙ ap (first_fault (field_fault v) 0 0) list
            ∙ first_pass (field_fault v) front 0 0 f more r (fields_agree v front 0 ∙ faultless) this
            ∙ ap (in_piece r) (omega arith);
      }

  pub fields_ahead : (fs front : List Bytes) (r : Reason) → FieldsLack v fs front r → Ahead (joined GS fs) front
  fields_ahead fs front r (bad_count why fits none) = record { tail = joined GS fs; is = ap (λ x. terminated GS x ++ joined GS fs) (sym none) }
  fields_ahead fs front r (empty_last why fits list past) = ahead_of fs front [] [] list
  fields_ahead fs front r (at_field fits full faultless f more list stands lacks) = ahead_of fs front f more list
