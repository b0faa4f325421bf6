-- What a walk answers: a list of envelopes that are within their rules, in permitted places, and written out are the bytes walked over; or a refusal
-- at an envelope's start behind such envelopes, or at the message's end.
use Prim.Native.Nat.{ℕ, zero, suc, ◌<◌}
use mathlib.Core.Path.{◌≡◌, refl, sym, ap, ◌∙◌, subst}
use mathlib.Core.Bool.{Bool, true, false, ◌&&◌, ◌||◌, false≢true, not, and-true}
use mathlib.Core.Logic.{◌⊎◌, inl, inr}
use mathlib.Core.List.{List, [], ◌∷◌, ◌++◌}
use native.Mathlib.Omega.{arith}
use borrow.Author.Tests.{eqb-true}
use lib.ListN.{length}
use lib.Dec.{eqb}
use Rattle.std.specs.Cmp.Derive.{both_true}
use Rattle.std.proofs.lemmas.Bool.{and_right}
use Rattle.label.specs.declared.Reason.{Reason}
use Rattle.label.specs.declared.Reason.TheVariants.{NoTrailer, BytesAfterTrailer}
use Rattle.label.specs.Bytes.{Bytes, EOT, RS, is_empty}
use Rattle.label.specs.declared.Edition.{Edition}
use Rattle.label.specs.Layout.{bytes_of}
use Rattle.label.specs.Envelope.{Envelope, Within}
use Rattle.label.specs.Written.{parts}
use Rattle.label.specs.Message.{is_rest, Each}
use Rattle.label.specs.Place.{goes_on}
use Rattle.label.specs.ReadEnvelope.{Step, closed, whole, refuse, refuse_at, read_envelope}
use Rattle.label.specs.ReadMessage.{Outcome, read, refused, place_of, and_then, after_trailer, at_boundary, follow, walk}
use Rattle.label.proofs.EnvelopeSound.{RefusedSo, FaultSo, StepSo, ClosedSo, step_so}
use Rattle.label.proofs.MessageBytes.{closed_bytes, left_shorter}
use Rattle.label.proofs.Placed.{placed}

-- one envelope that takes all the bytes
pub record Alone (edition : Edition) (first : Bool) (bs : Bytes) (es : List Envelope) : Type 0 where
  pub one : Envelope
  pub only : es ≡ one ∷ []
  pub within : Within edition one
  pub takes_rest : is_rest one ≡ true
  pub is_first : first ≡ true
  pub bytes : bs ≡ bytes_of (parts one)

-- envelopes with an RS each, and EOT
pub record AllClosed (edition : Edition) (first : Bool) (bs : Bytes) (es : List Envelope) : Type 0 where
  pub one_or_more : is_empty es ≡ false
  pub within : Each (Within edition) es
  pub in_place : placed first es ≡ true
  pub bytes : bs ≡ closed_bytes es (EOT ∷ [])

-- the first may stand here, unless envelopes stand before
abbrev pub first_after : Bool → List Envelope → Bool
first_after first before = first && is_empty before

-- where a walk stops behind envelopes: at an envelope that is refused, in its body, at the end of the message, or behind its EOT
pub data StopsAt (edition : Edition) (m : Bytes) (first : Bool) (before : List Envelope) (rest : Bytes) (r : Reason) (p : ℕ) : Type 0 where
  in_envelope : RefusedSo edition rest r → (is_empty before || goes_on rest) ≡ true → read_envelope edition (first_after first before) rest ≡ refuse r → p ≡ place_of m rest → StopsAt edition m first before rest r p
  in_body : (from : Bytes) → FaultSo edition (first_after first before) rest r from → read_envelope edition (first_after first before) rest ≡ refuse_at r from → p ≡ place_of m from → StopsAt edition m first before rest r p
  at_end : is_empty before ≡ false → rest ≡ [] → r ≡ NoTrailer → p ≡ length m → StopsAt edition m first before rest r p
  behind_end : (more : Bytes) → is_empty before ≡ false → rest ≡ EOT ∷ more → is_empty more ≡ false → r ≡ BytesAfterTrailer → p ≡ place_of m more → StopsAt edition m first before rest r p

pub record Stopped (edition : Edition) (m : Bytes) (first : Bool) (bs : Bytes) (r : Reason) (p : ℕ) : Type 0 where
  pub before : List Envelope
  pub rest : Bytes
  pub within : Each (Within edition) before
  pub in_place : placed first before ≡ true
  pub bytes : bs ≡ closed_bytes before rest
  pub stops : StopsAt edition m first before rest r p

abbrev pub WalkSo : Edition → Bytes → Bool → Bytes → Outcome → Type 0
WalkSo edition m first bs (read es) = Alone edition first bs es ⊎ AllClosed edition first bs es
WalkSo edition m first bs (refused r p) = Stopped edition m first bs r p

module _ (edition : Edition) (m : Bytes) where
  -- an envelope in front of what a walk over the rest, which goes on, answers
  stops_later : (first : Bool) (e : Envelope) (left : Bytes) (before : List Envelope) (rest : Bytes) (r : Reason) (p : ℕ) → goes_on left ≡ true → left ≡ closed_bytes before rest
      → StopsAt edition m false before rest r p → StopsAt edition m first (e ∷ before) rest r p
  stops_later first e left before rest r p on bytes (in_envelope why due is place) = in_envelope why (later_due before bytes due) (ap (λ x. read_envelope edition x rest) (and_right first _ refl) ∙ is) place
    where
      later_due : (before : List Envelope) → left ≡ closed_bytes before rest → (is_empty before || goes_on rest) ≡ true → goes_on rest ≡ true
      later_due [] bytes due = sym (ap goes_on bytes) ∙ on
      later_due (e ∷ es) bytes due = due
  stops_later first e left before rest r p on bytes (in_body from so is place) =
      in_body from (subst (λ (x : Bool). FaultSo edition x rest r from) (sym (and_right first _ refl)) so) (ap (λ x. read_envelope edition x rest) (and_right first _ refl) ∙ is) place
  stops_later first e left before rest r p on bytes (at_end some none_left why place) = at_end refl none_left why place
  stops_later first e left before rest r p on bytes (behind_end more some is more_left why place) = behind_end more refl is more_left why place

  -- it stands where it may
  in_place_lem : (first : Bool) (bs : Bytes) (e : Envelope) (left : Bytes) (es : List Envelope) → ClosedSo edition first bs e left → placed false es ≡ true → placed first (e ∷ es) ≡ true
  in_place_lem first bs e left es so later = both_true (both_true so.in_place (ap not so.not_rest)) later

  in_front_lem : (first : Bool) (bs : Bytes) (e : Envelope) (left : Bytes) → ClosedSo edition first bs e left → goes_on left ≡ true → (o : Outcome) → WalkSo edition m false left o → WalkSo edition m first bs (and_then e o)
  in_front_lem first bs e left so on (read es) (inl alone) = absurd (false≢true alone.is_first)
  in_front_lem first bs e left so on (read es) (inr all) = inr record {
    one_or_more = refl;
    within = (so.within, all.within);
    in_place = in_place_lem first bs e left es so all.in_place;
    bytes = so.bytes ∙ ap (λ r. bytes_of (parts e) ++ (RS ∷ r)) all.bytes;
  }
  in_front_lem first bs e left so on (refused r p) stopped = record {
    before = e ∷ stopped.before;
    rest = stopped.rest;
    within = (so.within, stopped.within);
    in_place = in_place_lem first bs e left stopped.before so stopped.in_place;
    bytes = so.bytes ∙ ap (λ r. bytes_of (parts e) ++ (RS ∷ r)) stopped.bytes;
    stops = stops_later first e left stopped.before stopped.rest r p on stopped.bytes stopped.stops;
  }

  -- one envelope, and then EOT
  last_closed : (first : Bool) (bs : Bytes) (e : Envelope) (b : ℕ) → b ≡ EOT → ClosedSo edition first bs e (b ∷ []) → AllClosed edition first bs (e ∷ [])
  last_closed first bs e b is so = record {
    one_or_more = refl;
    within = (so.within, tt);
    in_place = in_place_lem first bs e (b ∷ []) [] so refl;
    bytes = so.bytes ∙ ap (λ x. bytes_of (parts e) ++ (RS ∷ (x ∷ []))) is;
  }

  behind_trailer : (first : Bool) (bs : Bytes) (e : Envelope) (b : ℕ) (more : Bytes) → b ≡ EOT → ClosedSo edition first bs e (b ∷ more) → WalkSo edition m first bs (and_then e (after_trailer m more))
  behind_trailer first bs e b [] is so = inr (last_closed first bs e b is so)
  behind_trailer first bs e b (x ∷ xs) is so = record {
    before = e ∷ [];
    rest = b ∷ (x ∷ xs);
    within = (so.within, tt);
    in_place = in_place_lem first bs e (b ∷ (x ∷ xs)) [] so refl;
    bytes = so.bytes;
    stops = behind_end (x ∷ xs) refl (ap (λ y. y ∷ (x ∷ xs)) is) refl refl refl;
  }

  boundary_so : (next : Bytes → Outcome) (first : Bool) (bs : Bytes) (e : Envelope) (left : Bytes) → ClosedSo edition first bs e left → WalkSo edition m false left (next left)
      → WalkSo edition m first bs (and_then e (at_boundary m next left))
  boundary_so next first bs e [] so later = record {
    before = e ∷ [];
    rest = [];
    within = (so.within, tt);
    in_place = in_place_lem first bs e [] [] so refl;
    bytes = so.bytes;
    stops = at_end refl refl refl refl;
  }
  boundary_so next first bs e (b ∷ more) so later = by (eqb b EOT) refl
    where
      by : (t : Bool) → eqb b EOT ≡ t → WalkSo edition m first bs (and_then e (elim t [ true ↦ after_trailer m more | false ↦ next (b ∷ more) ]))
      by true is = behind_trailer first bs e b more (eqb-true b EOT is) so
      by false is = in_front_lem first bs e (b ∷ more) so (ap not is) (next (b ∷ more)) later

  follow_so : (next : Bytes → Outcome) (first : Bool) (bs : Bytes) (s : Step) → read_envelope edition first bs ≡ s → StepSo edition first bs s
      → ((left : Bytes) → length left < length bs → WalkSo edition m false left (next left)) → WalkSo edition m first bs (follow m next bs s)
  follow_so next first bs (closed e left) is so later = boundary_so next first bs e left so (later left (left_shorter e bs left so.bytes))
  follow_so next first bs (whole e) is so later =
      inl record { one = e; only = refl; within = so.within; takes_rest = so.takes_rest; is_first = so.is_first; bytes = so.bytes }
  follow_so next first bs (refuse r) is so later = record { before = []; rest = bs; within = tt; in_place = refl; bytes = refl; stops = in_envelope so refl (ap (λ x. read_envelope edition x bs) (and-true first) ∙ is) refl }
  follow_so next first bs (refuse_at r from) is so later = record {
    before = [];
    rest = bs;
    within = tt;
    in_place = refl;
    bytes = refl;
    stops = in_body from (subst (λ (x : Bool). FaultSo edition x bs r from) (sym (and-true first)) so) (ap (λ x. read_envelope edition x bs) (and-true first) ∙ is) refl;
  }

  pub walk_so : (n : ℕ) (first : Bool) (bs : Bytes) → length bs < n → WalkSo edition m first bs (walk edition m n first bs)
  unfolding walk
  walk_so zero first bs enough = absurd (omega arith)
  walk_so (suc n) first bs enough =
      follow_so (walk edition m n false) first bs (read_envelope edition first bs) refl (step_so edition first bs)
      (λ left shorter. walk_so n false left (omega arith))
