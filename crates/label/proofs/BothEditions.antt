-- What the two editions have in common, and where they differ (02, No. 3): what the edition of 2005 accepts is read in that of 2025 as the same list, and
-- the two answer the same but for a message that the edition of 2005 refuses with 6 where the indicator of an added format stands. The argument follows
-- the walk: at each envelope the editions take the same step, or that of 2005 stops there.
use Rattle.std.specs.Prelude.{None, Some, Option}
use Prim.Native.Nat.{ℕ, zero, suc}
use mathlib.Core.Path.{◌≡◌, refl, sym, ap, ◌∙◌, subst}
use mathlib.Core.Bool.{Bool, true, false, ◌&&◌, cond, true≢false}
use mathlib.Core.Logic.{◌⊎◌, inl, inr}
use mathlib.Core.List.{List, [], ◌∷◌, ◌++◌, append_assoc}
use native.Mathlib.Omega.{arith}
use borrow.Author.Tests.{ltb-false}
use lib.ListN.{length, get_or, drop}
use lib.Seq.{drop-append_seam}
use lib.Dec.{ltb, eqb}
use Rattle.std.proofs.lemmas.Bool.{and_parts}
use Rattle.label.specs.declared.Reason.{Reason}
use Rattle.label.specs.declared.Reason.TheVariants.{TooLong, NoMessageHeader, NoIndicator, UnknownFormat, BadFormatHeader, PayloadDoesNotFit, ByteNotPermitted}
use Rattle.label.specs.declared.WriteReason.TheVariants.{BadRows, NoSuchMessage}
use Rattle.label.specs.declared.Edition.{Edition}
use Rattle.label.specs.declared.Edition.TheVariants.{Edition2005, Edition2025}
use Rattle.label.specs.Bytes.{Bytes, EOT, GS, RS, digit, between, every, is_empty}
use Rattle.label.specs.Limits.{longest}
use Rattle.label.specs.Pieces.{Cut, found, absent, cut}
use Rattle.label.specs.Values.{count, value}
use Rattle.label.specs.Elements.{element12}
use Rattle.label.specs.Formats.{rule_of, unknown}
use Rattle.label.specs.Layout.{bytes_of}
use Rattle.label.specs.Envelope.{Envelope, counted}
use Rattle.label.specs.Written.{two_digits, parts}
use Rattle.label.specs.Message.{header, Good}
use Rattle.label.specs.ReadEnvelope.{Step, closed, whole, refuse, refuse_at, must, valued_at, broken, body_at, bodied, read_elements, read_payload, read_count, read_counted, read_by, read_envelope}
use Rattle.label.specs.ReadMessage.{Outcome, read, refused, place_of, and_then, after_trailer, at_boundary, follow, walk, enough, agreement, within_rows, reading}
use Rattle.label.specs.Answer.{number, answered, read_answer, filled, table_after, rows_read}
use Rattle.label.specs.Part.{stretch_at, part_of}
use Rattle.label.specs.Place.{in_front, AtEnvelope}
use Rattle.label.specs.Rendered.{rendered}
use Rattle.label.specs.Writing.{ordinals_in, rows_stand, items_in, if_same, composed, Composition, declined, fitting, writing}
use Rattle.label.specs.Promised.{AddedAt, Differ, SameInBoth}
use Rattle.label.proofs.Editions.{rules_differ}
use Rattle.label.proofs.Digits.{digits_two}
use Rattle.label.proofs.EnvelopeSound.{StepSo, step_so}
use Rattle.label.proofs.Places.{place_of_rest}
use Rattle.label.proofs.ReadingSound.{begins}
use Rattle.label.proofs.Promises.{place_as_stated, accepted_is_good, good_is_read}
use Rattle.label.specs.declared.Refusal.{Refusal}

-- One step

-- a step is the same in both editions, or the edition of 2005 refuses with 6 and the indicator of an added format stands there
abbrev StepsAgree : Bytes → Step → Step → Type 0
StepsAgree bs s s' = (s ≡ s') ⊎ ((s' ≡ refuse UnknownFormat) × AddedAt bs 0)

steps_agree : (first : Bool) (bs : Bytes) → StepsAgree bs (read_envelope Edition2025 first bs) (read_envelope Edition2005 first bs)
unfolding read_envelope read_by
steps_agree first [] = inl refl
steps_agree first (a ∷ []) = inl refl
steps_agree first (a ∷ (b ∷ bs)) = by (digit a && digit b) refl (rules_differ f)
  where
    f : ℕ
    f = value (a ∷ b ∷ [])

    step_in : Edition → Bool → Step
    step_in edition t = must t NoIndicator (read_by (rule_of edition f) first f bs)

    by : (t : Bool) → (digit a && digit b) ≡ t → (rule_of Edition2025 f ≡ rule_of Edition2005 f) ⊎ ((rule_of Edition2005 f ≡ unknown) × ((f ≡ 12) ⊎ (f ≡ 15)))
        → StepsAgree (a ∷ (b ∷ bs)) (step_in Edition2025 t) (step_in Edition2005 t)
    by false digits rules = inl refl
    by true digits (inl same) = inl (ap (λ rule. read_by rule first f bs) same)
    by true digits (inr lacks) =
        let k = and_parts (digit a) (digit b) digits in
        inr (ap (λ rule. read_by rule first f bs) lacks.0, record { format = f; is_added = lacks.1; behind = bs; bytes = ap (λ two. two ++ bs) (sym (digits_two a b k.0 k.1)) })

-- The walk

-- an outcome is the refusal with 6 where the indicator of an added format stands
record StopsAtAdded (m : Bytes) (o : Outcome) : Type 0 where
  place : ℕ
  says : o ≡ refused UnknownFormat place
  added : AddedAt m place

-- an outcome in the edition of 2025 and that in the edition of 2005 are the same, or the latter is such a refusal
abbrev Agree : Bytes → Outcome → Outcome → Type 0
Agree m o o' = (o ≡ o') ⊎ StopsAtAdded m o'

module _ (m : Bytes) where
  -- what keeps a refusal as it is keeps outcomes in agreement
  agree_through : (g : Outcome → Outcome) → ((r : Reason) (p : ℕ) → g (refused r p) ≡ refused r p) → (o o' : Outcome) → Agree m o o' → Agree m (g o) (g o')
  agree_through g keeps o o' (inl same) = inl (ap g same)
  agree_through g keeps o o' (inr stops) = inr record { place = stops.place; says = ap g stops.says ∙ keeps UnknownFormat stops.place; added = stops.added }

  agree_at_boundary : (next next' : Bytes → Outcome) (left : Bytes) → Agree m (next left) (next' left) → Agree m (at_boundary m next left) (at_boundary m next' left)
  agree_at_boundary next next' [] on = inl refl
  agree_at_boundary next next' (b ∷ more) on = by (eqb b EOT)
    where
      by : (t : Bool) → Agree m (elim t [ true ↦ after_trailer m more | false ↦ next (b ∷ more) ]) (elim t [ true ↦ after_trailer m more | false ↦ next' (b ∷ more) ])
      by true = inl refl
      by false = on

  -- from the place of its last bytes on, a message is those bytes
  bytes_at_place : (front rest : Bytes) → m ≡ front ++ rest → drop (place_of m rest) m ≡ rest
  bytes_at_place front rest is = (λ i. drop (place_of_rest m front rest is i) (is i)) ∙ drop-append_seam front rest

  -- after the same step the outcomes agree if they do for whatever is left
  agree_after : (next next' : Bytes → Outcome) (first : Bool) (front bs : Bytes) → m ≡ front ++ bs → ((front left : Bytes) → m ≡ front ++ left → Agree m (next left) (next' left))
      → (s : Step) → StepSo Edition2005 first bs s → Agree m (follow m next bs s) (follow m next' bs s)
  agree_after next next' first front bs is on (closed e left) so =
      agree_through (and_then e) (λ r p. refl) (at_boundary m next left) (at_boundary m next' left)
      (agree_at_boundary next next' left (on (front ++ (bytes_of (parts e) ++ (RS ∷ []))) left (is ∙ ap (λ x. front ++ x) so.bytes ∙ regrouped (bytes_of (parts e)))))
    where
      regrouped : (own : Bytes) → front ++ (own ++ (RS ∷ left)) ≡ (front ++ (own ++ (RS ∷ []))) ++ left
      regrouped own = simp append_assoc
  agree_after next next' first front bs is on (whole e) so = inl refl
  agree_after next next' first front bs is on (refuse r) so = inl refl
  agree_after next next' first front bs is on (refuse_at r from) so = inl refl

  walks_agree : (n : ℕ) (first : Bool) (front bs : Bytes) → m ≡ front ++ bs → Agree m (walk Edition2025 m n first bs) (walk Edition2005 m n first bs)
  unfolding walk
  walks_agree zero first front bs is = inl refl
  walks_agree (suc n) first front bs is =
      by (steps_agree first bs)
      (agree_after (walk Edition2025 m n false) (walk Edition2005 m n false) first front bs is (walks_agree n false) (step_in Edition2005) (step_so Edition2005 first bs))
    where
      step_in : Edition → Step
      step_in edition = read_envelope edition first bs

      onward : Edition → Step → Outcome
      onward edition s = follow m (walk edition m n false) bs s

      by : StepsAgree bs (step_in Edition2025) (step_in Edition2005) → Agree m (onward Edition2025 (step_in Edition2005)) (onward Edition2005 (step_in Edition2005))
          → Agree m (onward Edition2025 (step_in Edition2025)) (onward Edition2005 (step_in Edition2005))
      by (inl same) on = subst (λ (s : Step). Agree m (onward Edition2025 s) (onward Edition2005 (step_in Edition2005))) (sym same) on
      by (inr stops) on = inr record {
        place = place_of m bs;
        says = ap (onward Edition2005) stops.0;
        added = record { format = stops.1.format; is_added = stops.1.is_added; behind = stops.1.behind; bytes = bytes_at_place front bs is ∙ stops.1.bytes };
      }

  readings_agree : Agree m (reading Edition2025 m) (reading Edition2005 m)
  unfolding reading
  readings_agree = by_length (ltb longest (length m))
    where
      bs : Bytes
      bs = drop (length header) m

      headed : Bool → Edition → Outcome
      headed t edition = cond t (refused NoMessageHeader (agreement header m)) (within_rows (walk edition m (enough m) true bs))

      by_header : (t : Bool) → ltb (agreement header m) (length header) ≡ t → Agree m (headed t Edition2025) (headed t Edition2005)
      by_header true differs = inl refl
      by_header false agrees =
          agree_through within_rows (λ r p. refl) (walk Edition2025 m (enough m) true bs) (walk Edition2005 m (enough m) true bs)
          (walks_agree (enough m) true header bs (begins header m (ltb-false (agreement header m) (length header) agrees)))

      by_length : (t : Bool)
          → Agree m (cond t (refused TooLong longest) (headed (ltb (agreement header m) (length header)) Edition2025))
          (cond t (refused TooLong longest) (headed (ltb (agreement header m) (length header)) Edition2005))
      by_length true = inl refl
      by_length false = by_header (ltb (agreement header m) (length header)) refl

-- The edition of 2025 knows the added formats

-- whether a step is the refusal with 6
abbrev says_unknown : Step → Bool
says_unknown (closed e left) = false
says_unknown (whole e) = false
says_unknown (refuse r) = eqb (number r) (number UnknownFormat)
says_unknown (refuse_at r from) = false

must_known : (t : Bool) (r : Reason) (s : Step) → says_unknown (refuse r) ≡ false → says_unknown s ≡ false → says_unknown (must t r s) ≡ false
must_known true r s other known = known
must_known false r s other known = other

bodied_known : (permitted : ℕ → Bool) (rules : Bytes → Bool) (fault : Bytes → Option Refusal) (made : Bytes → Envelope) (bs : Bytes) → says_unknown (bodied permitted rules fault made bs) ≡ false
unfolding bodied
bodied_known permitted rules fault made bs = by (cut RS bs)
  where
    by_rules : (t : Bool) (x : Option Refusal) (body left : Bytes) → says_unknown (cond t (closed (made body) left) (broken bs x)) ≡ false
    by_rules true x body left = refl
    by_rules false None body left = refl
    by_rules false (Some fault) body left = refl

    by : (c : Cut) → says_unknown (body_at permitted rules (λ body. broken bs (fault body)) made c) ≡ false
    by absent = refl
    by (found body left) = must_known (every permitted body) ByteNotPermitted _ refl (by_rules (rules body) (fault body) body left)

elements_known : (is_element : Bytes → Bool) (f : ℕ) (bs : Bytes) → says_unknown (read_elements is_element f bs) ≡ false
unfolding read_elements
elements_known is_element f [] = refl
elements_known is_element f (b ∷ bs) = must_known (eqb b GS) BadFormatHeader _ refl (bodied_known _ _ _ _ bs)

count_known : (f : ℕ) (vs : List Bytes) (bs : Bytes) → says_unknown (read_count f vs bs) ≡ false
unfolding read_count read_payload
count_known f vs bs = by (cut GS bs)
  where
    by : (c : Cut) → says_unknown (valued_at count (λ n rest. read_payload (value n) (counted f vs n) rest) c) ≡ false
    by absent = refl
    by (found n rest) = must_known (count n) BadFormatHeader _ refl (must_known (ltb (value n) (length rest) && eqb (get_or rest (value n) 0) RS) PayloadDoesNotFit _ refl refl)

added_known : (first : Bool) (f : ℕ) (behind : Bytes) → (f ≡ 12) ⊎ (f ≡ 15) → says_unknown (read_envelope Edition2025 first (two_digits f ++ behind)) ≡ false
unfolding read_envelope read_by read_counted rule_of digit between
added_known first f behind (inl is) = ap (λ x. says_unknown (read_envelope Edition2025 first (two_digits x ++ behind))) is ∙ elements_known element12 12 behind
added_known first f behind (inr is) = ap (λ x. says_unknown (read_envelope Edition2025 first (two_digits x ++ behind))) is ∙ count_known 15 [] behind

-- so where the indicator of one stands, it doesn't refuse with 6
not_6_at_added : (m : Bytes) (p : ℕ) → AddedAt m p → AtEnvelope Edition2025 m UnknownFormat p → ⊥
not_6_at_added m p added at =
    let stands : at.rest ≡ two_digits added.format ++ added.behind = sym (drop-append_seam (in_front at.before) at.rest) ∙ (λ i. drop (sym at.offset i) (sym at.front.bytes i)) ∙ added.bytes in
    true≢false
    (sym (ap says_unknown at.answer)
    ∙ ap (λ x. says_unknown (read_envelope Edition2025 (is_empty at.before) x)) stands
    ∙ added_known (is_empty at.before) added.format added.behind added.is_added)

-- Promises

-- the editions read a message alike, or that of 2005 refuses it with 6 where the indicator of an added format stands
pub editions_differ : (m : Bytes) → (reading Edition2025 m ≡ reading Edition2005 m) ⊎ Differ m
editions_differ m = by (readings_agree m)
  where
    by : Agree m (reading Edition2025 m) (reading Edition2005 m) → (reading Edition2025 m ≡ reading Edition2005 m) ⊎ Differ m
    by (inl same) = inl same
    by (inr stops) = inr record { place = stops.place; says = stops.says; added = stops.added }

-- there they differ indeed: the edition of 2025 doesn't refuse with 6
pub differ_indeed : (m : Bytes) (d : Differ m) → reading Edition2025 m ≡ refused UnknownFormat d.place → ⊥
differ_indeed m d says = not_6_at_added m d.place d.added (place_as_stated Edition2025 m UnknownFormat d.place says)

-- what the edition of 2005 reads, that of 2025 reads as the same list
pub read_in_both : (m : Bytes) (es : List Envelope) → reading Edition2005 m ≡ read es → reading Edition2025 m ≡ read es
read_in_both m es says = by (editions_differ m)
  where
    by : (reading Edition2025 m ≡ reading Edition2005 m) ⊎ Differ m → reading Edition2025 m ≡ read es
    by (inl same) = same ∙ says
    by (inr differ) = let z : ◌≡◌ {A = ℕ} 0 1 = cc in absurd (omega arith)

-- what is good in the edition of 2005 is good in that of 2025 with the same list, and so has the same rows
pub good_in_both : (m : Bytes) (es : List Envelope) → Good Edition2005 m es → Good Edition2025 m es
good_in_both m es good = accepted_is_good Edition2025 m es (read_in_both m es (good_is_read Edition2005 m es good))

-- answers, tables and parts are the same in both editions, or the readings differ
pub answers_differ : (m : Bytes) → SameInBoth m ⊎ Differ m
unfolding read_answer table_after part_of
answers_differ m = by (editions_differ m)
  where
    by : (reading Edition2025 m ≡ reading Edition2005 m) ⊎ Differ m → SameInBoth m ⊎ Differ m
    by (inl same) = inl record { answers = λ room. ap (answered room) same; tables = λ table. ap (filled table) same; parts = λ n. ap (λ o. stretch_at (rows_read o) n) same }
    by (inr differ) = inr differ

-- the writer answers the same in both editions, or that of 2005 answers 21 and the editions differ in what the rows render to
pub writing_differs : (held : Bytes) (ns : List ℕ) (room : ℕ)
    → (writing Edition2025 held ns room ≡ writing Edition2005 held ns room) ⊎ ((writing Edition2005 held ns room ≡ declined NoSuchMessage) × Differ (rendered (items_in held ns)))
unfolding writing composed
writing_differs held ns room = by (rows_stand held ns) (editions_differ w)
  where
    w : Bytes
    w = rendered (items_in held ns)

    fitted : Outcome → Composition
    fitted o = fitting room (if_same (items_in held ns) (ordinals_in ns) w o)

    answer : Bool → Edition → Composition
    answer t edition = cond t (fitted (reading edition w)) (declined BadRows)

    by : (t : Bool) → (reading Edition2025 w ≡ reading Edition2005 w) ⊎ Differ w → (answer t Edition2025 ≡ answer t Edition2005) ⊎ ((answer t Edition2005 ≡ declined NoSuchMessage) × Differ w)
    by false readings = inl refl
    by true (inl same) = inl (ap fitted same)
    by true (inr differ) = inr (ap fitted differ.says, differ)
