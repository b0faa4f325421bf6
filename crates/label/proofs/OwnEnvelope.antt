-- A row's ordinal names the envelope in which the row's stretch lies, and no other envelope's stretch has it (02, No. 9).
use Prim.Native.Nat.{ℕ, zero, suc, ◌+◌, ◌≤◌, ◌<◌}
use mathlib.Core.Path.{◌≡◌, refl, sym, ap, ◌∙◌, subst}
use mathlib.Core.Bool.{Bool, true, false, cond, false≢true}
use mathlib.Core.List.{List, [], ◌∷◌, ◌++◌, map, append_assoc, append-nil}
use native.Mathlib.Omega.{arith}
use borrow.Author.Tests.{ltb-true, ltb-false}
use lib.ListN.{length, take, drop, length-append, length-drop}
use lib.Seq.{take-append_seam, drop-append_seam}
use lib.Dec.{ltb}
use Rattle.label.specs.Bytes.{Bytes, EOT, RS}
use Rattle.label.specs.declared.Edition.{Edition}
use Rattle.label.specs.Layout.{Item, Part, mark, item, marks, Row, bytes_of, items_of, rows_from, separated, ended}
use Rattle.label.specs.Envelope.{Envelope}
use Rattle.label.specs.Written.{parts}
use Rattle.label.specs.Message.{header, is_rest_alone, message_parts, message, rows_of, ordinals_from, ordinals_of, Good}
use Rattle.label.specs.Place.{in_front}
use Rattle.label.specs.Promised.{EachOf, EnvelopeAt, LiesIn}
use Rattle.label.proofs.Laid.{bytes_append}
use Rattle.label.proofs.PayloadFree.{rows_append, ended_append}

each_append : (fact : Row → ℕ → Type 0) (rs rs' : List Row) (os os' : List ℕ) → EachOf fact rs os → EachOf fact rs' os' → EachOf fact (rs ++ rs') (os ++ os')
each_append fact [] rs' [] os' one two = two
each_append fact [] rs' (o ∷ os) os' one two = absurd one
each_append fact (r ∷ rs) rs' [] os' one two = absurd one
each_append fact (r ∷ rs) rs' (o ∷ os) os' one two = (one.0, each_append fact rs rs' os os' one.1 two)

-- the rows of parts between two offsets
each_between : (fact : Row → ℕ → Type 0) (o low high : ℕ) → ((r : Row) → low ≤ r.start → r.start + r.length ≤ high → fact r o)
    → (at : ℕ) (ps : List Part) → low ≤ at → at + length (bytes_of ps) ≤ high → EachOf fact (rows_from at ps) (map (λ (i : Item). o) (items_of ps))
each_between fact o low high so at [] from to = tt
each_between fact o low high so at (mark b ∷ ps) from to = each_between fact o low high so (at + 1) ps (omega arith) (omega arith)
each_between fact o low high so at (item i ∷ ps) from to =
    let long = length-append i.content (bytes_of ps) in
    (so _ from (omega (arith, long)), each_between fact o low high so (at + length i.content) ps (omega arith) (omega (arith, long)))

module _ (m : Bytes) (all : List Envelope) where
  -- an envelope of the list behind others, and the rows of its own parts
  module _ (before after : List Envelope) (e : Envelope) (list : all ≡ before ++ (e ∷ after)) (behind : Bytes) (bytes : m ≡ in_front before ++ (bytes_of (parts e) ++ behind)) where
    front_taken : take (length before) all ≡ before
    front_taken = ap (take (length before)) list ∙ take-append_seam before (e ∷ after)

    abbrev stands_there : EnvelopeAt m all (length before) (length (in_front before))
    stands_there = record {
      envelope = e;
      after = after;
      there = ap (drop (length before)) list ∙ drop-append_seam before (e ∷ after);
      behind = behind;
      bytes = bytes ∙ ap (λ es. in_front es ++ (bytes_of (parts e) ++ behind)) (sym front_taken);
      offset = ap (λ es. length (in_front es)) (sym front_taken);
    }

    own_rows : EachOf (LiesIn m all) (rows_from (length (in_front before)) (parts e)) (map (λ (i : Item). length before) (items_of (parts e)))
    own_rows =
        each_between (LiesIn m all) (length before) (length (in_front before)) (length (in_front before) + length (bytes_of (parts e)))
        (λ r from to. record { at = length (in_front before); stands = stands_there; from = from; to = to })
        (length (in_front before)) (parts e) (omega arith) (omega arith)

  -- one envelope more in front
  front_longer : (before : List Envelope) (e : Envelope) → in_front (before ++ (e ∷ [])) ≡ in_front before ++ (bytes_of (parts e) ++ (RS ∷ []))
  front_longer before e =
      ap (λ ps. bytes_of (marks header ++ ps)) (ended_append before (e ∷ []))
      ∙ ap bytes_of (sym (append_assoc (marks header) (ended RS (map parts before)) (parts e ++ (mark RS ∷ []))))
      ∙ bytes_append (marks header ++ ended RS (map parts before)) (parts e ++ (mark RS ∷ []))
      ∙ ap (λ bs. in_front before ++ bs) (bytes_append (parts e) (mark RS ∷ []))

  -- envelopes, each with its RS
  closed_rows : (before es : List Envelope) → all ≡ before ++ es → m ≡ in_front before ++ bytes_of (ended RS (map parts es) ++ (mark EOT ∷ []))
      → EachOf (LiesIn m all) (rows_from (length (in_front before)) (ended RS (map parts es) ++ (mark EOT ∷ []))) (ordinals_from (length before) es)
  closed_rows before [] list bytes = tt
  closed_rows before (e ∷ es) list bytes =
      let later = mark RS ∷ (ended RS (map parts es) ++ (mark EOT ∷ [])) in
      let one = append_assoc (parts e) (mark RS ∷ ended RS (map parts es)) (mark EOT ∷ []) in
      let at = length (in_front before) in
      let bytes' : m ≡ in_front before ++ (bytes_of (parts e) ++ bytes_of later) = bytes ∙ ap (λ ps. in_front before ++ bytes_of ps) one ∙ ap (λ bs. in_front before ++ bs) (bytes_append (parts e) later) in
      let longer = front_longer before e in
      let next : at + length (bytes_of (parts e)) + 1 ≡ length (in_front (before ++ (e ∷ []))) =
      omega (arith, ap length longer, length-append (in_front before) (bytes_of (parts e) ++ (RS ∷ [])), length-append (bytes_of (parts e)) (RS ∷ [])) in
      let count : length (before ++ (e ∷ [])) ≡ length before + 1 = length-append before (e ∷ []) in
      let rest = closed_rows (before ++ (e ∷ [])) es (list ∙ sym (append_assoc before (e ∷ []) es))
      (bytes' ∙ sym (ap (λ bs. bs ++ bytes_of (ended RS (map parts es) ++ (mark EOT ∷ []))) longer
      ∙ append_assoc (in_front before) (bytes_of (parts e) ++ (RS ∷ [])) _ ∙ ap (λ bs. in_front before ++ bs) (append_assoc (bytes_of (parts e)) (RS ∷ []) _))) in
      subst (λ (rs : List Row). EachOf (LiesIn m all) rs (ordinals_from (length before) (e ∷ es))) (sym (ap (rows_from at) one ∙ rows_append at (parts e) later))
      (each_append (LiesIn m all) (rows_from at (parts e)) (rows_from (at + length (bytes_of (parts e))) later) _ (ordinals_from (length before + 1) es)
      (own_rows before es e list (bytes_of later) bytes')
      (subst (λ (x : ℕ). EachOf (LiesIn m all) (rows_from x (ended RS (map parts es) ++ (mark EOT ∷ []))) (ordinals_from (length before + 1) es)) (sym next)
      (subst (λ (o : ℕ). EachOf (LiesIn m all) (rows_from (length (in_front (before ++ (e ∷ [])))) (ended RS (map parts es) ++ (mark EOT ∷ []))) (ordinals_from o es)) count rest)))

  -- the envelope that takes all the rest
  alone_rows : (es : List Envelope) → all ≡ es → is_rest_alone es ≡ true → m ≡ in_front [] ++ bytes_of (separated RS (map parts es))
      → EachOf (LiesIn m all) (rows_from (length (in_front [])) (separated RS (map parts es))) (ordinals_from 0 es)
  alone_rows [] list is bytes = absurd (false≢true is)
  alone_rows (e ∷ []) list is bytes =
      let whole = append-nil (parts e) in
      let nothing : map {B = ℕ} (λ (i : Item). 0) (items_of (parts e)) ++ [] ≡ map (λ i. 0) (items_of (parts e)) = append-nil (map (λ i. 0) (items_of (parts e))) in
      subst (λ (ps : List Part). EachOf (LiesIn m all) (rows_from (length (in_front [])) ps) (ordinals_from 0 (e ∷ []))) (sym whole)
      (subst (λ (os : List ℕ). EachOf (LiesIn m all) (rows_from (length (in_front [])) (parts e)) os) (sym nothing)
      (own_rows [] [] e list [] (bytes ∙ ap (λ ps. in_front [] ++ bytes_of ps) whole ∙ ap (λ bs. in_front [] ++ bs) (sym (append-nil (bytes_of (parts e)))))))
  alone_rows (e ∷ (e' ∷ es)) list is bytes = absurd (false≢true is)

-- of a good message each row lies in the envelope with its ordinal
pub in_own_envelope : (edition : Edition) (m : Bytes) (es : List Envelope) → Good edition m es → EachOf (LiesIn m es) (rows_of es) (ordinals_of es)
unfolding rows_of ordinals_of message message_parts
in_own_envelope edition m es good = by (is_rest_alone es) refl (sym good.writes_out)
  where
    by : (t : Bool) → is_rest_alone es ≡ t → m ≡ bytes_of (marks header ++ cond (is_rest_alone es) (separated RS (map parts es)) (ended RS (map parts es) ++ (mark EOT ∷ [])))
        → EachOf (LiesIn m es) (rows_from 0 (marks header ++ cond (is_rest_alone es) (separated RS (map parts es)) (ended RS (map parts es) ++ (mark EOT ∷ [])))) (ordinals_from 0 es)
    by true is bytes =
        subst (λ (t : Bool). EachOf (LiesIn m es) (rows_from 0 (marks header ++ cond t (separated RS (map parts es)) (ended RS (map parts es) ++ (mark EOT ∷ [])))) (ordinals_from 0 es)) (sym is)
        (alone_rows m es es refl is (bytes ∙ ap (λ t. bytes_of (marks header ++ cond t (separated RS (map parts es)) (ended RS (map parts es) ++ (mark EOT ∷ [])))) is))
    by false is bytes =
        subst (λ (t : Bool). EachOf (LiesIn m es) (rows_from 0 (marks header ++ cond t (separated RS (map parts es)) (ended RS (map parts es) ++ (mark EOT ∷ [])))) (ordinals_from 0 es)) (sym is)
        (closed_rows m es [] es refl (bytes ∙ ap (λ t. bytes_of (marks header ++ cond t (separated RS (map parts es)) (ended RS (map parts es) ++ (mark EOT ∷ [])))) is))

-- Only one envelope

-- where the envelopes with smaller ordinals end, the next one begins at the earliest
front_grows : (es : List Envelope) (o o' : ℕ) (e : Envelope) (after : List Envelope) → drop o es ≡ e ∷ after → o < o'
    → length (bytes_of (ended RS (map parts (take o es)))) + length (bytes_of (parts e)) + 1 ≤ length (bytes_of (ended RS (map parts (take o' es))))
front_grows [] o o' e after is less = let none : List Envelope = [] in absurd (omega (arith, ap length is, length-drop o none))
front_grows (d ∷ es) zero zero e after is less = absurd (omega arith)
front_grows (d ∷ es) zero (suc o') e after is less =
    let same : d ≡ e = cc in
    omega (arith, ap (λ (x : Envelope). length (bytes_of (parts x))) same, ap length (bytes_append (parts d) (mark RS ∷ ended RS (map parts (take o' es)))), length-append (bytes_of (parts d)) (RS ∷ bytes_of (ended RS (map parts (take o' es)))))
front_grows (d ∷ es) (suc o) zero e after is less = absurd (omega arith)
front_grows (d ∷ es) (suc o) (suc o') e after is less =
    let more = front_grows es o o' e after is (omega arith) in
    let a = ended RS (map parts (take o es)) in
    let b = ended RS (map parts (take o' es)) in
    omega (arith, more, ap length (bytes_append (parts d) (mark RS ∷ a)), length-append (bytes_of (parts d)) (RS ∷ bytes_of a), ap length (bytes_append (parts d) (mark RS ∷ b)), length-append (bytes_of (parts d)) (RS ∷ bytes_of b))

not_before : (m : Bytes) (es : List Envelope) (r : Row) (o o' : ℕ) → LiesIn m es r o → LiesIn m es r o' → o < o' → ⊥
not_before m es r o o' one two less =
    let grows = front_grows es o o' one.stands.envelope one.stands.after one.stands.there less in
    omega (arith, grows, one.to, two.from, one.stands.offset, two.stands.offset)

pub in_no_other : (m : Bytes) (es : List Envelope) (r : Row) (o o' : ℕ) → LiesIn m es r o → LiesIn m es r o' → o ≡ o'
in_no_other m es r o o' one two = by (ltb o o') refl (ltb o' o) refl
  where
    by : (t : Bool) → ltb o o' ≡ t → (u : Bool) → ltb o' o ≡ u → o ≡ o'
    by true less u more = absurd (not_before m es r o o' one two (ltb-true o o' less))
    by false less true more = absurd (not_before m es r o' o two one (ltb-true o' o more))
    by false less false more = omega (arith, ltb-false o o' less, ltb-false o' o more)
