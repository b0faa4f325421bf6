-- Envelopes within their rules and in permitted places, written with an RS each, are walked over; with EOT behind them they are answered as just that list.
use Prim.Native.Nat.{ℕ, zero, suc, ◌+◌, ◌/◌, ◌%◌, ◌<◌}
use mathlib.Core.Path.{◌≡◌, refl, ap, ◌∙◌, subst⁻¹}
use mathlib.Core.Bool.{Bool, true, false, not, ◌&&◌, ◌||◌, true≢false}
use mathlib.Core.List.{List, [], ◌∷◌, ◌++◌}
use native.Mathlib.Omega.{arith}
use borrow.Author.Tests.{ne_eqb, not-true}
use lib.ListN.{length}
use lib.Dec.{eqb}
use Rattle.std.proofs.lemmas.Bool.{and_parts}
use Rattle.label.specs.declared.Reason.{Reason}
use Rattle.label.specs.Bytes.{Bytes, EOT, RS, is_empty}
use Rattle.label.specs.declared.Edition.{Edition}
use Rattle.label.specs.Layout.{bytes_of}
use Rattle.label.specs.Envelope.{Envelope, Within}
use Rattle.label.specs.Written.{two_digits, parts}
use Rattle.label.specs.Message.{is_transport, is_rest, Each}
use Rattle.label.specs.ReadMessage.{Outcome, read, refused, after_trailer, at_boundary, and_then, follow, walk}
use Rattle.label.proofs.Laid.{format_of, content_bytes, bytes_envelope}
use Rattle.label.proofs.EnvelopeComplete.{step_pass}
use Rattle.label.proofs.MessageBytes.{closed_bytes, left_shorter}
use Rattle.label.proofs.Placed.{placed}

-- an envelope begins with a digit, which is not EOT
digits_pass : (m : Bytes) (next : Bytes → Outcome) (f : ℕ) (rest : Bytes) → at_boundary m next (two_digits f ++ rest) ≡ next (two_digits f ++ rest)
digits_pass m next f rest = by (eqb (0x30 + f / 10) EOT) (ne_eqb (0x30 + f / 10) EOT (λ is. omega arith))
  where
    by : (t : Bool) → t ≡ false → ◌≡◌ {A = Outcome} (elim t [ true ↦ after_trailer m ((0x30 + f % 10) ∷ rest) | false ↦ next (two_digits f ++ rest) ]) (next (two_digits f ++ rest))
    by true is = absurd (true≢false is)
    by false is = refl

boundary_pass : (m : Bytes) (next : Bytes → Outcome) (e : Envelope) (rest : Bytes) → at_boundary m next (bytes_of (parts e) ++ rest) ≡ next (bytes_of (parts e) ++ rest)
boundary_pass m next e rest =
    subst⁻¹ (λ (w : Bytes). at_boundary m next (w ++ rest) ≡ next (w ++ rest)) (bytes_envelope e)
    (digits_pass m next (format_of e) (content_bytes e ++ rest))

-- what is answered behind envelopes, with them in front
abbrev pub after_all : List Envelope → Outcome → Outcome
after_all [] o = o
after_all (e ∷ es) o = and_then e (after_all es o)

pub all_read : (es : List Envelope) → after_all es (read []) ≡ read es
all_read [] = refl
all_read (e ∷ es) = ap (and_then e) (all_read es)

pub all_refused : (es : List Envelope) (r : Reason) (p : ℕ) → after_all es (refused r p) ≡ refused r p
all_refused [] r p = refl
all_refused (e ∷ es) r p = ap (and_then e) (all_refused es r p)

-- the first of envelopes is walked over, and then it is as at the boundary behind it
walk_first : (edition : Edition) (m : Bytes) (n : ℕ) (first : Bool) (e : Envelope) (es : List Envelope) (rest : Bytes) → Within edition e → placed first (e ∷ es) ≡ true
    → walk edition m (suc n) first (closed_bytes (e ∷ es) rest) ≡ and_then e (at_boundary m (walk edition m n false) (closed_bytes es rest))
unfolding walk
walk_first edition m n first e es rest within in_place =
    let k = and_parts ((first || not (is_transport e)) && not (is_rest e)) (placed false es) in_place in
    let l = and_parts (first || not (is_transport e)) (not (is_rest e)) k.0 in
    ap (follow m (walk edition m n false) (closed_bytes (e ∷ es) rest)) (step_pass edition first e (closed_bytes es rest) within (not-true _ l.1) l.0)

-- one or more envelopes are walked over, and then it is as at the boundary behind them, whatever the bound there
pub walk_over : (edition : Edition) (m : Bytes) (n : ℕ) (first : Bool) (e : Envelope) (es : List Envelope) (rest : Bytes) (o : Outcome)
    → length (closed_bytes (e ∷ es) rest) < n → Each (Within edition) (e ∷ es) → placed first (e ∷ es) ≡ true
    → ((k : ℕ) → length rest < k → at_boundary m (walk edition m k false) rest ≡ o)
    → walk edition m n first (closed_bytes (e ∷ es) rest) ≡ after_all (e ∷ es) o
walk_over edition m zero first e es rest o enough within in_place there = absurd (omega arith)
walk_over edition m (suc n) first e [] rest o enough within in_place there =
    let shorter = left_shorter e (closed_bytes (e ∷ []) rest) rest refl in
    walk_first edition m n first e [] rest within.0 in_place ∙ ap (and_then e) (there n (omega arith))
walk_over edition m (suc n) first e (e' ∷ es) rest o enough within in_place there =
    let shorter = left_shorter e (closed_bytes (e ∷ (e' ∷ es)) rest) (closed_bytes (e' ∷ es) rest) refl in
    let k = and_parts ((first || not (is_transport e)) && not (is_rest e)) (placed false (e' ∷ es)) in_place in
    walk_first edition m n first e (e' ∷ es) rest within.0 in_place
    ∙ ap (and_then e) (boundary_pass m (walk edition m n false) e' (RS ∷ closed_bytes es rest) ∙ walk_over edition m n false e' es rest o (omega arith) within.1 k.1 there)

pub walk_pass : (edition : Edition) (m : Bytes) (n : ℕ) (first : Bool) (es : List Envelope) → length (closed_bytes es (EOT ∷ [])) < n → is_empty es ≡ false → Each (Within edition) es → placed first es ≡ true
    → walk edition m n first (closed_bytes es (EOT ∷ [])) ≡ read es
walk_pass edition m n first [] enough some within in_place = absurd (true≢false some)
walk_pass edition m n first (e ∷ es) enough some within in_place =
    walk_over edition m n first e es (EOT ∷ []) (read []) enough within in_place (λ k more. refl) ∙ all_read (e ∷ es)
