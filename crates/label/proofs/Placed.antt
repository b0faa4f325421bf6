-- Where envelopes may stand, none of them an 02: one test that goes from the left, and the paper's rules. Each says what the other says.
use mathlib.Core.Path.{◌≡◌, refl}
use mathlib.Core.Bool.{Bool, true, false, not, ◌&&◌, ◌||◌}
use mathlib.Core.List.{List, [], ◌∷◌}
use Rattle.std.proofs.lemmas.Bool.{and_parts}
use Rattle.std.specs.Cmp.Derive.{both_true}
use Rattle.label.specs.Bytes.{every}
use Rattle.label.specs.Envelope.{Envelope}
use Rattle.label.specs.Message.{is_transport, is_rest, transport_only_first}

-- envelopes none of which takes all the rest, and 01 only where the first may stand
abbrev pub placed : Bool → List Envelope → Bool
placed first [] = true
placed first (e ∷ es) = (first || not (is_transport e)) && not (is_rest e) && placed false es

no_transport : (es : List Envelope) → placed false es ≡ true → every (λ e. not (is_transport e)) es ≡ true
no_transport [] h = refl
no_transport (e ∷ es) h =
    let k = and_parts (not (is_transport e) && not (is_rest e)) (placed false es) h in
    both_true (and_parts (not (is_transport e)) (not (is_rest e)) k.0).0 (no_transport es k.1)

pub only_first_lem : (es : List Envelope) → placed true es ≡ true → transport_only_first es ≡ true
only_first_lem [] h = refl
only_first_lem (e ∷ es) h = no_transport es (and_parts (not (is_rest e)) (placed false es) h).1

pub no_rest_lem : (first : Bool) (es : List Envelope) → placed first es ≡ true → every (λ e. not (is_rest e)) es ≡ true
no_rest_lem first [] h = refl
no_rest_lem first (e ∷ es) h =
    let k = and_parts ((first || not (is_transport e)) && not (is_rest e)) (placed false es) h in
    both_true (and_parts (first || not (is_transport e)) (not (is_rest e)) k.0).1 (no_rest_lem false es k.1)

placed_later : (es : List Envelope) → every (λ e. not (is_transport e)) es ≡ true → every (λ e. not (is_rest e)) es ≡ true → placed false es ≡ true
placed_later [] t r = refl
placed_later (e ∷ es) t r =
    let k = and_parts (not (is_transport e)) (every (λ e. not (is_transport e)) es) t in
    let l = and_parts (not (is_rest e)) (every (λ e. not (is_rest e)) es) r in
    both_true (both_true k.0 l.0) (placed_later es k.1 l.1)

pub placed_first : (es : List Envelope) → transport_only_first es ≡ true → every (λ e. not (is_rest e)) es ≡ true → placed true es ≡ true
placed_first [] t r = refl
placed_first (e ∷ es) t r =
    let l = and_parts (not (is_rest e)) (every (λ e. not (is_rest e)) es) r in
    both_true l.0 (placed_later es t l.1)
