-- A message's bytes: its header, then each envelope and its RS, then EOT; or its header and the one envelope that takes all the rest.
use Prim.Native.Nat.{◌<◌}
use mathlib.Core.Path.{◌≡◌, refl, sym, ap, ◌∙◌}
use mathlib.Core.Bool.{true, false, cond}
use mathlib.Core.List.{List, [], ◌∷◌, ◌++◌, map, append_assoc, append-nil}
use native.Mathlib.Omega.{arith}
use lib.ListN.{length, length-append}
use Rattle.label.specs.Bytes.{Bytes, EOT, RS}
use Rattle.label.specs.Layout.{Part, mark, marks, bytes_of, separated, ended}
use Rattle.label.specs.Envelope.{Envelope}
use Rattle.label.specs.Written.{parts}
use Rattle.label.specs.Message.{header, is_rest, is_rest_alone, message_parts, message}
use Rattle.label.specs.Place.{in_front}
use Rattle.label.proofs.Laid.{bytes_append}

-- envelopes, each with its RS, in front of other bytes
abbrev pub closed_bytes : List Envelope → Bytes → Bytes
closed_bytes [] rest = rest
closed_bytes (e ∷ es) rest = bytes_of (parts e) ++ (RS ∷ closed_bytes es rest)

ended_bytes : (es : List Envelope) (ps : List Part) → bytes_of (ended RS (map parts es) ++ ps) ≡ closed_bytes es (bytes_of ps)
ended_bytes [] ps = refl
ended_bytes (e ∷ es) ps =
    ap bytes_of (append_assoc (parts e) (mark RS ∷ ended RS (map parts es)) ps)
    ∙ bytes_append (parts e) (mark RS ∷ (ended RS (map parts es) ++ ps))
    ∙ ap (λ r. bytes_of (parts e) ++ (RS ∷ r)) (ended_bytes es ps)

closed_append : (es : List Envelope) (rest : Bytes) → closed_bytes es rest ≡ closed_bytes es [] ++ rest
closed_append [] rest = refl
closed_append (e ∷ es) rest =
    ap (λ r. bytes_of (parts e) ++ (RS ∷ r)) (closed_append es rest) ∙ sym (append_assoc (bytes_of (parts e)) (RS ∷ closed_bytes es []) rest)

-- what stands in front of a place, and the rest
pub front_bytes : (before : List Envelope) (rest : Bytes) → in_front before ++ rest ≡ header ++ closed_bytes before rest
front_bytes before rest =
    ap (λ r. header ++ (bytes_of r ++ rest)) (sym (append-nil (ended RS (map parts before))))
    ∙ ap (λ r. header ++ (r ++ rest)) (ended_bytes before [])
    ∙ ap (λ r. header ++ r) (sym (closed_append before rest))

pub message_closed : (es : List Envelope) → is_rest_alone es ≡ false → message es ≡ header ++ closed_bytes es (EOT ∷ [])
unfolding message message_parts
message_closed es closed =
    ap (λ t. bytes_of (marks header ++ cond t (separated RS (map parts es)) (ended RS (map parts es) ++ (mark EOT ∷ [])))) closed
    ∙ ap (λ r. header ++ r) (ended_bytes es (mark EOT ∷ []))

pub message_alone : (e : Envelope) → is_rest e ≡ true → message (e ∷ []) ≡ header ++ bytes_of (parts e)
unfolding message message_parts
message_alone e is =
    ap (λ t. bytes_of (marks header ++ cond t (separated RS (map parts (e ∷ []))) (ended RS (map parts (e ∷ [])) ++ (mark EOT ∷ [])))) is
    ∙ ap (λ r. header ++ bytes_of r) (append-nil (parts e))

-- a written envelope is longer than nothing, so what follows it is shorter than what begins with it
pub left_shorter : (e : Envelope) (bs left : Bytes) → bs ≡ bytes_of (parts e) ++ (RS ∷ left) → length left < length bs
left_shorter e bs left is = omega (arith, ap length is, length-append (bytes_of (parts e)) (RS ∷ left))
