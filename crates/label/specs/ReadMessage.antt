-- How a message is read: the list of its envelopes, or a reason and a place, for every list of bytes (01, Numbers for the receiving desk).
use Rattle.std.specs.Prelude.{ℕ, zero, suc, ◌-◌, Bool, true, false, cond, List, [], ◌∷◌, length, drop, ltb, eqb}
use Rattle.label.specs.declared.Reason.{Reason}
use Rattle.label.specs.declared.Reason.TheVariants.{TooLong, NoMessageHeader, NoIndicator, NoTrailer, BytesAfterTrailer, TooManyRows}
use Rattle.label.specs.Bytes.{Bytes, EOT}
use Rattle.label.specs.Limits.{longest, most_rows}
use Rattle.label.specs.declared.Edition.{Edition}
use Rattle.label.specs.Envelope.{Envelope}
use Rattle.label.specs.Message.{header, rows_of}
use Rattle.label.specs.ReadEnvelope.{Step, closed, whole, refuse, refuse_at, read_envelope}

pub data Outcome : Type 0 where
  read : List Envelope → Outcome
  refused : Reason → ℕ → Outcome

-- the offset at which the last bytes of a message begin
abbrev pub place_of : Bytes → Bytes → ℕ
place_of m last = length m - length last

-- an envelope in front of those that follow
abbrev pub and_then : Envelope → Outcome → Outcome
and_then e (read es) = read (e ∷ es)
and_then e (refused reason place) = refused reason place

-- behind the EOT that follows an envelope: the end, or 5
abbrev pub after_trailer : Bytes → Bytes → Outcome
after_trailer m [] = read []
after_trailer m (b ∷ bs) = refused BytesAfterTrailer (place_of m (b ∷ bs))

-- at a boundary after an envelope: 4, then EOT, then the next envelope
abbrev pub at_boundary : Bytes → (Bytes → Outcome) → Bytes → Outcome
at_boundary m next [] = refused NoTrailer (length m)
at_boundary m next (b ∷ bs) = elim (eqb b EOT) [ true ↦ after_trailer m bs | false ↦ next (b ∷ bs) ]

-- after an envelope that begins at bs, or none
abbrev pub follow : Bytes → (Bytes → Outcome) → Bytes → Step → Outcome
follow m next bs (closed e left) = and_then e (at_boundary m next left)
follow m next bs (whole e) = read (e ∷ [])
follow m next bs (refuse reason) = refused reason (place_of m bs)
follow m next bs (refuse_at reason from) = refused reason (place_of m from)

-- the envelopes from the left, at most n of them
unfoldable pub walk : Edition → Bytes → ℕ → Bool → Bytes → Outcome
walk edition m zero first bs = refused NoIndicator (place_of m bs)
walk edition m (suc n) first bs = follow m (walk edition m n false) bs (read_envelope edition first bs)

-- with one more than there are bytes to walk over, which never run out
unfoldable pub unbounded_walk : Edition → Bytes → Bool → Bytes → Outcome
unbounded_walk edition m first bs = walk edition m (suc (length bs)) first bs

-- a message has fewer envelopes than bytes, so that this many never run out
abbrev pub enough : Bytes → ℕ
enough m = length m

-- how many first bytes agree with a header: all of it, or the first offset that differs, or the length if cut short
abbrev pub agreement : Bytes → Bytes → ℕ
agreement [] m = 0
agreement (h ∷ hs) [] = 0
agreement (h ∷ hs) (b ∷ bs) = cond (eqb b h) (suc (agreement hs bs)) 0

-- only when all envelopes stand: 13
abbrev pub within_rows : Outcome → Outcome
within_rows (read es) = cond (ltb most_rows (length (rows_of es))) (refused TooManyRows 0) (read es)
within_rows (refused reason place) = refused reason place

-- 1, 2, then the envelopes, then 13
unfoldable pub reading : Edition → Bytes → Outcome
reading edition m =
    cond (ltb longest (length m)) (refused TooLong longest)
    (cond (ltb (agreement header m) (length header)) (refused NoMessageHeader (agreement header m))
    (within_rows (walk edition m (enough m) true (drop (length header) m))))
