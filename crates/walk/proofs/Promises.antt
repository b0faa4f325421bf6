-- What the walk promises: from the first row of a message that is read it goes over exactly the rows of the reading, and each lies in the message.
use Prim.Native.Nat.{◌+◌, ◌≤◌, min}
use mathlib.Core.Path.{◌≡◌, refl, sym, ap, subst}
use mathlib.Core.Bool.{Bool, true, false, not, ◌||◌, cond, false≢true}
use mathlib.Core.List.{List, [], ◌∷◌, ◌++◌, map, append-nil}
use native.Mathlib.Omega.{arith}
use lib.ListN.{length, drop}
use Rattle.label.specs.Bytes.{Bytes, EOT, RS, every}
use Rattle.label.specs.declared.Edition.{Edition}
use Rattle.label.specs.Limits.{longest}
use Rattle.label.specs.Layout.{Part, mark, Row, separated, ended}
use Rattle.label.specs.Envelope.{Envelope, Within}
use Rattle.label.specs.Written.{parts}
use Rattle.label.specs.Message.{header, is_rest, is_rest_alone, message_parts, message, rows_of, Each, Good}
use Rattle.label.specs.ReadMessage.{Outcome, read, refused, reading}
use Rattle.label.specs.Answer.{rows_read}
use Rattle.label.proofs.RowItems.{rows_inside}
use Rattle.label.proofs.Promises.{accepted_is_good}
use Rattle.walk.specs.Cursors.{indicator_at, first_cursor}
use Rattle.walk.proofs.Walks.{Yields, Leads}
use Rattle.walk.proofs.Enveloped.{envelopes_lead, alone_leads}

-- the parts behind the header
abbrev behind_header : Bool → List Envelope → List Part
behind_header alone es = cond alone (separated RS (map parts es)) (ended RS (map parts es) ++ (mark EOT ∷ []))

module _ (edition : Edition) (m : Bytes) (es : List Envelope) (good : Good edition m es) where
  one_alone : (es : List Envelope) → Each (Within edition) es → is_rest_alone es ≡ true → Leads m (indicator_at m) (behind_header true es)
  one_alone [] within is = absurd (false≢true is)
  one_alone (e ∷ []) within is = subst (Leads m (indicator_at m)) (sym (append-nil (parts e))) (alone_leads edition m good.not_too_long e within.0 is)
  one_alone (e ∷ (e' ∷ es)) within is = absurd (false≢true is)

  all_lead : (t : Bool) → is_rest_alone es ≡ t → Leads m (indicator_at m) (behind_header t es)
  all_lead true is = one_alone es good.within is
  all_lead false is =
      envelopes_lead edition m good.not_too_long es good.within
      (subst (λ (t : Bool). (t || every (λ e. not (is_rest e)) es) ≡ true) is good.only_alone)

  -- from the first row of a good message the walk goes over its rows
  pub good_walk : Yields m (first_cursor m) (rows_of es)
  unfolding first_cursor rows_of message message_parts
  good_walk = all_lead (is_rest_alone es) refl (length header) (ap (drop (length header)) (sym good.writes_out))

-- from the first row of any message the walk goes over the rows that are read, of a refused message none; and each lies in the message, in the first
-- `longest` bytes
pub record Walked (m : Bytes) (rows : List Row) : Type 0 where
  pub yields : Yields m (first_cursor m) rows
  pub inside : Each (λ (r : Row). r.start + r.length ≤ min longest (length m)) rows

pub walked : (edition : Edition) (m : Bytes) → Walked m (rows_read (reading edition m))
unfolding rows_of message
walked edition m = by (reading edition m) refl
  where
    by : (o : Outcome) → reading edition m ≡ o → Walked m (rows_read o)
    by (read es) says =
        let good = accepted_is_good edition m es says in
        let long = ap length good.writes_out in
        record { yields = good_walk edition m es good; inside = rows_inside (min longest (length m)) 0 (message_parts es) (omega (arith, long, good.not_too_long)) }
    by (refused reason place) says = record { yields = tt; inside = tt }
