-- The walk over the envelopes, a turn at a time: where it stands, and what the message comes to from there.
use Rattle.std.specs.Prelude.{Result, ℕ, ◌+◌, ◌≤◌, ◌<◌, ◌≡◌, Bool, cond, length, get_or, drop, leb, eqb, Err, Ok}
use Rattle.std.specs.declared.ops.ControlFlow.{ControlFlow}
use Rattle.std.specs.declared.ops.ControlFlow.TheVariants.{Break, Continue}
use Rattle.label.specs.ReadMessage.{unbounded_walk}
use Rattle.label.specs.declared.Reason.TheVariants.{NoTrailer, BytesAfterTrailer}
use Rattle.label.specs.declared.Edition.{Edition}
use Rattle.label.specs.Bytes.{Bytes, EOT}
use Rattle.judge.specs.declared.State.{State}
use Rattle.label.specs.declared.Counts.{Counts}
use Rattle.label.specs.declared.Refusal.{Refusal}
use Rattle.judge.specs.Shown.{tallied}
use Rattle.label.specs.Answer.{Reading}

-- whether no envelope was counted yet, so that the one that is due is the message's first
abbrev pub first_due : State → Bool
first_due s = eqb s.counts.envelopes 0

-- what a message comes to from a state on, given whether its first envelope is due there
abbrev pub result_from : Edition → Bytes → Bool → State → Reading
result_from edition m first s = tallied s.counts.envelopes s.counts.rows (unbounded_walk edition m first (drop s.at m))

abbrev pub result_of : Edition → Bytes → State → Reading
result_of edition m s = result_from edition m (first_due s) s

-- counts with another envelope, given its rows
abbrev pub with_envelope : Counts → ℕ → Counts
with_envelope counts rows = record { envelopes = counts.envelopes + 1; rows = counts.rows + rows }

-- what a turn comes to: the counts of a message that ends here, or where the walk goes on; or the refusal
abbrev pub Turned : Type 0
Turned = Result (ControlFlow Counts State) Refusal

abbrev pub done : Counts → Turned
done counts = Ok (Break counts)

abbrev pub go : State → Turned
go s = Ok (Continue s)

abbrev pub result_after : Edition → Bytes → Turned → Reading
result_after edition m (Ok (Break counts)) = Ok counts
result_after edition m (Ok (Continue s)) = result_of edition m s
result_after edition m (Err r) = Err r

-- a state that lies in the message, and has counted no more than it has passed
pub record Sound (m : Bytes) (s : State) : Type 0 where
  pub inside : s.at ≤ length m
  pub few_envelopes : s.counts.envelopes ≤ s.at
  pub few_rows : s.counts.rows ≤ s.at

abbrev pub Further : Bytes → ℕ → Turned → Type 0
Further m at (Ok (Break counts)) = Unit {0}
Further m at (Ok (Continue s)) = Sound m s × (at < s.at)
Further m at (Err r) = Unit {0}

-- a turn leaves the result as it is, and goes on further to the right
pub record TurnSo (edition : Edition) (m : Bytes) (s : State) (t : Turned) : Type 0 where
  pub same : result_after edition m t ≡ result_of edition m s
  pub further : Further m s.at t

-- at a boundary after an envelope, with the counts so far: 4, then EOT with 5, then the next envelope
abbrev pub boundary_turn : Bytes → ℕ → Counts → Turned
boundary_turn m at counts =
    cond (leb (length m) at) (Err (record { reason = NoTrailer; place = at }))
    (cond (eqb (get_or m at 0) EOT)
    (cond (leb (length m) (at + 1)) (done counts) (Err (record { reason = BytesAfterTrailer; place = at + 1 })))
    (go (record { at = at; counts = counts })))
