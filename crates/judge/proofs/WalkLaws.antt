-- A turn of the walk: by what is found of an envelope, the message comes to the same from the next state on, and that lies further to the right.
use Rattle.std.specs.Prelude.{Result, Err, Ok}
use Prim.Native.Nat.{ℕ, ◌+◌, ◌-◌, ◌≤◌, ◌<◌}
use mathlib.Core.Path.{◌≡◌, refl, sym, ap, ◌∙◌}
use mathlib.Core.Bool.{Bool, true, false, cond}
use mathlib.Core.List.{[], ◌∷◌, ◌++◌}
use native.Mathlib.Omega.{arith}
use borrow.Author.Tests.{ne_eqb, leb-true, leb-false, le-leb, lt-leb}
use native.Mathlib.Nat.{add-zero}
use lib.ListN.{length, get_or, drop, length-append, length-drop}
use lib.Seq.{drop-drop, drop-append-add}
use lib.Dec.{leb, eqb}
use Rattle.std.proofs.lemmas.Bool.{cond-true, cond-false}
use Rattle.std.proofs.lemmas.List.{drop_more, drop_all}
use Rattle.label.specs.declared.Counts.{Counts}
use Rattle.label.specs.declared.Refusal.{Refusal}
use Rattle.label.specs.declared.Reason.TheVariants.{NoTrailer, BytesAfterTrailer}
use Rattle.label.specs.declared.Edition.{Edition}
use Rattle.label.specs.Bytes.{Bytes, EOT, RS}
use Rattle.label.specs.Layout.{bytes_of}
use Rattle.label.specs.Envelope.{Envelope}
use Rattle.label.specs.Written.{parts}
use Rattle.label.specs.ReadEnvelope.{Step, closed, whole, refuse, refuse_at, read_envelope}
use Rattle.label.specs.ReadMessage.{Outcome, read, refused, place_of, and_then, after_trailer, at_boundary, follow, unbounded_walk}
use Rattle.label.proofs.EnvelopeSound.{StepSo, step_so}
use Rattle.label.proofs.Walk.{one_step_then_walk}
use Rattle.envelope.specs.declared.Found.TheVariants.{Closed, Whole}
use Rattle.envelope.specs.Shown.{row_count, shown}
use Rattle.judge.specs.declared.State.{State}
use Rattle.judge.specs.Shown.{placed, total_rows, tallied}
use Rattle.judge.specs.Turns.{first_due, done, go, result_from, result_of, with_envelope, result_after, Sound, Further, TurnSo, boundary_turn}
use Rattle.judge.proofs.RowBounds.{few_rows_lem}

-- At a boundary

module _ (m : Bytes) (at : ℕ) (counts : Counts) where
  pub boundary_next : at < length m → eqb (get_or m at 0) EOT ≡ false → go (record { at = at; counts = counts }) ≡ boundary_turn m at counts
  boundary_next inside other = sym (cond-false _ _ _ (lt-leb (length m) at inside) ∙ cond-false _ _ _ other)

  pub boundary_last : at < length m → eqb (get_or m at 0) EOT ≡ true → length m ≤ at + 1 → done counts ≡ boundary_turn m at counts
  boundary_last inside is past = sym (cond-false _ _ _ (lt-leb (length m) at inside) ∙ cond-true _ _ _ is ∙ cond-true _ _ _ (le-leb (length m) (at + 1) past))

  trailer_law : (edition : Edition) (rest : Bytes) → length rest ≡ length m - (at + 1) → at < length m
      → result_after edition m (cond (leb (length m) (at + 1)) (done counts) (Err (record { reason = BytesAfterTrailer; place = at + 1 })))
      ≡ tallied counts.envelopes counts.rows (after_trailer m rest)
  trailer_law edition [] long inside = ap (result_after edition m) (cond-true _ _ _ (le-leb (length m) (at + 1) (omega arith))) ∙ (λ i. Ok (record { envelopes = sym (add-zero counts.envelopes) i; rows = sym (add-zero counts.rows) i }))
  trailer_law edition (b ∷ rest) long inside =
      ap (result_after edition m) (cond-false _ _ _ (lt-leb (length m) (at + 1) (omega arith))) ∙ ap (λ p. Err (record { reason = BytesAfterTrailer; place = p })) place
    where
      place : at + 1 ≡ length m - length (b ∷ rest)
      place = omega arith

  -- what a boundary comes to
  pub boundary_law : (edition : Edition) → at ≤ length m → eqb counts.envelopes 0 ≡ false → result_after edition m (boundary_turn m at counts) ≡ tallied counts.envelopes counts.rows (at_boundary m (unbounded_walk edition m false) (drop at m))
  boundary_law edition inside some = by_end (leb (length m) at) refl
    where
      rest : Bytes
      rest = drop (at + 1) m

      by_byte : at < length m → (t : Bool) → eqb (get_or m at 0) EOT ≡ t
          → result_after edition m (cond t (cond (leb (length m) (at + 1)) (done counts) (Err (record { reason = BytesAfterTrailer; place = at + 1 })))
          (go (record { at = at; counts = counts })))
          ≡ tallied counts.envelopes counts.rows (elim t [ true ↦ after_trailer m rest | false ↦ unbounded_walk edition m false (get_or m at 0 ∷ rest) ])
      by_byte less true is = trailer_law edition rest (length-drop (at + 1) m) less
      by_byte less false is = λ i. tallied counts.envelopes counts.rows (unbounded_walk edition m (some i) (drop_more m at 0 less i))

      by_end : (t : Bool) → leb (length m) at ≡ t
          → result_after edition m (cond t (Err (record { reason = NoTrailer; place = at }))
          (cond (eqb (get_or m at 0) EOT) (cond (leb (length m) (at + 1)) (done counts) (Err (record { reason = BytesAfterTrailer; place = at + 1 })))
          (go (record { at = at; counts = counts }))))
          ≡ tallied counts.envelopes counts.rows (at_boundary m (unbounded_walk edition m false) (drop at m))
      by_end true past =
          let over = leb-true (length m) at past in
          let here : at ≡ length m = omega arith in
          ap (λ p. Err (record { reason = NoTrailer; place = p })) here ∙ sym (ap (λ l. tallied counts.envelopes counts.rows (at_boundary m (unbounded_walk edition m false) l)) (drop_all at m over))
      by_end false inside =
          let less = leb-false (length m) at inside in
          by_byte less (eqb (get_or m at 0) EOT) refl ∙ sym (ap (λ l. tallied counts.envelopes counts.rows (at_boundary m (unbounded_walk edition m false) l)) (drop_more m at 0 less))

  boundary_further : at ≤ length m → counts.envelopes ≤ at → counts.rows ≤ at → (from : ℕ) → from < at → Further m from (boundary_turn m at counts)
  boundary_further inside few_e few_r from less = by (leb (length m) at) (eqb (get_or m at 0) EOT) (leb (length m) (at + 1))
    where
      by : (s t u : Bool) → Further m from (cond s (Err (record { reason = NoTrailer; place = at }))
          (cond t (cond u (done counts) (Err (record { reason = BytesAfterTrailer; place = at + 1 })))
          (go (record { at = at; counts = counts }))))
      by true t u = tt
      by false true true = tt
      by false true false = tt
      by false false u = (record { inside = inside; few_envelopes = few_e; few_rows = few_r }, less)

-- an envelope in front is one more, with its rows
tallied_then : (envelopes rows : ℕ) (e : Envelope) (o : Outcome) → tallied envelopes rows (and_then e o) ≡ tallied (envelopes + 1) (rows + row_count e) o
tallied_then envelopes rows e (read es) = λ i. Ok (record { envelopes = one_more i; rows = its_rows i })
  where
    one_more : envelopes + length (e ∷ es) ≡ envelopes + 1 + length es
    one_more = omega arith

    its_rows : rows + (row_count e + total_rows es) ≡ rows + row_count e + total_rows es
    its_rows = omega arith
tallied_then envelopes rows e (refused r p) = refl

-- a refusal is the same whatever is answered where there is none
abbrev refusal_in : {A : Type 0} → Refusal → Result A Refusal → Refusal
refusal_in other (Ok x) = other
refusal_in other (Err r) = r

-- what follows an envelope begins where it ends
left_at : (m : Bytes) (at : ℕ) (e : Envelope) (left : Bytes) → at ≤ length m → drop at m ≡ bytes_of (parts e) ++ (RS ∷ left) → drop (length m - length left) m ≡ left
left_at m at e left inside is =
    let k = length (bytes_of (parts e)) + 1 in
    let long : length m - length left ≡ at + k = omega (arith, ap length is, length-append (bytes_of (parts e)) (RS ∷ left), length-drop at m) in
    ap (λ n. drop n m) long ∙ sym (drop-drop k at m) ∙ ap (drop k) is ∙ drop-append-add (bytes_of (parts e)) (RS ∷ left) 1

module _ (edition : Edition) (m : Bytes) (first : Bool) (s : State) (sound : Sound m s) where
  result_by : (step : Step) → read_envelope edition first (drop s.at m) ≡ step
      → result_from edition m first s ≡ tallied s.counts.envelopes s.counts.rows (follow m (unbounded_walk edition m false) (drop s.at m) step)
  result_by step is = ap (tallied s.counts.envelopes s.counts.rows) (one_step_then_walk edition m first (drop s.at m) ∙ ap (follow m (unbounded_walk edition m false) (drop s.at m)) is)

  -- where an envelope is closed, how far it reaches and how many rows it has
  pub record ClosedBy (next rows : ℕ) : Type 0 where
    pub inside : next ≤ length m
    pub further : s.at + rows < next
    pub same : result_after edition m (boundary_turn m next (with_envelope s.counts rows)) ≡ result_from edition m first s

  closed_by : (step : Step) → read_envelope edition first (drop s.at m) ≡ step → StepSo edition first (drop s.at m) step → (next rows : ℕ) → placed s.at (shown m step) ≡ Ok (Closed next rows) → ClosedBy next rows
  closed_by (closed e left) is so next rows found =
      let ends : length m - length left ≡ next = cc in
      let its : row_count e ≡ rows = cc in
      let within = sound.inside in
      let few = few_rows_lem e in
      let whole_long = ap length so.bytes in
      let parts_long = length-append (bytes_of (parts e)) (RS ∷ left) in
      let long = length-drop s.at m in
      let inside : next ≤ length m = omega arith in
      record {
        inside = inside;
        further = omega arith;
        same =
            boundary_law m next (with_envelope s.counts rows) edition inside (ne_eqb (s.counts.envelopes + 1) 0 (λ is. omega arith))
            ∙ (λ i. tallied (s.counts.envelopes + 1) (s.counts.rows + sym its i) (at_boundary m (unbounded_walk edition m false) ((ap (λ n. drop n m) (sym ends) ∙ left_at m s.at e left within so.bytes) i)))
            ∙ sym (tallied_then s.counts.envelopes s.counts.rows e (at_boundary m (unbounded_walk edition m false) left))
            ∙ sym (result_by (closed e left) is);
      }
  closed_by (whole e) is so next rows found = let z : ◌≡◌ {A = ℕ} 0 1 = cc in absurd (omega arith)
  closed_by (refuse r) is so next rows found = let z : ◌≡◌ {A = ℕ} 0 1 = cc in absurd (omega arith)
  closed_by (refuse_at r from) is so next rows found = let z : ◌≡◌ {A = ℕ} 0 1 = cc in absurd (omega arith)

  pub closed_first : (next rows : ℕ) → placed s.at (shown m (read_envelope edition first (drop s.at m))) ≡ Ok (Closed next rows) → ClosedBy next rows
  closed_first next rows found = closed_by (read_envelope edition first (drop s.at m)) refl (step_so edition first (drop s.at m)) next rows found

  pub closed_further : (next rows : ℕ) → ClosedBy next rows → Further m s.at (boundary_turn m next (with_envelope s.counts rows))
  closed_further next rows by =
      let a = by.further in
      let b = sound.few_envelopes in
      let c = sound.few_rows in
      boundary_further m next (with_envelope s.counts rows) by.inside (omega arith) (omega arith) s.at (omega arith)

module _ (edition : Edition) (m : Bytes) (s : State) (sound : Sound m s) where
  pub turn_closed : (next rows : ℕ) → placed s.at (shown m (read_envelope edition (first_due s) (drop s.at m))) ≡ Ok (Closed next rows) → ClosedBy edition m (first_due s) s sound next rows
  turn_closed next rows found = closed_first edition m (first_due s) s sound next rows found

  -- its rows are fewer than the bytes that are passed
  pub closed_few : (next rows : ℕ) → placed s.at (shown m (read_envelope edition (first_due s) (drop s.at m))) ≡ Ok (Closed next rows) → s.counts.rows + rows < length m
  closed_few next rows found = let by = turn_closed next rows found in omega (arith, by.further, by.inside, sound.few_rows)

  pub closed_so : (next rows : ℕ) → ClosedBy edition m (first_due s) s sound next rows → TurnSo edition m s (boundary_turn m next (with_envelope s.counts rows))
  closed_so next rows by = record { same = by.same; further = closed_further edition m (first_due s) s sound next rows by }

  whole_by : (step : Step) → read_envelope edition (first_due s) (drop s.at m) ≡ step → StepSo edition (first_due s) (drop s.at m) step → (rows : ℕ) → placed s.at (shown m step) ≡ Ok (Whole rows)
      → (rows ≤ length m) × (Ok (with_envelope s.counts rows) ≡ result_of edition m s)
  whole_by (closed e left) is so rows found = let z : ◌≡◌ {A = ℕ} 0 1 = cc in absurd (omega arith)
  whole_by (whole e) is so rows found =
      let its : row_count e ≡ rows = cc in
      let few = few_rows_lem e in
      let bytes_long = ap length so.bytes in
      let long = length-drop s.at m in
      let sum : s.counts.rows + rows ≡ s.counts.rows + (row_count e + 0) = omega arith in
      (omega arith, ap (λ n. Ok (record { envelopes = s.counts.envelopes + 1; rows = n })) sum ∙ sym (result_by edition m (first_due s) s sound (whole e) is))
  whole_by (refuse r) is so rows found = let z : ◌≡◌ {A = ℕ} 0 1 = cc in absurd (omega arith)
  whole_by (refuse_at r from) is so rows found = let z : ◌≡◌ {A = ℕ} 0 1 = cc in absurd (omega arith)

  pub turn_whole : (rows : ℕ) → placed s.at (shown m (read_envelope edition (first_due s) (drop s.at m))) ≡ Ok (Whole rows)
      → (rows ≤ length m) × (Ok (with_envelope s.counts rows) ≡ result_of edition m s)
  turn_whole rows found = whole_by (read_envelope edition (first_due s) (drop s.at m)) refl (step_so edition (first_due s) (drop s.at m)) rows found

  refused_by : (step : Step) → read_envelope edition (first_due s) (drop s.at m) ≡ step → (r : Refusal) → placed s.at (shown m step) ≡ Err r → Err r ≡ result_of edition m s
  refused_by (closed e left) is r found = let z : ◌≡◌ {A = ℕ} 0 1 = cc in absurd (omega arith)
  refused_by (whole e) is r found = let z : ◌≡◌ {A = ℕ} 0 1 = cc in absurd (omega arith)
  refused_by (refuse why) is r found =
      let long = length-drop s.at m in
      let within = sound.inside in
      let place : s.at ≡ place_of m (drop s.at m) = omega arith in
      ap Err (ap (refusal_in r) (sym found)) ∙ (λ i. Err (record { reason = why; place = place i })) ∙ sym (result_by edition m (first_due s) s sound (refuse why) is)
  refused_by (refuse_at why from) is r found = ap Err (ap (refusal_in r) (sym found)) ∙ sym (result_by edition m (first_due s) s sound (refuse_at why from) is)

  pub turn_refused : (r : Refusal) → placed s.at (shown m (read_envelope edition (first_due s) (drop s.at m))) ≡ Err r → Err r ≡ result_of edition m s
  turn_refused r found = refused_by (read_envelope edition (first_due s) (drop s.at m)) refl r found

pub ruleset turn_steps = (turn_closed, closed_few, turn_whole, turn_refused)
