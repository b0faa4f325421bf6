-- The judgement of a message is what reading it comes to: the counts are the list's own, and the walk with no bound is the reading's.
use Rattle.std.specs.Prelude.{Err, Ok}
use Prim.Native.Nat.{ℕ, suc, ◌+◌, ◌≤◌, ◌<◌}
use mathlib.Core.Path.{◌≡◌, refl, sym, ap, ◌∙◌}
use mathlib.Core.Bool.{Bool, true, false, cond, false≢true}
use mathlib.Core.List.{List, [], ◌∷◌, ◌++◌, map}
use native.Mathlib.Omega.{arith}
use borrow.Author.Tests.{leb-true, lt-ltb, le-ltb}
use lib.ListN.{length, drop, length-drop}
use lib.Dec.{leb, ltb}
use Rattle.std.proofs.lemmas.Bool.{cond-true, cond-false}
use Rattle.label.specs.declared.Reason.TheVariants.{TooLong, NoMessageHeader, TooManyRows}
use Rattle.label.specs.declared.Counts.{Counts}
use Rattle.label.specs.declared.Refusal.{Refusal}
use Rattle.label.specs.declared.Edition.{Edition}
use Rattle.label.specs.Bytes.{Bytes, RS}
use Rattle.label.specs.Limits.{longest, most_rows}
use Rattle.label.specs.Layout.{Part, mark, marks, items_of, separated, ended}
use Rattle.label.specs.Envelope.{Envelope}
use Rattle.label.specs.Written.{parts}
use Rattle.label.specs.Message.{header, is_rest_alone, message_parts, rows_of}
use Rattle.label.specs.ReadMessage.{Outcome, read, refused, walk, enough, agreement, within_rows, reading, unbounded_walk}
use Rattle.label.proofs.Walk.{bound_is_enough}
use Rattle.label.proofs.Places.{agreement_inside}
use Rattle.label.specs.Answer.{Reading}
use Rattle.label.proofs.RowItems.{rows_items}
use Rattle.envelope.proofs.RowCounts.{items_append}
use Rattle.judge.specs.Shown.{judged_as, total_rows, tallied, limited}

items_ended : (es : List Envelope) (ps : List Part) → length (items_of (ended RS (map parts es) ++ ps)) ≡ total_rows es + length (items_of ps)
items_ended [] ps = omega arith
items_ended (e ∷ es) ps =
    omega (
      arith,
      items_append (parts e ++ (mark RS ∷ ended RS (map parts es))) ps,
      items_append (parts e) (mark RS ∷ ended RS (map parts es)),
      items_append (ended RS (map parts es)) ps,
      items_ended es ps,
    )

-- a message has its envelopes' rows
total_rows_lem : (es : List Envelope) → total_rows es ≡ length (rows_of es)
unfolding rows_of message_parts
total_rows_lem es = sym (rows_items 0 (message_parts es) ∙ by es (is_rest_alone es) refl)
  where
    by : (es : List Envelope) (t : Bool) → is_rest_alone es ≡ t → length (items_of (marks header ++ cond t (separated RS (map parts es)) (ended RS (map parts es) ++ (mark 4 ∷ [])))) ≡ total_rows es
    by es false is = items_ended es (mark 4 ∷ []) ∙ omega arith
    by [] true is = refl
    by (e ∷ []) true is = items_append (parts e) []
    by (e ∷ (e' ∷ es)) true is = absurd (false≢true is)

limited_law : (o : Outcome) → limited (tallied 0 0 o) ≡ judged_as (within_rows o)
limited_law (read es) = by (ltb most_rows (length (rows_of es))) refl
  where
    rows : 0 + total_rows es ≡ length (rows_of es)
    rows = omega (arith, total_rows_lem es)

    envelopes : 0 + length es ≡ length es
    envelopes = omega arith

    by : (t : Bool) → ltb most_rows (length (rows_of es)) ≡ t → limited (tallied 0 0 (read es)) ≡ judged_as (cond t (refused TooManyRows 0) (read es))
    by true many = cond-true _ _ _ (ap (ltb most_rows) rows ∙ many)
    by false few = cond-false _ _ _ (ap (ltb most_rows) rows ∙ few) ∙ (λ i. Ok (record { envelopes = envelopes i; rows = rows i }))
limited_law (refused r p) = refl

pub judge_long : (edition : Edition) (m : Bytes) → longest < length m → Err (record { reason = TooLong; place = longest }) ≡ judged_as (reading edition m)
unfolding reading
judge_long edition m long = sym (ap judged_as (cond-true _ _ _ (lt-ltb longest (length m) long)))

pub judge_header : (edition : Edition) (m : Bytes) (n : ℕ) → length m ≤ longest → n ≡ agreement header m → n < 4 → Err (record { reason = NoMessageHeader; place = n }) ≡ judged_as (reading edition m)
unfolding reading
judge_header edition m n short is differs =
    ap (λ p. Err (record { reason = NoMessageHeader; place = p })) is
    ∙ sym (ap judged_as (cond-false _ _ _ (le-ltb longest (length m) short) ∙ cond-true _ _ _ (lt-ltb (agreement header m) 4 (omega arith))))

pub judge_walk : (edition : Edition) (m : Bytes) → length m ≤ longest → 4 ≤ agreement header m → 4 ≤ length m → limited (tallied 0 0 (unbounded_walk edition m true (drop 4 m))) ≡ judged_as (reading edition m)
unfolding reading unbounded_walk
judge_walk edition m short agrees long =
    limited_law (walk edition m (suc (length (drop 4 m))) true (drop 4 m))
    ∙ ap (λ o. judged_as (within_rows o)) (bound_is_enough edition m (suc (length (drop 4 m))) (enough m) true (drop 4 m) (omega arith) (omega (arith, length-drop 4 m)))
    ∙ sym (ap judged_as (cond-false _ _ _ (le-ltb longest (length m) short) ∙ cond-false _ _ _ (le-ltb (agreement header m) 4 agrees)))

-- the same of what the walk answers, behind a header that is there

judge_comes : (edition : Edition) (m : Bytes) (walked : Reading) → length m ≤ longest → leb (length header) (agreement header m) ≡ true → walked ≡ tallied 0 0 (unbounded_walk edition m true (drop (length header) m)) → limited walked ≡ judged_as (reading edition m)
judge_comes edition m walked short headed is =
    let agrees = leb-true (length header) (agreement header m) headed in
    let inside = agreement_inside header m in
    ap limited is ∙ judge_walk edition m short (omega arith) (omega arith)

pub judge_refused : (edition : Edition) (m : Bytes) (r : Refusal) → length m ≤ longest → leb (length header) (agreement header m) ≡ true → Err r ≡ tallied 0 0 (unbounded_walk edition m true (drop (length header) m)) → Err r ≡ judged_as (reading edition m)
judge_refused edition m r short headed is = judge_comes edition m (Err r) short headed is

pub judge_many : (edition : Edition) (m : Bytes) (counts : Counts) → length m ≤ longest → leb (length header) (agreement header m) ≡ true → Ok counts ≡ tallied 0 0 (unbounded_walk edition m true (drop (length header) m)) → most_rows < counts.rows
    → Err (record { reason = TooManyRows; place = 0 }) ≡ judged_as (reading edition m)
judge_many edition m counts short headed is many = sym (cond-true _ _ _ (lt-ltb most_rows counts.rows many)) ∙ judge_comes edition m (Ok counts) short headed is

pub judge_few : (edition : Edition) (m : Bytes) (counts : Counts) → length m ≤ longest → leb (length header) (agreement header m) ≡ true → Ok counts ≡ tallied 0 0 (unbounded_walk edition m true (drop (length header) m)) → counts.rows ≤ most_rows
    → Ok counts ≡ judged_as (reading edition m)
judge_few edition m counts short headed is few = sym (cond-false _ _ _ (le-ltb most_rows counts.rows few)) ∙ judge_comes edition m (Ok counts) short headed is

pub ruleset judge_steps = (judge_long, judge_header, judge_refused, judge_many, judge_few)
