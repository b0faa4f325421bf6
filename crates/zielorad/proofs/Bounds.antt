-- What is answered fits 32-bit numbers: places, counts of envelopes and rows, and byte counts are at most a message's greatest length.
use Rattle.std.specs.Prelude.{Err, Ok}
use Prim.Native.Nat.{ℕ, ◌≤◌, ◌<◌}
use mathlib.Core.Path.{◌≡◌, refl, sym, ap, ◌∙◌}
use mathlib.Core.Bool.{Bool, true, false, cond, false≢true}
use mathlib.Core.List.{List, [], ◌∷◌}
use native.Mathlib.Omega.{arith}
use borrow.Author.Tests.{leb-true, leb-false, lt-ltb}
use lib.ListN.{length, get_or, drop, length-append}
use lib.Dec.{leb, ltb}
use Rattle.label.specs.declared.Edition.{Edition}
use Rattle.label.specs.declared.Counts.{Counts}
use Rattle.label.specs.declared.Refusal.{Refusal}
use Rattle.label.specs.declared.Reason.TheVariants.{TooLong, NoMessageHeader, NoRoom}
use Rattle.label.specs.Bytes.{Bytes, EOT, RS}
use Rattle.label.specs.Limits.{longest, most_rows}
use Rattle.label.specs.Layout.{bytes_of}
use Rattle.label.specs.Envelope.{Envelope}
use Rattle.label.specs.Written.{parts}
use Rattle.label.specs.Message.{header, is_rest_alone, message, rows_of}
use Rattle.label.specs.ReadMessage.{Outcome, read, refused, agreement, within_rows, walk, enough, reading}
use Rattle.label.specs.Answer.{answer_of, accepted, refusal, answered, read_answer}
use Rattle.label.specs.Writing.{Composition, written, declined, writing, composed_answer, write_answer_of, write_answer}
use Rattle.label.proofs.MessageBytes.{closed_bytes, message_closed}
use Rattle.label.proofs.Promises.{accepted_is_good, place_within}
use Rattle.label.proofs.Composing.{tells}

too_long : (edition : Edition) (m : Bytes) → longest < length m → reading edition m ≡ refused TooLong longest
unfolding reading
too_long edition m long =
    ap (λ t. cond t (refused TooLong longest)
    (cond (ltb (agreement header m) (length header)) (refused NoMessageHeader (agreement header m)) (within_rows (walk edition m (enough m) true (drop (length header) m)))))
    (lt-ltb longest (length m) long)

-- envelopes are no more than bytes
closed_long : (es : List Envelope) (rest : Bytes) → length es ≤ length (closed_bytes es rest)
closed_long [] rest = omega arith
closed_long (e ∷ es) rest = omega (arith, closed_long es rest, length-append (bytes_of (parts e)) (RS ∷ closed_bytes es rest))

alone_one : (es : List Envelope) → is_rest_alone es ≡ true → length es ≤ 1
alone_one [] is = omega arith
alone_one (e ∷ []) is = omega arith
alone_one (e ∷ (e' ∷ es)) is = absurd (false≢true is)

envelopes_few : (es : List Envelope) → length (message es) ≤ longest → length es ≤ longest
envelopes_few es short = by (is_rest_alone es) refl
  where
    by : (t : Bool) → is_rest_alone es ≡ t → length es ≤ longest
    by true is = omega (arith, alone_one es is)
    by false is = omega (arith, ap length (message_closed es is), length-append header (closed_bytes es (EOT ∷ [])), closed_long es (EOT ∷ []))

module _ (edition : Edition) (m : Bytes) (room : ℕ) where
  pub record CountsSmall (counts : Counts) : Type 0 where
    pub envelopes : counts.envelopes ≤ longest
    pub rows : counts.rows ≤ most_rows

  pub counts_small : (counts : Counts) → answer_of (Ok counts) ≡ read_answer edition m room → CountsSmall counts
  unfolding read_answer
  counts_small counts says = by (reading edition m) refl says
    where
      by_room : (t : Bool) (e r : ℕ) → accepted counts.envelopes counts.rows ≡ cond t (refusal NoRoom 0) (accepted e r) → e ≤ longest → r ≤ most_rows → CountsSmall counts
      by_room true e r says es rs = absurd (omega (arith, ap length says))
      by_room false e r says es rs = record { envelopes = omega (arith, ap (λ l. get_or l 1 0) says); rows = omega (arith, ap (λ l. get_or l 2 0) says) }

      by : (o : Outcome) → reading edition m ≡ o → answer_of (Ok counts) ≡ answered room o → CountsSmall counts
      by (read es) is says =
          let good = accepted_is_good edition m es is in
          by_room (ltb room (length (rows_of es))) (length es) (length (rows_of es)) says (envelopes_few es (omega (arith, ap length good.writes_out, good.not_too_long))) good.not_too_many
      by (refused r p) is says = absurd (omega (arith, ap length says))

  pub place_small : (r : Refusal) → answer_of (Err r) ≡ read_answer edition m room → r.place ≤ longest
  unfolding read_answer
  place_small r says = by (leb (length m) longest) refl
    where
      by : (t : Bool) → leb (length m) longest ≡ t → r.place ≤ longest
      by true is = omega (arith, leb-true (length m) longest is, place_within edition m r.reason r.place room (sym says))
      by false is = omega (arith, ap (λ l. get_or l 1 0) (says ∙ ap (answered room) (too_long edition m (leb-false (length m) longest is))))

-- what is written is no longer than a message
pub count_small : (edition : Edition) (held : Bytes) (ns : List ℕ) (room n : ℕ) → write_answer_of (Ok n) ≡ write_answer edition held ns room → n ≤ longest
unfolding write_answer
count_small edition held ns room n says = by (writing edition held ns room) refl says
  where
    by : (c : Composition) → writing edition held ns room ≡ c → write_answer_of (Ok n) ≡ composed_answer c → n ≤ longest
    by (written w) is says = omega (arith, ap (λ l. get_or l 1 0) says, (tells edition held ns room (written w) is).2.good.not_too_long)
    by (declined reason) is says = absurd (omega (arith, ap length says))
