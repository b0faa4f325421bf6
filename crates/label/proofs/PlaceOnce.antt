-- A reason and a place that are so for a message are what it is answered with. So there is one of each, and none for a good message.
use Prim.Native.Nat.{ℕ, zero, suc, ◌+◌, ◌/◌, ◌≤◌, ◌<◌}
use mathlib.Core.Path.{◌≡◌, refl, sym, ap, ◌∙◌, subst}
use mathlib.Core.Bool.{Bool, true, false, ◌||◌, cond, true≢false, false≢true, not}
use mathlib.Core.Logic.{inl, inr}
use mathlib.Core.List.{List, [], ◌∷◌, ◌++◌}
use native.Mathlib.Omega.{arith}
use borrow.Author.Tests.{le-ltb, lt-ltb, ne_eqb, not-true}
use lib.ListN.{length, drop, length-append}
use lib.Dec.{eqb, ltb}
use Rattle.std.proofs.lemmas.Bool.{or_right}
use Rattle.label.specs.declared.Reason.{Reason}
use Rattle.label.specs.declared.Reason.TheVariants.{TooLong, NoMessageHeader, NoIndicator, NoTrailer, BytesAfterTrailer, UnknownFormat, NotFirst, BadFormatHeader, PayloadDoesNotFit, ByteNotPermitted, BodyBreaksRules, NoRecordSeparator, TooManyRows, NoRoom, BadFieldCount, FieldTooShort, FieldTooLong, BadFieldBytes}
use Rattle.label.specs.Bytes.{Bytes, EOT, RS, is_empty}
use Rattle.label.specs.Limits.{longest, most_rows}
use Rattle.label.specs.declared.Edition.{Edition}
use Rattle.label.specs.Layout.{bytes_of}
use Rattle.label.specs.Envelope.{Envelope}
use Rattle.label.specs.Written.{parts}
use Rattle.label.specs.Message.{header, rows_of, Good}
use Rattle.label.specs.ReadEnvelope.{Step, refuse, refuse_at, read_envelope}
use Rattle.label.specs.ReadMessage.{Outcome, read, refused, place_of, after_trailer, at_boundary, follow, walk, enough, agreement, within_rows, reading}
use Rattle.label.specs.Place.{in_front, Front, goes_on, AtEnvelope, AtPiece, AtEnd, BehindTrailer, TooManyFor, PlaceFor}
use Rattle.label.proofs.Laid.{format_of, bytes_envelope}
use Rattle.label.proofs.FaultComplete.{fault_pass}
use Rattle.label.proofs.MessageBytes.{closed_bytes, front_bytes}
use Rattle.label.proofs.Placed.{placed_first}
use Rattle.label.proofs.WalkComplete.{walk_over, all_refused}
use Rattle.label.proofs.Places.{place_of_rest}
use Rattle.label.proofs.ReadingComplete.{header_pass, rows_left, reading_pass}

module _ (edition : Edition) (m : Bytes) where
  -- behind what stands in front
  front_pass : (before : List Envelope) (rest : Bytes) → Front edition m before rest → length m ≤ longest → (o : Outcome) → walk edition m (enough m) true (closed_bytes before rest) ≡ o → reading edition m ≡ within_rows o
  front_pass before rest front short o walks =
      let is : m ≡ header ++ closed_bytes before rest = front.bytes ∙ front_bytes before rest in
      subst (λ (x : Bytes). length x ≤ longest → walk edition x (enough x) true (closed_bytes before rest) ≡ o → reading edition x ≡ within_rows o) (sym is)
      (λ short walks. header_pass edition (closed_bytes before rest) short ∙ ap within_rows walks) short walks

  -- one envelope or more in front: it is refused as at the boundary behind them
  boundary_refused : (before : List Envelope) (rest : Bytes) (r : Reason) (p : ℕ) → Front edition m before rest → length m ≤ longest → is_empty before ≡ false
      → ((k : ℕ) → length rest < k → at_boundary m (walk edition m k false) rest ≡ refused r p) → reading edition m ≡ refused r p
  boundary_refused [] rest r p front short some there = absurd (true≢false some)
  boundary_refused (e ∷ es) rest r p front short some there =
      front_pass (e ∷ es) rest front short (refused r p)
      (walk_over edition m (enough m) true e es rest (refused r p)
      (omega (arith, ap length (front.bytes ∙ front_bytes (e ∷ es) rest), length-append header (closed_bytes (e ∷ es) rest)))
      front.within (placed_first (e ∷ es) front.only_first front.no_rest) there
      ∙ all_refused (e ∷ es) r p)

  -- where an envelope is due the walk refuses it as it is itself refused
  envelope_refused : (k : ℕ) (first : Bool) (rest : Bytes) (s : Step) (r : Reason) (p : ℕ) → length rest < k → read_envelope edition first rest ≡ s
      → ((next : Bytes → Outcome) → follow m next rest s ≡ refused r p) → walk edition m k first rest ≡ refused r p
  unfolding walk
  envelope_refused zero first rest s r p bound answer refuses = absurd (omega arith)
  envelope_refused (suc n) first rest s r p bound answer refuses = ap (follow m (walk edition m n false) rest) answer ∙ refuses (walk edition m n false)

  goes_on_lem : (next : Bytes → Outcome) (rest : Bytes) → goes_on rest ≡ true → at_boundary m next rest ≡ next rest
  goes_on_lem next [] on = absurd (false≢true on)
  goes_on_lem next (b ∷ bs) on = by (eqb b EOT) (not-true (eqb b EOT) on)
    where
      by : (t : Bool) → t ≡ false → ◌≡◌ {A = Outcome} (elim t [ true ↦ after_trailer m bs | false ↦ next (b ∷ bs) ]) (next (b ∷ bs))
      by true is = absurd (true≢false is)
      by false is = refl

  due_refused : (before : List Envelope) (rest : Bytes) (s : Step) (r : Reason) (p : ℕ) → Front edition m before rest → length m ≤ longest → (is_empty before || goes_on rest) ≡ true
      → read_envelope edition (is_empty before) rest ≡ s → ((next : Bytes → Outcome) → follow m next rest s ≡ refused r p) → reading edition m ≡ refused r p
  due_refused [] rest s r p front short due answer refuses =
      front_pass [] rest front short (refused r p)
      (envelope_refused (enough m) true rest s r p (omega (arith, ap length front.bytes, length-append header rest)) answer refuses)
  due_refused (e ∷ es) rest s r p front short due answer refuses =
      boundary_refused (e ∷ es) rest r p front short refl
      (λ k bound. goes_on_lem (walk edition m k false) rest due ∙ envelope_refused k false rest s r p bound answer refuses)

  at_envelope : (r : Reason) (p : ℕ) → AtEnvelope edition m r p → reading edition m ≡ refused r p
  at_envelope r p at =
      due_refused at.before at.rest (refuse r) r p at.front at.short at.due at.answer
      (λ next. ap (refused r) (place_of_rest m (in_front at.before) at.rest at.front.bytes ∙ sym at.offset))

  -- an envelope begins with a digit
  envelope_goes_on : (e : Envelope) (rest : Bytes) → goes_on (bytes_of (parts e) ++ rest) ≡ true
  envelope_goes_on e rest = ap (λ x. goes_on (x ++ rest)) (bytes_envelope e) ∙ ap not (ne_eqb (0x30 + format_of e / 10) EOT (λ same. omega arith))

  at_piece : (r : Reason) (p : ℕ) → AtPiece edition m r p → reading edition m ≡ refused r p
  at_piece r p at =
      let refuses = fault_pass edition (is_empty at.before) at.envelope at.left r at.ahead at.fault at.in_place in
      due_refused at.before (bytes_of (parts at.envelope) ++ (RS ∷ at.left)) (refuse_at r refuses.from) r p at.front at.short
      (or_right (is_empty at.before) _ (envelope_goes_on at.envelope (RS ∷ at.left))) refuses.is
      (λ next. ap (refused r) (place refuses.from refuses.bytes))
    where
      place : (from : Bytes) → length (bytes_of (parts at.envelope) ++ (RS ∷ at.left)) ≡ length at.ahead + length from → place_of m from ≡ p
      place from bytes =
          omega (arith, ap length at.front.bytes, length-append (in_front at.before) (bytes_of (parts at.envelope) ++ (RS ∷ at.left)), bytes, at.offset, length-append (in_front at.before) at.ahead)

  at_end : (p : ℕ) → AtEnd edition m p → reading edition m ≡ refused NoTrailer p
  at_end p at = boundary_refused at.before [] NoTrailer p at.front at.short at.one_or_more (λ k bound. ap (refused NoTrailer) (sym at.offset))

  behind_trailer : (p : ℕ) → BehindTrailer edition m p → reading edition m ≡ refused BytesAfterTrailer p
  behind_trailer p at =
      boundary_refused at.before (EOT ∷ at.more) BytesAfterTrailer p at.front at.short at.one_or_more (λ k bound. by at.more at.some_more place)
    where
      place : place_of m at.more ≡ p
      place = omega (arith, ap length at.front.bytes, length-append (in_front at.before) (EOT ∷ at.more), at.offset)

      by : (more : Bytes) → is_empty more ≡ false → place_of m more ≡ p → after_trailer m more ≡ refused BytesAfterTrailer p
      by [] some place = absurd (true≢false some)
      by (b ∷ bs) some place = ap (refused BytesAfterTrailer) place

  too_many_lem : (p : ℕ) → TooManyFor edition m p → reading edition m ≡ refused TooManyRows p
  too_many_lem p at =
      rows_left edition m at.envelopes at.good
      ∙ ap (λ t. cond t (refused TooManyRows 0) (read at.envelopes)) (lt-ltb most_rows (length (rows_of at.envelopes)) (omega (arith, at.too_many)))
      ∙ ap (refused TooManyRows) (sym at.offset)

  too_long : (p : ℕ) → longest < length m → p ≡ longest → reading edition m ≡ refused TooLong p
  unfolding reading
  too_long p long place =
      ap (λ t. cond t (refused TooLong longest)
      (cond (ltb (agreement header m) (length header)) (refused NoMessageHeader (agreement header m)) (within_rows (walk edition m (enough m) true (drop (length header) m)))))
      (lt-ltb longest (length m) long)
      ∙ ap (refused TooLong) (sym place)

  no_header : (p : ℕ) → length m ≤ longest → p < length header → p ≡ agreement header m → reading edition m ≡ refused NoMessageHeader p
  unfolding reading
  no_header p short differs place =
      ap (λ t. cond t (refused TooLong longest)
      (cond (ltb (agreement header m) (length header)) (refused NoMessageHeader (agreement header m)) (within_rows (walk edition m (enough m) true (drop (length header) m)))))
      (le-ltb longest (length m) short)
      ∙ ap (λ t. cond t (refused NoMessageHeader (agreement header m)) (within_rows (walk edition m (enough m) true (drop (length header) m)))) (lt-ltb (agreement header m) (length header) (omega arith))
      ∙ ap (refused NoMessageHeader) (sym place)

  pub place_answered : (r : Reason) (p : ℕ) → PlaceFor edition m r p → reading edition m ≡ refused r p
  place_answered TooLong p so = too_long p so.0 so.1
  place_answered NoMessageHeader p so = no_header p so.0 so.1 so.2
  place_answered NoIndicator p so = at_envelope NoIndicator p so
  place_answered NoTrailer p so = at_end p so
  place_answered BytesAfterTrailer p so = behind_trailer p so
  place_answered UnknownFormat p so = at_envelope UnknownFormat p so
  place_answered NotFirst p so = at_envelope NotFirst p so
  place_answered BadFormatHeader p so = at_envelope BadFormatHeader p so
  place_answered PayloadDoesNotFit p so = at_envelope PayloadDoesNotFit p so
  place_answered ByteNotPermitted p so = at_envelope ByteNotPermitted p so
  place_answered BodyBreaksRules p (inl so) = at_envelope BodyBreaksRules p so
  place_answered BodyBreaksRules p (inr so) = at_piece BodyBreaksRules p so
  place_answered NoRecordSeparator p so = at_envelope NoRecordSeparator p so
  place_answered TooManyRows p so = too_many_lem p so
  place_answered NoRoom p so = absurd so
  place_answered BadFieldCount p so = at_piece BadFieldCount p so
  place_answered FieldTooShort p so = at_piece FieldTooShort p so
  place_answered FieldTooLong p so = at_piece FieldTooLong p so
  place_answered BadFieldBytes p so = at_piece BadFieldBytes p so

  pub one_place : (r r' : Reason) (p p' : ℕ) → PlaceFor edition m r p → PlaceFor edition m r' p' → (r ≡ r') × (p ≡ p')
  one_place r r' p p' so so' =
      let one = place_answered r p so in
      let two = place_answered r' p' so' in
      (cc, cc)

  pub none_if_good : (r : Reason) (p : ℕ) (es : List Envelope) → Good edition m es → PlaceFor edition m r p → ⊥
  none_if_good r p es good so =
      let z : ◌≡◌ {A = ℕ} 0 1 = cc (place_answered r p so, reading_pass edition m es good) in
      omega arith
