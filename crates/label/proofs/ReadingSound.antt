-- What reading a message answers: the list with which the message is good, or a reason and a place that are so for it.
use Prim.Native.Nat.{ℕ, suc, ◌≤◌}
use mathlib.Core.Path.{◌≡◌, refl, sym, ap, ◌∙◌, subst}
use mathlib.Core.Bool.{Bool, true, false, not, cond}
use mathlib.Core.Logic.{◌⊎◌, inl, inr}
use mathlib.Core.List.{List, [], ◌∷◌, ◌++◌}
use native.Mathlib.Omega.{arith}
use borrow.Author.Tests.{eqb-true, ltb-true, ltb-false, not-true}
use lib.ListN.{length, drop, length-append}
use lib.Dec.{eqb, ltb}
use Rattle.std.proofs.lemmas.Bool.{and_parts, or_left, or_right}
use Rattle.label.specs.declared.Reason.TheVariants.{TooLong, NoMessageHeader, TooManyRows}
use Rattle.label.specs.Bytes.{Bytes, every}
use Rattle.label.specs.Limits.{longest, most_rows}
use Rattle.label.specs.declared.Edition.{Edition}
use Rattle.label.specs.Envelope.{Envelope}
use Rattle.label.specs.Message.{header, is_rest, is_rest_alone, rows_of, Good}
use Rattle.label.specs.Place.{GoodButForRows, PlaceFor}
use Rattle.label.specs.ReadMessage.{Outcome, read, refused, walk, enough, agreement, within_rows, reading}
use Rattle.label.proofs.MessageBytes.{message_closed, message_alone}
use Rattle.label.proofs.Placed.{only_first_lem, no_rest_lem}
use Rattle.label.proofs.WalkSound.{Alone, AllClosed, WalkSo, walk_so}
use Rattle.label.proofs.Places.{stop_place}

-- The header

agreement_by : (t : Bool) (h b : ℕ) (hs bs : Bytes) → eqb b h ≡ t → suc (length hs) ≤ cond t (suc (agreement hs bs)) 0 → (length hs ≤ agreement hs bs → bs ≡ hs ++ drop (length hs) bs) → b ∷ bs ≡ h ∷ (hs ++ drop (length hs) bs)
agreement_by true h b hs bs is agrees later = λ i. eqb-true b h is i ∷ later (omega arith) i
agreement_by false h b hs bs is agrees later = absurd (omega arith)

-- bytes that agree with all of a header begin with it
pub begins : (h m : Bytes) → length h ≤ agreement h m → m ≡ h ++ drop (length h) m
begins [] m agrees = refl
begins (h ∷ hs) [] agrees = absurd (omega arith)
begins (h ∷ hs) (b ∷ bs) agrees = agreement_by (eqb b h) h b hs bs refl agrees (begins hs bs)

pub not_alone : (es : List Envelope) → every (λ e. not (is_rest e)) es ≡ true → is_rest_alone es ≡ false
not_alone [] h = refl
not_alone (e ∷ []) h = not-true (is_rest e) (and_parts (not (is_rest e)) true h).0
not_alone (e ∷ (e' ∷ es)) h = refl

-- The whole

abbrev pub ReadingSo : Edition → Bytes → Outcome → Type 0
ReadingSo edition m (read es) = Good edition m es
ReadingSo edition m (refused r p) = PlaceFor edition m r p

-- what is good but for its rows, with few of them, is good
good_with_few : (edition : Edition) (m : Bytes) (es : List Envelope) → GoodButForRows edition m es → length (rows_of es) ≤ most_rows → Good edition m es
good_with_few edition m es good few = record {
  one_or_more = good.one_or_more;
  within = good.within;
  only_first = good.only_first;
  only_alone = good.only_alone;
  not_too_long = good.not_too_long;
  not_too_many = few;
  writes_out = good.writes_out;
}

module _ (edition : Edition) (m : Bytes) (bs : Bytes) (short : length m ≤ longest) (begun : m ≡ header ++ bs) where
  good_closed : (es : List Envelope) → AllClosed edition true bs es → GoodButForRows edition m es
  good_closed es all = record {
    one_or_more = all.one_or_more;
    within = all.within;
    only_first = only_first_lem es all.in_place;
    only_alone = or_right (is_rest_alone es) _ (no_rest_lem true es all.in_place);
    not_too_long = short;
    writes_out = message_closed es (not_alone es (no_rest_lem true es all.in_place)) ∙ sym (begun ∙ ap (λ x. header ++ x) all.bytes);
  }

  good_alone : (es : List Envelope) → Alone edition true bs es → GoodButForRows edition m es
  good_alone es a = subst (GoodButForRows edition m) (sym a.only) record {
    one_or_more = refl;
    within = (a.within, tt);
    only_first = refl;
    only_alone = or_left _ _ a.takes_rest;
    not_too_long = short;
    writes_out = message_alone a.one a.takes_rest ∙ sym (begun ∙ ap (λ x. header ++ x) a.bytes);
  }

  good_but_for_rows : (es : List Envelope) → Alone edition true bs es ⊎ AllClosed edition true bs es → GoodButForRows edition m es
  good_but_for_rows es (inl a) = good_alone es a
  good_but_for_rows es (inr all) = good_closed es all

  within_rows_so : (o : Outcome) → WalkSo edition m true bs o → ReadingSo edition m (within_rows o)
  within_rows_so (read es) so = by (ltb most_rows (length (rows_of es))) refl
    where
      by : (t : Bool) → ltb most_rows (length (rows_of es)) ≡ t → ReadingSo edition m (cond t (refused TooManyRows 0) (read es))
      by true many = record { envelopes = es; good = good_but_for_rows es so; too_many = omega (arith, ltb-true most_rows (length (rows_of es)) many); offset = refl }
      by false few = good_with_few edition m es (good_but_for_rows es so) (ltb-false most_rows _ few)
  within_rows_so (refused r p) so = stop_place edition m bs short begun r p so

pub reading_so : (edition : Edition) (m : Bytes) → ReadingSo edition m (reading edition m)
unfolding reading
reading_so edition m = by_length (ltb longest (length m)) refl
  where
    by_header : length m ≤ longest → (t : Bool) → ltb (agreement header m) (length header) ≡ t
        → ReadingSo edition m (cond t (refused NoMessageHeader (agreement header m)) (within_rows (walk edition m (enough m) true (drop (length header) m))))
    by_header short true differs = (short, ltb-true (agreement header m) (length header) differs, refl)
    by_header short false agrees =
        let bs = drop (length header) m in
        let begun = begins header m (ltb-false (agreement header m) (length header) agrees) in
        within_rows_so edition m bs short begun (walk edition m (enough m) true bs) (walk_so edition m (enough m) true bs (omega (arith, ap length begun, length-append header bs)))

    by_length : (t : Bool) → ltb longest (length m) ≡ t
        → ReadingSo edition m (cond t (refused TooLong longest)
        (cond (ltb (agreement header m) (length header)) (refused NoMessageHeader (agreement header m)) (within_rows (walk edition m (enough m) true (drop (length header) m)))))
    by_length true long = (ltb-true longest (length m) long, refl)
    by_length false short = by_header (ltb-false longest (length m) short) (ltb (agreement header m) (length header)) refl
