-- A message that is good with a list is read as just that list.
use Prim.Native.Nat.{suc, ◌≤◌}
use mathlib.Core.Path.{◌≡◌, refl, sym, ap, ◌∙◌, subst}
use mathlib.Core.Bool.{Bool, true, false, not, ◌||◌, cond, false≢true}
use mathlib.Core.List.{List, [], ◌∷◌, ◌++◌}
use native.Mathlib.Omega.{arith}
use borrow.Author.Tests.{le-ltb}
use lib.ListN.{length, length-append}
use Rattle.label.specs.declared.Reason.TheVariants.{TooLong, TooManyRows}
use Rattle.label.specs.Bytes.{Bytes, EOT, every}
use Rattle.label.specs.Limits.{longest, most_rows}
use Rattle.label.specs.declared.Edition.{Edition}
use Rattle.label.specs.Layout.{bytes_of}
use Rattle.label.specs.Envelope.{Envelope}
use Rattle.label.specs.Written.{parts}
use Rattle.label.specs.Message.{header, is_rest, is_rest_alone, message, rows_of, Good}
use Rattle.label.specs.Place.{GoodButForRows}
use Rattle.label.specs.ReadMessage.{read, refused, follow, walk, enough, within_rows, reading}
use Rattle.label.proofs.MessageBytes.{closed_bytes, message_closed, message_alone}
use Rattle.label.proofs.EnvelopeComplete.{whole_pass}
use Rattle.label.proofs.Placed.{placed_first}
use Rattle.label.proofs.WalkComplete.{walk_pass}

-- a short message that begins with the header is walked over
pub header_pass : (edition : Edition) (bs : Bytes) → length (header ++ bs) ≤ longest → reading edition (header ++ bs) ≡ within_rows (walk edition (header ++ bs) (enough (header ++ bs)) true bs)
unfolding reading
header_pass edition bs short =
    ap (λ t. cond t (refused TooLong longest) (within_rows (walk edition (header ++ bs) (enough (header ++ bs)) true bs))) (le-ltb longest (length (header ++ bs)) short)

closed_pass : (edition : Edition) (es : List Envelope) → is_rest_alone es ≡ false → GoodButForRows edition (message es) es → every (λ e. not (is_rest e)) es ≡ true
    → reading edition (message es) ≡ within_rows (read es)
closed_pass edition es not_alone good no_rest =
    let bs = closed_bytes es (EOT ∷ []) in
    let is = message_closed es not_alone in
    ap (reading edition) is
    ∙ header_pass edition bs (subst (λ (x : Bytes). length x ≤ longest) is good.not_too_long)
    ∙ ap within_rows (walk_pass edition (header ++ bs) (enough (header ++ bs)) true es (omega (arith, length-append header bs)) good.one_or_more good.within (placed_first es good.only_first no_rest))

alone_pass : (edition : Edition) (e : Envelope) → is_rest e ≡ true → GoodButForRows edition (message (e ∷ [])) (e ∷ []) → reading edition (message (e ∷ [])) ≡ within_rows (read (e ∷ []))
unfolding walk
alone_pass edition e is good =
    let bs = bytes_of (parts e) in
    let m = message_alone e is in
    ap (reading edition) m
    ∙ header_pass edition bs (subst (λ (x : Bytes). length x ≤ longest) m good.not_too_long)
    ∙ ap (λ s. within_rows (follow (header ++ bs) (walk edition (header ++ bs) (suc (suc (suc (length bs)))) false) bs s)) (whole_pass edition e good.within.0 is)

by_alone : (edition : Edition) (es : List Envelope) (t : Bool) → is_rest_alone es ≡ t → GoodButForRows edition (message es) es → (t || every (λ e. not (is_rest e)) es) ≡ true
    → reading edition (message es) ≡ within_rows (read es)
by_alone edition [] true is good or = absurd (false≢true is)
by_alone edition (e ∷ []) true is good or = alone_pass edition e is good
by_alone edition (e ∷ (e' ∷ es)) true is good or = absurd (false≢true is)
by_alone edition es false is good or = closed_pass edition es is good or

-- only the number of its rows is left to be asked
pub rows_left : (edition : Edition) (m : Bytes) (es : List Envelope) → GoodButForRows edition m es → reading edition m ≡ within_rows (read es)
rows_left edition m es good =
    subst (λ (x : Bytes). reading edition x ≡ within_rows (read es)) good.writes_out
    (by_alone edition es (is_rest_alone es) refl (subst (λ (x : Bytes). GoodButForRows edition x es) (sym good.writes_out) good) good.only_alone)

but_for_rows : (edition : Edition) (m : Bytes) (es : List Envelope) → Good edition m es → GoodButForRows edition m es
but_for_rows edition m es good = record {
  one_or_more = good.one_or_more;
  within = good.within;
  only_first = good.only_first;
  only_alone = good.only_alone;
  not_too_long = good.not_too_long;
  writes_out = good.writes_out;
}

pub reading_pass : (edition : Edition) (m : Bytes) (es : List Envelope) → Good edition m es → reading edition m ≡ read es
reading_pass edition m es good =
    rows_left edition m es (but_for_rows edition m es good)
    ∙ ap (λ t. cond t (refused TooManyRows 0) (read es)) (le-ltb most_rows (length (rows_of es)) good.not_too_many)
