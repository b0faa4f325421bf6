-- What is handed back for a row is its own content, and rows stand in message order.
use Prim.Native.Nat.{ℕ, zero, suc, ◌+◌, ◌≤◌}
use mathlib.Core.Path.{◌≡◌, refl, ap, ◌∙◌}
use mathlib.Core.List.{List, [], ◌∷◌, map}
use native.Mathlib.Omega.{arith}
use lib.ListN.{length}
use Rattle.label.specs.Bytes.{Bytes}
use Rattle.label.specs.declared.Edition.{Edition}
use Rattle.label.specs.Layout.{Part, mark, item, Row, rows_from, items_of}
use Rattle.label.specs.Envelope.{Envelope}
use Rattle.label.specs.Message.{message_parts, rows_of, Good}
use Rattle.label.specs.Answer.{rows_read}
use Rattle.label.specs.Part.{empty_start, stretch_at, part_of}
use Rattle.label.specs.Writing.{item_in}
use Rattle.label.specs.Promised.{NoneGood, InOrder, bytes_at, content_at}
use Rattle.label.proofs.ReadingComplete.{reading_pass}
use Rattle.label.proofs.RowItems.{rows_named}
use Rattle.label.proofs.Answers.{refused_or_good}

-- a row's stretch holds what the row names
stretch_named : (held : Bytes) (rs : List Row) (n : ℕ) → bytes_at held (stretch_at rs n) ≡ content_at (map (item_in held) rs) n
stretch_named held [] n = refl
stretch_named held (r ∷ rs) zero = refl
stretch_named held (r ∷ rs) (suc n) = stretch_named held rs n

behind_the_last : (rs : List Row) (n : ℕ) → length rs ≤ n → stretch_at rs n ≡ empty_start
behind_the_last [] n past = refl
behind_the_last (r ∷ rs) zero past = absurd (omega arith)
behind_the_last (r ∷ rs) (suc n) past = behind_the_last rs n (omega arith)

module _ (edition : Edition) (m : Bytes) where
  module _ (es : List Envelope) (good : Good edition m es) where
    pub rows_own : (n : ℕ) → part_of edition m n ≡ stretch_at (rows_of es) n
    unfolding part_of
    rows_own n = ap (λ o. stretch_at (rows_read o) n) (reading_pass edition m es good)

    pub own_content : (n : ℕ) → bytes_at m (part_of edition m n) ≡ content_at (items_of (message_parts es)) n
    own_content n =
        ap (bytes_at m) (rows_own n)
        ∙ stretch_named m (rows_of es) n
        ∙ ap (λ is. content_at is n) (rows_named edition m es good)

    pub none_behind : (n : ℕ) → length (rows_of es) ≤ n → part_of edition m n ≡ empty_start
    none_behind n past = rows_own n ∙ behind_the_last (rows_of es) n past

  pub none_of_refused : NoneGood edition m → (n : ℕ) → part_of edition m n ≡ empty_start
  unfolding part_of
  none_of_refused none_good n = ap (λ o. stretch_at (rows_read o) n) (refused_or_good edition m none_good).says

-- each row starts where the parts before it end
in_order_from : (low at : ℕ) (ps : List Part) → low ≤ at → InOrder low (rows_from at ps)
in_order_from low at [] within = tt
in_order_from low at (mark b ∷ ps) within = in_order_from low (at + 1) ps (omega arith)
in_order_from low at (item i ∷ ps) within = (within, in_order_from (at + length i.content) (at + length i.content) ps (omega arith))

pub in_order : (es : List Envelope) → InOrder 0 (rows_of es)
unfolding rows_of
in_order es = in_order_from 0 0 (message_parts es) (omega arith)
