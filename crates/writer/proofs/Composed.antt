-- From what is laid out and compared to what is composed, and from that to the answer and the output.
use Rattle.std.specs.Prelude.{Err, Ok, None, Option, Some}
use Prim.Native.Nat.{ℕ, ◌≤◌, ◌<◌}
use mathlib.Core.Path.{◌≡◌, refl, sym, ap, ◌∙◌}
use mathlib.Core.Bool.{Bool, true, false, cond}
use mathlib.Core.List.{List, [], ◌∷◌, ◌++◌, map}
use native.Mathlib.Omega.{arith}
use borrow.Author.Tests.{lt-ltb, le-ltb}
use lib.Dec.{eqb}
use lib.ListN.{length, drop}
use Rattle.std.proofs.lemmas.Bool.Decides.{nat_tests}
use Rattle.label.specs.declared.WriteReason.{WriteReason}
use Rattle.label.specs.declared.WriteReason.TheVariants.{BadRows, NoSuchMessage, NoOutputRoom}
use Rattle.label.specs.Bytes.{Bytes}
use Rattle.label.specs.Limits.{longest}
use Rattle.label.specs.Layout.{Item, Row, items_of}
use Rattle.label.specs.Message.{message_parts, rows_of}
use Rattle.label.specs.ReadMessage.{Outcome, read, refused, reading}
use Rattle.label.specs.declared.Edition.{Edition}
use Rattle.label.specs.Answer.{rows_read}
use Rattle.label.specs.Rendered.{rendered}
use Rattle.label.specs.Writing.{rows_in, ordinals_in, rows_stand, item_in, items_in, same_ordinals, if_same, composed, written, declined, writing, write_answer_of, write_answer, output_after, Writing}
use Rattle.label.specs.Counting.{kinds_of, item_kinds, by_counting}
use Rattle.label.proofs.AllDefinitions.{all_definitions}
use Rattle.label.proofs.Promises.{accepted_is_good}
use Rattle.label.proofs.Rendering.{rendered_good}
use Rattle.label.proofs.Composing.{composed_good, composed_not_counted, items_decide, bad_rows, rows_fit, answer_numbers, output_bytes}
use Rattle.given.specs.Given.{ordinals_counted, alike}
use Rattle.given.proofs.GivenLaws.{stands_so}
use Rattle.writer.proofs.Comparing.{same_as_like, rows_like, rows_counted, not_as_many}

from_nothing : (edition : Edition) → composed edition [] [] ≡ None
unfolding all_definitions
from_nothing edition = refl

pub some_numbers : (ns : List ℕ) → eqb (length ns) 0 ≡ false → 0 < length ns
some_numbers ns is = grind (arith, nat_tests)

module _ (edition : Edition) (held : Bytes) (ns : List ℕ) where
  abbrev items : List Item
  items = items_in held ns

  abbrev ordinals : List ℕ
  ordinals = ordinals_in ns

  abbrev laid : Bytes
  laid = rendered items

  -- counting the rows is counting the items that they name
  kinds_named : (rs : List Row) → item_kinds (map (item_in held) rs) ≡ kinds_of rs
  kinds_named [] = refl
  kinds_named (r ∷ rs) = ap (λ ks. r.kind ∷ ks) (kinds_named rs)

  counted_items : same_ordinals (by_counting (item_kinds items)) ordinals ≡ ordinals_counted ns
  counted_items = ap (λ ks. same_ordinals (by_counting ks) ordinals) (kinds_named (rows_in ns))

  -- ordinals that are not counted right are no message's
  pub composed_not_true : ordinals_counted ns ≡ false → composed edition items ordinals ≡ None
  composed_not_true other = composed_not_counted edition items ordinals (counted_items ∙ other)

  -- what is laid out is composed where its rows are alike those given
  composed_by_rows : rows_stand held ns ≡ true → ordinals_counted ns ≡ true → 0 < length ns
      → composed edition items ordinals ≡ cond (alike (rows_read (reading edition laid)) (rows_in ns)) (Some laid) None
  unfolding composed rows_of
  composed_by_rows stand true_ones more = by (reading edition laid) refl
    where
      by : (o : Outcome) → reading edition laid ≡ o → if_same items ordinals laid o ≡ cond (alike (rows_read o) (rows_in ns)) (Some laid) None
      by (read es) says =
          let renders = rendered_good edition laid es (accepted_is_good edition laid es says) in
          ap (λ t. cond t (Some laid) None)
          (items_decide edition items ordinals (counted_items ∙ true_ones) es ∙ same_as_like (items_of (message_parts es)) items renders ∙ sym (rows_like held 0 (message_parts es) (rows_in ns) (stands_so held ns stand).lie))
      by (refused r p) says =
          ap (λ t. cond t (Some laid) None)
          (not_as_many [] (rows_in ns) (λ same. omega (arith, rows_counted ns, (stands_so held ns stand).whole)))

  -- so by the comparison with what is read in what is laid out
  composed_compared : rows_stand held ns ≡ true → ordinals_counted ns ≡ true → 0 < length ns → (out : Bytes) → out ≡ laid
      → (t : Bool) → t ≡ alike (rows_read (reading edition out)) (rows_in ns) → composed edition items ordinals ≡ cond t (Some laid) None
  composed_compared stand true_ones more out is t says =
      composed_by_rows stand true_ones more
      ∙ ap (λ t. cond t (Some laid) None) (sym (says ∙ ap (λ m. alike (rows_read (reading edition m)) (rows_in ns)) is))

  -- what is too long is not composed
  pub composed_not_long : longest < length laid → composed edition items ordinals ≡ None
  composed_not_long long = by (composed edition items ordinals) refl
    where
      by : (c : Option Bytes) → composed edition items ordinals ≡ c → c ≡ None
      by None is = refl
      by (Some m) is =
          let with = composed_good edition items ordinals m is in
          let renders : laid ≡ m = sym (ap rendered with.items) ∙ rendered_good edition m with.envelopes with.good in
          absurd (omega (arith, ap length renders, with.good.not_too_long))

  -- without rows nothing is composed
  pub composed_not_empty : length ns ≡ 0 → composed edition items ordinals ≡ None
  composed_not_empty empty = by ns empty
    where
      by : (ns : List ℕ) → length ns ≡ 0 → composed edition (items_in held ns) (ordinals_in ns) ≡ None
      by [] empty = from_nothing edition
      by (n ∷ ns) empty = absurd (omega arith)

  -- by the comparison: what is laid out, or nothing
  module _ (stand : rows_stand held ns ≡ true) (true_ones : ordinals_counted ns ≡ true) (more : 0 < length ns) (out : Bytes) (is : out ≡ laid) where
    pub composes_same : true ≡ alike (rows_read (reading edition out)) (rows_in ns) → Some out ≡ composed edition items ordinals
    composes_same says = ap Some is ∙ sym (composed_compared stand true_ones more out is true says)

    pub composes_other : false ≡ alike (rows_read (reading edition out)) (rows_in ns) → None ≡ composed edition items ordinals
    composes_other says = sym (composed_compared stand true_ones more out is false says)

  -- an answer, and the output afterwards, as the definitions have them
  pub record Answers (output out : Bytes) (a : Writing) : Type 0 where
    pub answer : write_answer_of a ≡ write_answer edition held ns (length output)
    pub bytes : out ≡ output_after edition held ns output

  declines : (output : Bytes) (reason : WriteReason) → writing edition held ns (length output) ≡ declined reason → Answers output output (Err reason)
  declines output reason says = record {
    answer = sym (answer_numbers edition held ns (length output) (declined reason) says);
    bytes = sym (output_bytes edition held ns output (declined reason) says);
  }

  module _ (output : Bytes) where
    pub answers_bad_rows : rows_stand held ns ≡ false → Answers output output (Err BadRows)
    answers_bad_rows fall = declines output BadRows (bad_rows edition held ns (length output) fall)

    module _ (stand : rows_stand held ns ≡ true) where
      pub answers_none : None ≡ composed edition items ordinals → Answers output output (Err NoSuchMessage)
      answers_none none = declines output NoSuchMessage (rows_fit edition held ns (length output) None stand (sym none))

      module _ (message : Bytes) (some : Some message ≡ composed edition items ordinals) where
        pub answers_no_room : length output < length message → Answers output output (Err NoOutputRoom)
        answers_no_room short =
            declines output NoOutputRoom
            (rows_fit edition held ns (length output) (Some message) stand (sym some)
            ∙ ap (λ t. cond t (declined NoOutputRoom) (written message)) (lt-ltb (length output) (length message) short))

        pub answers_written : length message ≤ length output → (out : Bytes) → out ≡ message ++ drop (length message) output → Answers output out (Ok (length message))
        answers_written room out is_out =
            let says = rows_fit edition held ns (length output) (Some message) stand (sym some)
            ∙ ap (λ t. cond t (declined NoOutputRoom) (written message)) (le-ltb (length output) (length message) room) in
            record {
              answer = sym (answer_numbers edition held ns (length output) (written message) says);
              bytes = is_out ∙ sym (output_bytes edition held ns output (written message) says);
            }
