-- What the writer composes: the good message with the items that the rows name, if there is one, and then the answer, by rows, message and room. Composing
-- is rendering and reading back; a good message is what its items render to, so no good message is missed.
use Rattle.std.specs.Prelude.{None, Option, Some}
use Prim.Native.Nat.{ℕ, ◌≤◌, ◌<◌}
use mathlib.Core.Path.{◌≡◌, refl, sym, ap, ◌∙◌, subst}
use mathlib.Core.Bool.{Bool, true, false, ◌&&◌, cond, false≢true}
use mathlib.Core.List.{List, [], ◌∷◌}
use native.Mathlib.Omega.{arith}
use borrow.Author.Tests.{ltb-true, ltb-false, le-ltb, lt-ltb}
use lib.ListN.{length, take, length-map}
use lib.Seq.{take_at}
use lib.Dec.{ltb}
use Rattle.std.proofs.lemmas.Bool.{and_parts}
use Rattle.std.specs.Cmp.Derive.{both_true}
use Rattle.label.specs.declared.WriteReason.{WriteReason}
use Rattle.label.specs.declared.WriteReason.TheVariants.{BadRows, NoSuchMessage, NoOutputRoom}
use Rattle.label.specs.Bytes.{Bytes}
use Rattle.label.specs.declared.Edition.{Edition}
use Rattle.label.specs.Layout.{Item, items_of}
use Rattle.label.specs.Envelope.{Envelope}
use Rattle.label.specs.Message.{message_parts, rows_of, ordinals_of, Good}
use Rattle.label.specs.ReadMessage.{Outcome, read, refused, reading}
use Rattle.label.specs.Answer.{overlaid}
use Rattle.label.specs.Rendered.{rendered}
use Rattle.label.specs.Writing.{rows_in, ordinals_in, rows_stand, item_in, items_in, same_items, same_ordinals, if_same, composed, Composition, written, declined, fitting, writing, write_number, composed_answer, write_answer, composed_over, output_after}
use Rattle.label.specs.Counting.{item_kinds, by_counting}
use Rattle.label.specs.Promised.{MessageWith, LongerMessageWith, FittingMessageWith, NoMessageWith, ReadBack}
use Rattle.label.proofs.Numbers.{write_reasons_by_number}
use Rattle.label.proofs.Tests.{same_bytes_lem, bytes_same}
use Rattle.label.proofs.ReadingSound.{ReadingSo, reading_so}
use Rattle.label.proofs.ReadingComplete.{reading_pass}
use Rattle.label.proofs.Rendering.{rendered_good}
use Rattle.label.proofs.Ordinals.{items_counted}
use Rattle.label.proofs.RowItems.{rows_items, same_items_lem, items_same, table_items, table_ordinals}

module _ (edition : Edition) where
  -- two good messages with the same items are the same: both are what the items are rendered to
  pub one_rendered : (m m' : Bytes) (es es' : List Envelope) → Good edition m es → Good edition m' es' → items_of (message_parts es) ≡ items_of (message_parts es') → m ≡ m'
  one_rendered m m' es es' good good' same = sym (rendered_good edition m es good) ∙ ap rendered same ∙ rendered_good edition m' es' good'

  -- what is composed is a good message with these items and ordinals
  pub composed_good : (is : List Item) (os : List ℕ) (w : Bytes) → composed edition is os ≡ Some w → MessageWith edition is os w
  unfolding composed
  composed_good is os w says = by (reading edition (rendered is)) (reading_so edition (rendered is)) says
    where
      by : (o : Outcome) → ReadingSo edition (rendered is) o → if_same is os (rendered is) o ≡ Some w → MessageWith edition is os w
      by (read es) good says = by_items (same_items (items_of (message_parts es)) is && same_ordinals (ordinals_of es) os) refl says
        where
          by_items : (t : Bool) → (same_items (items_of (message_parts es)) is && same_ordinals (ordinals_of es) os) ≡ t → cond t (Some (rendered is)) None ≡ Some w → MessageWith edition is os w
          by_items true same says =
              let is_written : rendered is ≡ w = cc in
              let k = and_parts (same_items (items_of (message_parts es)) is) (same_ordinals (ordinals_of es) os) same in
              record {
                envelopes = es;
                good = subst (λ (m : Bytes). Good edition m es) is_written good;
                items = same_items_lem _ is k.0;
                ordinals = same_bytes_lem (ordinals_of es) os k.1;
              }
          by_items false same says = let z : ◌≡◌ {A = ℕ} 0 1 = cc in absurd (omega arith)
      by (refused r p) so says = let z : ◌≡◌ {A = ℕ} 0 1 = cc in absurd (omega arith)

  -- a good message is composed from its items and ordinals
  good_composed : (is : List Item) (os : List ℕ) (m : Bytes) → MessageWith edition is os m → composed edition is os ≡ Some m
  unfolding composed
  good_composed is os m with =
      let renders : rendered is ≡ m = ap rendered (sym with.items) ∙ rendered_good edition m with.envelopes with.good in
      (λ i. if_same is os (renders i) (reading edition (renders i)))
      ∙ ap (if_same is os m) (reading_pass edition m with.envelopes with.good)
      ∙ ap (λ t. cond t (Some m) None)
      (both_true (ap (λ js. same_items js is) with.items ∙ items_same is) (ap (λ ps. same_ordinals ps os) with.ordinals ∙ bytes_same os))

  -- Ordinals by counting: those that the items' kinds come to are the only ones with which a message is composed

  module _ (is : List Item) (os : List ℕ) where
    pub composed_not_counted : same_ordinals (by_counting (item_kinds is)) os ≡ false → composed edition is os ≡ None
    composed_not_counted other = by (composed edition is os) refl
      where
        by : (c : Option Bytes) → composed edition is os ≡ c → c ≡ None
        by None says = refl
        by (Some w) says =
            let with = composed_good is os w says in
            let own : by_counting (item_kinds is) ≡ os = ap (λ js. by_counting (item_kinds js)) (sym with.items) ∙ sym (items_counted with.envelopes) ∙ with.ordinals in
            absurd (false≢true (sym other ∙ ap (λ ps. same_ordinals ps os) own ∙ bytes_same os))

    -- and where they are given, the items alone decide
    pub items_decide : same_ordinals (by_counting (item_kinds is)) os ≡ true → (es : List Envelope)
        → (same_items (items_of (message_parts es)) is && same_ordinals (ordinals_of es) os) ≡ same_items (items_of (message_parts es)) is
    items_decide own es = by (same_items (items_of (message_parts es)) is) refl
      where
        by : (t : Bool) → same_items (items_of (message_parts es)) is ≡ t → (t && same_ordinals (ordinals_of es) os) ≡ t
        by true same = ap (λ ps. same_ordinals ps os) (items_counted es ∙ ap (λ js. by_counting (item_kinds js)) (same_items_lem (items_of (message_parts es)) is same)) ∙ own
        by false same = refl

  -- The answer, from the rows, the items and the room

  module _ (held : Bytes) (ns : List ℕ) where
    pub bad_rows : (room : ℕ) → rows_stand held ns ≡ false → writing edition held ns room ≡ declined BadRows
    unfolding writing
    bad_rows room stand = ap (λ t. cond t (fitting room (composed edition (items_in held ns) (ordinals_in ns))) (declined BadRows)) stand

    pub rows_fit : (room : ℕ) (c : Option Bytes) → rows_stand held ns ≡ true → composed edition (items_in held ns) (ordinals_in ns) ≡ c → writing edition held ns room ≡ fitting room c
    unfolding writing
    rows_fit room c stand is = ap (λ t. cond t (fitting room (composed edition (items_in held ns) (ordinals_in ns))) (declined BadRows)) stand ∙ ap (fitting room) is

    pub writes : (m : Bytes) → rows_stand held ns ≡ true → MessageWith edition (items_in held ns) (ordinals_in ns) m → (room : ℕ) → length m ≤ room → writing edition held ns room ≡ written m
    writes m stand with room enough =
        rows_fit room (Some m) stand (good_composed (items_in held ns) (ordinals_in ns) m with) ∙ ap (λ t. cond t (declined NoOutputRoom) (written m)) (le-ltb room (length m) enough)

    pub lacks_room : (m : Bytes) → rows_stand held ns ≡ true → MessageWith edition (items_in held ns) (ordinals_in ns) m → (room : ℕ) → room < length m → writing edition held ns room ≡ declined NoOutputRoom
    lacks_room m stand with room short =
        rows_fit room (Some m) stand (good_composed (items_in held ns) (ordinals_in ns) m with) ∙ ap (λ t. cond t (declined NoOutputRoom) (written m)) (lt-ltb room (length m) short)

    pub none_written : rows_stand held ns ≡ true → NoMessageWith edition (items_in held ns) (ordinals_in ns) → (room : ℕ) → writing edition held ns room ≡ declined NoSuchMessage
    none_written stand none_good room = by (composed edition (items_in held ns) (ordinals_in ns)) refl
      where
        by : (c : Option Bytes) → composed edition (items_in held ns) (ordinals_in ns) ≡ c → writing edition held ns room ≡ declined NoSuchMessage
        by None is = rows_fit room None stand is
        by (Some m) is = let with = composed_good (items_in held ns) (ordinals_in ns) m is in absurd (none_good m with.envelopes with.good with.items with.ordinals)

    -- what an answer tells of the rows, the items and the room
    abbrev pub WritingSo : ℕ → Composition → Type 0
    WritingSo room (written w) = (rows_stand held ns ≡ true) × (length w ≤ room) × MessageWith edition (items_in held ns) (ordinals_in ns) w
    WritingSo room (declined BadRows) = rows_stand held ns ≡ false
    WritingSo room (declined NoSuchMessage) = (rows_stand held ns ≡ true) × NoMessageWith edition (items_in held ns) (ordinals_in ns)
    WritingSo room (declined NoOutputRoom) = (rows_stand held ns ≡ true) × LongerMessageWith edition (items_in held ns) (ordinals_in ns) room

    writing_so : (room : ℕ) → WritingSo room (writing edition held ns room)
    unfolding writing
    writing_so room = by_rows (rows_stand held ns) refl
      where
        by_room : (m : Bytes) (t : Bool) → ltb room (length m) ≡ t → rows_stand held ns ≡ true → MessageWith edition (items_in held ns) (ordinals_in ns) m
            → WritingSo room (cond t (declined NoOutputRoom) (written m))
        by_room m true short stand with = (stand, record { message = m; with = with; longer = ltb-true room (length m) short })
        by_room m false enough stand with = (stand, ltb-false room (length m) enough, with)

        by_message : (c : Option Bytes) → composed edition (items_in held ns) (ordinals_in ns) ≡ c → rows_stand held ns ≡ true → WritingSo room (fitting room c)
        by_message None is stand =
            (stand, λ m es good items ordinals. let z : ◌≡◌ {A = ℕ} 0 1 = cc (good_composed (items_in held ns) (ordinals_in ns) m (record { envelopes = es; good = good; items = items; ordinals = ordinals })) in omega arith)
        by_message (Some m) is stand = by_room m (ltb room (length m)) refl stand (composed_good (items_in held ns) (ordinals_in ns) m is)

        by_rows : (t : Bool) → rows_stand held ns ≡ t → WritingSo room (cond t (fitting room (composed edition (items_in held ns) (ordinals_in ns))) (declined BadRows))
        by_rows true stand = by_message (composed edition (items_in held ns) (ordinals_in ns)) refl stand
        by_rows false stand = stand

    pub tells : (room : ℕ) (c : Composition) → writing edition held ns room ≡ c → WritingSo room c
    tells room c says = subst (WritingSo room) says (writing_so room)

    -- Read back

    pub reads_back : (w : Bytes) → MessageWith edition (items_in held ns) (ordinals_in ns) w → ReadBack edition held ns w
    unfolding rows_of
    reads_back w with = record {
      envelopes = with.envelopes;
      good = with.good;
      items = with.items;
      ordinals = with.ordinals;
      counted = rows_items 0 (message_parts with.envelopes) ∙ ap length with.items ∙ length-map (rows_in ns) (item_in held);
      table_same = λ table enough. table_items edition w with.envelopes with.good table enough ∙ with.items;
      table_ordinals = λ table enough. table_ordinals edition w with.envelopes with.good table enough ∙ with.ordinals;
    }

    -- The answer's numbers and the output

    pub answer_numbers : (room : ℕ) (c : Composition) → writing edition held ns room ≡ c → write_answer edition held ns room ≡ composed_answer c
    unfolding write_answer
    answer_numbers room c says = ap composed_answer says

    pub output_bytes : (output : Bytes) (c : Composition) → writing edition held ns (length output) ≡ c → output_after edition held ns output ≡ composed_over output c
    unfolding output_after
    output_bytes output c says = ap (composed_over output) says

    -- The answer's numbers the other way round: what they tell

    declined_by : (room : ℕ) (c : Composition) → WritingSo room c → (r : WriteReason) → composed_answer c ≡ write_number r ∷ [] → WritingSo room (declined r)
    declined_by room (written w) so r says = let z : ◌≡◌ {A = ℕ} 0 1 = cc in absurd (omega arith)
    declined_by room (declined r') so r says = subst (λ (x : WriteReason). WritingSo room (declined x)) (write_reasons_by_number r' r (cc)) so

    pub declined_so : (room : ℕ) (r : WriteReason) → write_answer edition held ns room ≡ write_number r ∷ [] → WritingSo room (declined r)
    unfolding write_answer
    declined_so room r says = declined_by room (writing edition held ns room) (writing_so room) r says

    written_by : (room : ℕ) (c : Composition) → WritingSo room c → (count : ℕ) → composed_answer c ≡ 0 ∷ count ∷ [] → (rows_stand held ns ≡ true) × FittingMessageWith edition (items_in held ns) (ordinals_in ns) room count
    written_by room (written w) so count says = (so.0, record { message = w; with = so.2; fits = so.1; its_length = cc })
    written_by room (declined r) so count says = let z : ◌≡◌ {A = ℕ} 0 1 = cc in absurd (omega arith)

    pub written_so : (room count : ℕ) → write_answer edition held ns room ≡ 0 ∷ count ∷ [] → (rows_stand held ns ≡ true) × FittingMessageWith edition (items_in held ns) (ordinals_in ns) room count
    unfolding write_answer
    written_so room count says = written_by room (writing edition held ns room) (writing_so room) count says

    pub so_written : (room count : ℕ) → (rows_stand held ns ≡ true) × FittingMessageWith edition (items_in held ns) (ordinals_in ns) room count → write_answer edition held ns room ≡ 0 ∷ count ∷ []
    so_written room count so =
        answer_numbers room (written so.1.message) (writes so.1.message so.0 so.1.with room so.1.fits) ∙ ap (λ n. 0 ∷ n ∷ []) (sym so.1.its_length)

    -- what is written stands at the beginning of the output
    pub read_from_output : (output : Bytes) (count : ℕ) → write_answer edition held ns (length output) ≡ 0 ∷ count ∷ [] → ReadBack edition held ns (take count (output_after edition held ns output))
    read_from_output output count says =
        let so = written_so (length output) count says in
        let m = so.1.message in
        let there : output_after edition held ns output ≡ overlaid m output = output_bytes output (written m) (writes m so.0 so.1.with (length output) so.1.fits) in
        subst (ReadBack edition held ns) (sym (ap (take count) there ∙ take_at m _ count (sym so.1.its_length))) (reads_back m so.1.with)
