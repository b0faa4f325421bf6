-- Rows and what they name: the rows of parts name just the items of the parts, numbers are got back as rows, items that pass for the same are the same, and
-- a good message's rows stand in it and in the table that it was read into.
use Prim.Native.Nat.{ℕ, suc, ◌+◌, ◌*◌, ◌/◌, ◌%◌, ◌≤◌}
use mathlib.Core.Path.{◌≡◌, refl, sym, ap, ◌∙◌}
use mathlib.Core.Bool.{Bool, true, ◌&&◌, false≢true}
use mathlib.Core.List.{List, [], ◌∷◌, map}
use native.Mathlib.Omega.{arith}
use borrow.Author.Tests.{le-leb, eqb-true, eq-eqb}
use lib.ListN.{length, take, drop, length-append}
use lib.Seq.{take-append_seam, drop-append_seam, drop-drop, take_at}
use lib.Dec.{eqb}
use Rattle.std.proofs.lemmas.Bool.{and_parts}
use Rattle.std.specs.Cmp.Derive.{both_true}
use Rattle.label.specs.Bytes.{Bytes, every, same_bytes}
use Rattle.label.specs.Limits.{most_rows, row_width}
use Rattle.label.specs.declared.Edition.{Edition}
use Rattle.label.specs.Layout.{Item, Part, mark, item, Row, bytes_of, items_of, rows_from, all_numbers}
use Rattle.label.specs.Envelope.{Envelope}
use Rattle.label.specs.Message.{message_parts, message, rows_of, ordinals_of, numbers_of, Each, Good}
use Rattle.label.specs.Answer.{room_of, table_after}
use Rattle.label.specs.Writing.{rows_in, ordinals_in, inside, rows_stand, item_in, items_in, same_item, same_items}
use Rattle.label.proofs.Tests.{same_bytes_lem, bytes_same}
use Rattle.label.proofs.Ordinals.{ordinals_long}
use Rattle.label.proofs.Answers.{numbers_of_wide, filled_with_room}
use Rattle.label.proofs.ReadingComplete.{reading_pass}

-- Rows of parts

-- a row for each item
pub rows_items : (at : ℕ) (ps : List Part) → length (rows_from at ps) ≡ length (items_of ps)
rows_items at [] = refl
rows_items at (mark b ∷ ps) = rows_items (at + 1) ps
rows_items at (item i ∷ ps) = ap suc (rows_items (at + length i.content) ps)

-- rows of parts lie where the parts lie
pub rows_inside : (limit at : ℕ) (ps : List Part) → at + length (bytes_of ps) ≤ limit → Each (λ (r : Row). r.start + r.length ≤ limit) (rows_from at ps)
rows_inside limit at [] fits = tt
rows_inside limit at (mark b ∷ ps) fits = rows_inside limit (at + 1) ps (omega arith)
rows_inside limit at (item i ∷ ps) fits =
    let whole = length-append i.content (bytes_of ps) in
    (omega arith, rows_inside limit (at + length i.content) ps (omega arith))

-- parts that end the data: their rows name their items
items_from : (held : Bytes) (at : ℕ) (ps : List Part) → drop at held ≡ bytes_of ps → map (item_in held) (rows_from at ps) ≡ items_of ps
items_from held at [] there = refl
items_from held at (mark b ∷ ps) there = items_from held (at + 1) ps (sym (drop-drop 1 at held) ∙ ap (drop 1) there)
items_from held at (item i ∷ ps) there =
    let n = length i.content in
    let content : take n (drop at held) ≡ i.content = ap (take n) there ∙ take-append_seam i.content (bytes_of ps) in
    let later : drop (at + n) held ≡ bytes_of ps = sym (drop-drop n at held) ∙ ap (drop n) there ∙ drop-append_seam i.content (bytes_of ps) in
    λ t. record { kind = i.kind; format = i.format; content = content t } ∷ items_from held (at + n) ps later t

pub items_there : (ps : List Part) → map (item_in (bytes_of ps)) (rows_from 0 ps) ≡ items_of ps
items_there ps = items_from (bytes_of ps) 0 ps refl

-- Rows and numbers

pub rows_in_numbers : (rs : List Row) (os : List ℕ) → length os ≡ length rs → rows_in (all_numbers rs os) ≡ rs
rows_in_numbers [] os same = refl
rows_in_numbers (r ∷ rs) [] same = absurd (omega (arith, same))
rows_in_numbers (r ∷ rs) (o ∷ os) same = ap (λ rest. r ∷ rest) (rows_in_numbers rs os (omega (arith, same)))

ordinals_in_numbers : (rs : List Row) (os : List ℕ) → length os ≡ length rs → ordinals_in (all_numbers rs os) ≡ os
ordinals_in_numbers [] [] same = refl
ordinals_in_numbers [] (o ∷ os) same = absurd (omega (arith, same))
ordinals_in_numbers (r ∷ rs) [] same = absurd (omega (arith, same))
ordinals_in_numbers (r ∷ rs) (o ∷ os) same = ap (λ rest. o ∷ rest) (ordinals_in_numbers rs os (omega (arith, same)))

-- those of a list of envelopes
pub rows_in_numbers_of : (es : List Envelope) → rows_in (numbers_of es) ≡ rows_of es
rows_in_numbers_of es = rows_in_numbers (rows_of es) (ordinals_of es) (ordinals_long es)

pub ordinals_in_numbers_of : (es : List Envelope) → ordinals_in (numbers_of es) ≡ ordinals_of es
ordinals_in_numbers_of es = ordinals_in_numbers (rows_of es) (ordinals_of es) (ordinals_long es)

-- The same items

same_item_lem : (i j : Item) → same_item i j ≡ true → i ≡ j
unfolding same_item
same_item_lem i j h =
    let k = and_parts (eqb i.kind j.kind && eqb i.format j.format) (same_bytes i.content j.content) h in
    let l = and_parts (eqb i.kind j.kind) (eqb i.format j.format) k.0 in
    let kind = eqb-true i.kind j.kind l.0 in
    let format = eqb-true i.format j.format l.1 in
    let content = same_bytes_lem i.content j.content k.1 in
    λ t. record { kind = kind t; format = format t; content = content t }

item_same : (i : Item) → same_item i i ≡ true
unfolding same_item
item_same i = both_true (both_true (eq-eqb i.kind i.kind refl) (eq-eqb i.format i.format refl)) (bytes_same i.content)

pub same_items_lem : (is js : List Item) → same_items is js ≡ true → is ≡ js
same_items_lem [] [] h = refl
same_items_lem [] (j ∷ js) h = absurd (false≢true h)
same_items_lem (i ∷ is) [] h = absurd (false≢true h)
same_items_lem (i ∷ is) (j ∷ js) h =
    let k = and_parts (same_item i j) (same_items is js) h in
    λ t. same_item_lem i j k.0 t ∷ same_items_lem is js k.1 t

pub items_same : (is : List Item) → same_items is is ≡ true
items_same [] = refl
items_same (i ∷ is) = both_true (item_same i) (items_same is)

-- Rows of a good message

each_passes : {A : Type 0} (Fact : A → Type 0) (test : A → Bool) → ((x : A) → Fact x → test x ≡ true) → (xs : List A) → Each Fact xs → every test xs ≡ true
each_passes Fact test passes [] facts = refl
each_passes Fact test passes (x ∷ xs) facts = both_true (passes x facts.0) (each_passes Fact test passes xs facts.1)

module _ (edition : Edition) (m : Bytes) (es : List Envelope) (good : Good edition m es) where
  all_inside : every (inside m) (rows_of es) ≡ true
  unfolding inside rows_of message
  all_inside =
      each_passes (λ (r : Row). r.start + r.length ≤ length m) (inside m) (λ r fits. le-leb (r.start + r.length) (length m) fits) (rows_of es)
      (rows_inside (length m) 0 (message_parts es) (omega (arith, ap length good.writes_out)))

  -- they pass as rows of data to be written
  pub rows_stand_lem : rows_stand m (numbers_of es) ≡ true
  unfolding rows_stand
  rows_stand_lem =
      let ns = numbers_of es in
      let wide = numbers_of_wide es in
      let few = good.not_too_many in
      both_true (both_true (eq-eqb (length ns % row_width) 0 (omega arith)) (le-leb (length ns / row_width) most_rows (omega arith)))
      (ap (every (inside m)) (rows_in_numbers_of es) ∙ all_inside)

  -- they name the message's items
  pub rows_named : map (item_in m) (rows_of es) ≡ items_of (message_parts es)
  unfolding rows_of message
  rows_named = ap (λ held. map (item_in held) (rows_of es)) (sym good.writes_out) ∙ items_there (message_parts es)

  pub numbers_items : items_in m (numbers_of es) ≡ items_of (message_parts es)
  numbers_items = ap (map (item_in m)) (rows_in_numbers_of es) ∙ rows_named

  -- a table that it was read into begins with their numbers, which name those items and have the list's ordinals too
  pub table_numbers : (table : List ℕ) → length (rows_of es) ≤ room_of table → take (row_width * length (rows_of es)) (table_after edition m table) ≡ numbers_of es
  table_numbers table enough =
      ap (take (row_width * length (rows_of es))) (filled_with_room edition m es table (reading_pass edition m es good) enough)
      ∙ take_at (numbers_of es) _ (row_width * length (rows_of es)) (numbers_of_wide es)

  pub table_items : (table : List ℕ) → length (rows_of es) ≤ room_of table
      → items_in m (take (row_width * length (rows_of es)) (table_after edition m table)) ≡ items_of (message_parts es)
  table_items table enough = ap (items_in m) (table_numbers table enough) ∙ numbers_items

  pub table_ordinals : (table : List ℕ) → length (rows_of es) ≤ room_of table
      → ordinals_in (take (row_width * length (rows_of es)) (table_after edition m table)) ≡ ordinals_of es
  table_ordinals table enough = ap ordinals_in (table_numbers table enough) ∙ ordinals_in_numbers_of es
