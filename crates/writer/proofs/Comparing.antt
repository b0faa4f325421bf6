-- Why kinds, formats and lengths are compared, and no content: items that are alike in these, and are rendered to the same bytes, are the same. And the
-- loop that compares a message's rows with those given.
use Prim.Native.Nat.{ℕ, suc, ◌+◌, ◌/◌, ◌<◌}
use mathlib.Core.Path.{◌≡◌, refl, sym, ap, ◌∙◌}
use mathlib.Core.Bool.{Bool, true, false, ◌&&◌, false≢true}
use mathlib.Core.List.{List, [], ◌∷◌, ◌++◌, map, append_cancel_left}
use native.Mathlib.Omega.{arith}
use borrow.Author.Tests.{leb-true, eqb-true, eq-eqb}
use lib.ListN.{length, take, drop, length-take, length-drop}
use lib.Seq.{take-append_seam, drop-append_seam}
use lib.Dec.{eqb}
use Rattle.std.proofs.lemmas.Bool.{and_parts, and_right}
use Rattle.std.specs.Cmp.Derive.{both_true}
use Rattle.label.specs.Bytes.{Bytes, every}
use Rattle.label.specs.declared.Edition.{Edition}
use Rattle.label.specs.ReadMessage.{reading}
use Rattle.label.specs.Answer.{rows_read}
use Rattle.label.specs.Limits.{row_width}
use Rattle.label.specs.Formats.{widest, rule_of}
use Rattle.label.specs.Layout.{Item, Part, mark, item, Row, rows_from, items_of}
use Rattle.label.specs.Message.{header}
use Rattle.label.specs.Rendered.{marks_between, rendered_after, rendered}
use Rattle.label.specs.Writing.{rows_in, inside, item_in, same_items}
use Rattle.label.proofs.RowItems.{same_items_lem, items_same}
use Rattle.walk.specs.declared.Cursor.{Cursor}
use Rattle.walk.specs.Cursors.{row_of, next_cursor}
use Rattle.walk.proofs.Walks.{Yields}
use Rattle.given.specs.Given.{row_or_none, alike_row, alike}
use Rattle.given.proofs.GivenLaws.{row_there, rows_cut, no_row_left}

-- Items

-- alike in kind, format and the content's length
abbrev outline : Item → Row
outline i = record { kind = i.kind; format = i.format; start = 0; length = length i.content }

abbrev like_item : Item → Item → Bool
like_item i j = alike_row (outline i) (outline j)

abbrev pub like_items : List Item → List Item → Bool
like_items is js = alike (map outline is) (map outline js)

record LikeSo (i j : Item) : Type 0 where
  pub kinds : i.kind ≡ j.kind
  pub formats : i.format ≡ j.format
  pub lengths : length i.content ≡ length j.content

like_so : (i j : Item) → like_item i j ≡ true → LikeSo i j
unfolding alike_row
like_so i j h =
    let k = and_parts _ _ h in
    let l = and_parts _ _ k.0 in
    record { kinds = eqb-true i.kind j.kind l.0; formats = eqb-true i.format j.format l.1; lengths = eqb-true (length i.content) (length j.content) k.1 }

like_self : (i : Item) → like_item i i ≡ true
unfolding alike_row
like_self i = both_true (both_true (eq-eqb i.kind i.kind refl) (eq-eqb i.format i.format refl)) (eq-eqb (length i.content) (length i.content) refl)

likes_self : (is : List Item) → like_items is is ≡ true
likes_self [] = refl
likes_self (i ∷ is) = both_true (like_self i) (likes_self is)

-- bytes of the same length in front of others
record Front (a b x y : Bytes) : Type 0 where
  pub fronts : a ≡ b
  pub rests : x ≡ y

front : (a b x y : Bytes) → length a ≡ length b → a ++ x ≡ b ++ y → Front a b x y
front a b x y long same = record {
  fronts = sym (take-append_seam a x) ∙ (λ i. take (long i) (same i)) ∙ take-append_seam b y;
  rests = sym (drop-append_seam a x) ∙ (λ i. drop (long i) (same i)) ∙ drop-append_seam b y;
}

same_content : (i j : Item) (is js : List Item) → like_item i j ≡ true → (rendered_after i is ≡ rendered_after j js → is ≡ js)
    → i.content ++ rendered_after i is ≡ j.content ++ rendered_after j js → i ∷ is ≡ j ∷ js
same_content i j is js like later same =
    let so = like_so i j like in
    let parted = front i.content j.content (rendered_after i is) (rendered_after j js) so.lengths same in
    λ t. record { kind = so.kinds t; format = so.formats t; content = parted.fronts t } ∷ later parted.rests t

same_after : (p q : Item) (is js : List Item) → p.kind ≡ q.kind → like_items is js ≡ true → rendered_after p is ≡ rendered_after q js → is ≡ js
unfolding rendered_after
same_after p q [] [] kinds like same = refl
same_after p q [] (j ∷ js) kinds like same = absurd (false≢true like)
same_after p q (i ∷ is) [] kinds like same = absurd (false≢true like)
same_after p q (i ∷ is) (j ∷ js) kinds like same =
    let k = and_parts (like_item i j) (like_items is js) like in
    let so = like_so i j k.0 in
    let marks : marks_between (rule_of widest i.format) p.kind i.kind ≡ marks_between (rule_of widest j.format) q.kind j.kind
    = λ t. marks_between (rule_of widest (so.formats t)) (kinds t) (so.kinds t) in
    same_content i j is js k.0 (same_after i j is js so.kinds k.1)
    (append_cancel_left (marks_between (rule_of widest i.format) p.kind i.kind) _ _
    (same ∙ ap (λ b. b ++ (j.content ++ rendered_after j js)) (sym marks)))

same_rendered : (is js : List Item) → like_items is js ≡ true → rendered is ≡ rendered js → is ≡ js
unfolding rendered
same_rendered [] [] like same = refl
same_rendered [] (j ∷ js) like same = absurd (false≢true like)
same_rendered (i ∷ is) [] like same = absurd (false≢true like)
same_rendered (i ∷ is) (j ∷ js) like same =
    let k = and_parts (like_item i j) (like_items is js) like in
    same_content i j is js k.0 (same_after i j is js (like_so i j k.0).kinds k.1) (append_cancel_left header _ _ same)

-- so that items rendered to the same bytes are the same if they are alike, and only then
pub same_as_like : (is js : List Item) → rendered is ≡ rendered js → same_items is js ≡ like_items is js
same_as_like is js same = by (same_items is js) (like_items is js) refl refl
  where
    by : (s l : Bool) → same_items is js ≡ s → like_items is js ≡ l → s ≡ l
    by true true hs hl = refl
    by true false hs hl = sym (likes_self is) ∙ ap (like_items is) (same_items_lem is js hs) ∙ hl
    by false true hs hl = sym hs ∙ ap (same_items is) (sym (same_rendered is js hl same)) ∙ items_same is
    by false false hs hl = refl

-- Rows

long_as_said : (held : Bytes) (r : Row) → inside held r ≡ true → length (item_in held r).content ≡ r.length
unfolding inside
long_as_said held r h = omega (arith, leb-true (r.start + r.length) (length held) h, length-take r.length (drop r.start held), length-drop r.start held)

-- rows are alike where the items are that they name
pub rows_like : (held : Bytes) (at : ℕ) (ps : List Part) (rs : List Row) → every (inside held) rs ≡ true → alike (rows_from at ps) rs ≡ like_items (items_of ps) (map (item_in held) rs)
unfolding alike_row
rows_like held at [] [] lie = refl
rows_like held at [] (r ∷ rs) lie = refl
rows_like held at (mark b ∷ ps) rs lie = rows_like held (at + 1) ps rs lie
rows_like held at (item i ∷ ps) [] lie = refl
rows_like held at (item i ∷ ps) (r ∷ rs) lie =
    let k = and_parts (inside held r) (every (inside held) rs) lie in
    λ t. eqb i.kind r.kind && eqb i.format r.format && eqb (length i.content) (sym (long_as_said held r k.0) t)
    && rows_like held (at + length i.content) ps rs k.1 t

-- as many rows as numbers make
pub rows_counted : (ns : List ℕ) → length (rows_in ns) ≡ length ns / row_width
rows_counted [] = refl
rows_counted (k ∷ []) = refl
rows_counted (k ∷ (f ∷ [])) = refl
rows_counted (k ∷ (f ∷ (s ∷ []))) = refl
rows_counted (k ∷ (f ∷ (s ∷ (l ∷ [])))) = refl
rows_counted (k ∷ (f ∷ (s ∷ (l ∷ (o ∷ ns))))) = let more = rows_counted ns in omega arith

-- rows that are not as many are not alike
pub not_as_many : (rs ss : List Row) → (length rs ≡ length ss → ⊥) → false ≡ alike rs ss
not_as_many [] [] other = absurd (other refl)
not_as_many [] (s ∷ ss) other = refl
not_as_many (r ∷ rs) [] other = refl
not_as_many (r ∷ rs) (s ∷ ss) other = sym (and_right (alike_row r s) _ (sym (not_as_many rs ss (λ same. other (ap suc same)))))

-- The loop: the cursor yields the rows that are left, and whether they are alike is whether all are
pub record Compared (m : Bytes) (all : List Row) (ns : List ℕ) (c : Cursor) (left : List ℕ) : Type 0 where
  pub rows : List Row
  pub counted : length rows ≡ length (rows_in left)
  pub yields : Yields m c rows
  pub goes : alike rows (rows_in left) ≡ alike all (rows_in ns)

module _ (m : Bytes) (all : List Row) (ns : List ℕ) (c : Cursor) where
  pub compared_first : (left : List ℕ) → left ≡ ns → Yields m c all → length all ≡ length ns / row_width → Compared m all ns c left
  compared_first left is yields counted = record {
    rows = all;
    counted = counted ∙ sym (rows_counted ns) ∙ ap (λ l. length (rows_in l)) (sym is);
    yields = yields;
    goes = ap (λ l. alike all (rows_in l)) is;
  }

  module _ (left x rest : List ℕ) (cut : left ≡ x ++ rest) (five : length x ≡ row_width) (at : Compared m all ns c left) where
    split : rows_in left ≡ row_or_none x 0 ∷ rows_in rest
    split = ap rows_in cut ∙ rows_cut x rest five ∙ ap (λ r. r ∷ rows_in rest) (sym (row_there x 0 (omega arith)))

    -- the row that the cursor stands at, and the others
    pub record Here : Type 0 where
      pub others : List Row
      pub many : length others ≡ length (rows_in rest)
      pub next : Yields m (next_cursor m c) others
      pub goes : (alike_row (row_of c) (row_or_none x 0) && alike others (rows_in rest)) ≡ alike all (rows_in ns)

    here : Here
    here = by at.rows (at.counted ∙ ap length split) at.yields (sym (ap (alike at.rows) split) ∙ at.goes)
      where
        by : (rows : List Row) → length rows ≡ suc (length (rows_in rest)) → Yields m c rows → alike rows (row_or_none x 0 ∷ rows_in rest) ≡ alike all (rows_in ns) → Here
        by [] many yields goes = absurd (omega arith)
        by (r ∷ rows) many yields goes = record {
          others = rows;
          many = omega arith;
          next = yields.1;
          goes = ap (λ r. alike_row r (row_or_none x 0) && alike rows (rows_in rest)) yields.0 ∙ goes;
        }

    pub compared_differs : alike_row (row_of c) (row_or_none x 0) ≡ false → false ≡ alike all (rows_in ns)
    compared_differs differs = ap (λ t. t && alike here.others (rows_in rest)) (sym differs) ∙ here.goes

    pub compared_next : alike_row (row_of c) (row_or_none x 0) ≡ true → Compared m all ns (next_cursor m c) rest
    compared_next same = record {
      rows = here.others;
      counted = here.many;
      yields = here.next;
      goes = ap (λ t. t && alike here.others (rows_in rest)) (sym same) ∙ here.goes;
    }

  pub compared_last : (left : List ℕ) → Compared m all ns c left → length left < row_width → true ≡ alike all (rows_in ns)
  compared_last left at short = by at.rows (at.counted ∙ ap length none) (sym (ap (alike at.rows) none) ∙ at.goes)
    where
      none : rows_in left ≡ []
      none = no_row_left left short

      by : (rows : List Row) → length rows ≡ 0 → alike rows [] ≡ alike all (rows_in ns) → true ≡ alike all (rows_in ns)
      by [] many goes = goes
      by (r ∷ rows) many goes = absurd (omega arith)

-- in an edition the message has as many rows as are given
abbrev pub AsMany : Edition → Bytes → List ℕ → Type 0
AsMany edition m ns = length (rows_read (reading edition m)) ≡ length ns / row_width
