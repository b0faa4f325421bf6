-- How rows get into a table: a row that is put stands behind those that stand already. And which rows notes have.
use Prim.Native.Nat.{ℕ, zero, suc, ◌+◌, ◌-◌, ◌*◌, ◌/◌, ◌≤◌, ◌<◌}
use mathlib.Core.Path.{◌≡◌, refl, sym, ap, ◌∙◌}
use mathlib.Core.List.{List, [], ◌∷◌, ◌++◌, map, append_assoc}
use native.Mathlib.Omega.{arith}
use native.Mathlib.Numerals.{add-one}
use lib.ListN.{length, get_or, take, drop, length-append, length-drop, length-map}
use lib.Seq.{drop-cons, get_or-drop, take_at, take-add, take_all, length-take-le, drop-drop, drop-append-add}
use Rattle.std.specs.Simd.{first_chunks}
use Rattle.std.proofs.lemmas.List.{drop_more, take_rest}
use Rattle.label.specs.Limits.{row_width}
use Rattle.label.specs.Layout.{Row, numbers, all_numbers}
use Rattle.label.specs.Answer.{overlaid}
use Rattle.label.specs.Counting.{row_from, kinds_of, raised, by_counting}
use Rattle.label.proofs.Ordinals.{kind_at, counted_long, counted_step}
use Rattle.label.proofs.Answers.{numbers_wide}
use Rattle.noted.specs.Noted.{note_width, rows_noted, rows_by}

-- numbers put behind those that a table has in front of what it held
put_behind : (front new old table : List ℕ) (n wide : ℕ) → length front ≡ n → table ≡ front ++ drop n old → take n table ++ (new ++ drop (n + wide) table) ≡ (front ++ new) ++ drop (n + wide) old
put_behind front new old table n wide long holds =
    let stands : take n table ≡ front = ap (take n) holds ∙ take_at front (drop n old) n long in
    let stays : drop (n + wide) table ≡ drop (n + wide) old =
    ap (drop (n + wide)) holds ∙ ap (λ k. drop (k + wide) (front ++ drop n old)) (sym long) ∙ drop-append-add front (drop n old) wide ∙ drop-drop wide n old in
    (λ j. stands j ++ (new ++ stays j)) ∙ sym (append_assoc front new (drop (n + wide) old))

-- Rows with ordinals, one behind the other

numbers_append : (rs rs' : List Row) (os os' : List ℕ) → length os ≡ length rs → all_numbers (rs ++ rs') (os ++ os') ≡ all_numbers rs os ++ all_numbers rs' os'
numbers_append [] rs' [] os' same = refl
numbers_append [] rs' (o ∷ os) os' same = absurd (omega (arith, same))
numbers_append (r ∷ rs) rs' [] os' same = absurd (omega (arith, same))
numbers_append (r ∷ rs) rs' (o ∷ os) os' same = ap (λ ns. numbers r o ++ ns) (numbers_append rs rs' os os' (omega (arith, same))) ∙ sym (append_assoc (numbers r o) (all_numbers rs os) (all_numbers rs' os'))

-- a table into which the first i of rows are put with their ordinals: those, then what it held
pub record Put (rows : List Row) (os old table : List ℕ) (i : ℕ) : Type 0 where
  pub up_to : i ≤ length rows
  pub holds : table ≡ all_numbers (take i rows) (take i os) ++ drop (row_width * i) old

pub put_first : (rows : List Row) (os old : List ℕ) → Put rows os old old 0
put_first rows os old = record { up_to = omega arith; holds = refl }

module _ (rows : List Row) (os old : List ℕ) (as_many : length os ≡ length rows) (roomy : row_width * length rows ≤ length old) (table : List ℕ) (i : ℕ) (put : Put rows os old table i) where
  first_many : length (take i os) ≡ length (take i rows)
  first_many = length-take-le i os (omega (arith, as_many, put.up_to)) ∙ sym (length-take-le i rows put.up_to)

  first_wide : length (all_numbers (take i rows) (take i os)) ≡ row_width * i
  first_wide = numbers_wide (take i rows) (take i os) first_many ∙ ap (λ n. row_width * n) (length-take-le i rows put.up_to)

  -- the table keeps its length
  pub put_length : length table ≡ length old
  put_length = omega (arith, ap length put.holds, length-append (all_numbers (take i rows) (take i os)) (drop (row_width * i) old), length-drop (row_width * i) old, first_wide, put.up_to, roomy)

  -- after all rows it holds them and what it held behind them
  pub put_last : length rows ≤ i → table ≡ overlaid (all_numbers rows os) old
  put_last last =
      let all = take_all i rows last in
      let every = take_all i os (omega (arith, as_many)) in
      put.holds ∙ (λ j. all_numbers (all j) (every j) ++ drop ((sym first_wide ∙ (λ k. length (all_numbers (all k) (every k)))) j) old)

  module _ (r : Row) (rest : List Row) (here : drop i rows ≡ r ∷ rest) where
    more : i < length rows
    more = omega (arith, ap length here, length-drop i rows)

    pub put_next : (o : ℕ) → o ≡ get_or os i 0 → (table' : List ℕ) → table' ≡ take (row_width * i) table ++ (numbers r o ++ drop (row_width * i + row_width) table) → Put rows os old table' (i + 1)
    put_next o is table' new =
        let further : row_width * i + row_width ≡ row_width * (i + 1) = omega arith in
        let one_row : take (i + 1) rows ≡ take i rows ++ (r ∷ []) = take-add i 1 rows ∙ ap (λ rs. take i rows ++ take 1 rs) here in
        let one_ordinal : take (i + 1) os ≡ take i os ++ (o ∷ []) = take-add i 1 os ∙ ap (λ ns. take i os ++ take 1 ns) (drop_more os i 0 (omega (arith, as_many, more))) ∙ ap (λ n. take i os ++ (n ∷ [])) (sym is) in
        record {
          up_to = omega (arith, more);
          holds =
              new
              ∙ put_behind (all_numbers (take i rows) (take i os)) (numbers r o) old table (row_width * i) row_width first_wide put.holds
              ∙ (λ j. (sym (numbers_append (take i rows) (r ∷ []) (take i os) (o ∷ []) first_many) ∙ (λ k. all_numbers (sym one_row k) (sym one_ordinal k))) j ++ drop (further j) old);
        }

-- Rows that notes are

pub noted_long : (ns : List ℕ) → length (rows_noted ns) ≡ length ns / note_width
noted_long [] = refl
noted_long (k ∷ []) = refl
noted_long (k ∷ (f ∷ [])) = refl
noted_long (k ∷ (f ∷ (s ∷ []))) = refl
noted_long (k ∷ (f ∷ (s ∷ (l ∷ ns)))) = let more = noted_long ns in omega arith

-- notes cut out of numbers have the rows that the numbers have
pub noted_by_fours : (k : ℕ) (ns : List ℕ) → k * note_width ≤ length ns → length ns < k * note_width + note_width → rows_by (first_chunks note_width k ns) ≡ rows_noted ns
noted_by_fours zero [] room short = refl
noted_by_fours zero (k ∷ []) room short = refl
noted_by_fours zero (k ∷ (f ∷ [])) room short = refl
noted_by_fours zero (k ∷ (f ∷ (s ∷ []))) room short = refl
noted_by_fours zero (k ∷ (f ∷ (s ∷ (l ∷ ns)))) room short = absurd (omega arith)
noted_by_fours (suc n) [] room short = absurd (omega arith)
noted_by_fours (suc n) (k ∷ []) room short = absurd (omega arith)
noted_by_fours (suc n) (k ∷ (f ∷ [])) room short = absurd (omega arith)
noted_by_fours (suc n) (k ∷ (f ∷ (s ∷ []))) room short = absurd (omega arith)
noted_by_fours (suc n) (k ∷ (f ∷ (s ∷ (l ∷ ns)))) room short = ap (λ rs. record { kind = k; format = f; start = s; length = l } ∷ rs) (noted_by_fours n ns (omega arith) (omega arith))

-- the row that a note has, and those behind it
noted_at : (notes : List (List ℕ)) (i : ℕ) → get_or (rows_by notes) i (row_from [] 0) ≡ row_from (get_or notes i []) 0
noted_at [] zero = refl
noted_at [] (suc i) = refl
noted_at (note ∷ notes) zero = refl
noted_at (note ∷ notes) (suc i) = noted_at notes i

pub noted_here : (notes : List (List ℕ)) (i : ℕ) → i < length notes → drop i (rows_by notes) ≡ row_from (get_or notes i []) 0 ∷ drop (i + 1) (rows_by notes)
noted_here notes i inside =
    drop-cons (rows_by notes) i (row_from [] 0) (omega (arith, length-map notes (λ note. row_from note 0)))
    ∙ (λ j. noted_at notes i j ∷ drop (sym (add-one i) j) (rows_by notes))

-- the note at a place behind the first
pub noted_later : (notes : List (List ℕ)) (i : ℕ) → get_or (take (length notes - 1) (drop 1 notes)) i [] ≡ get_or notes (i + 1) []
noted_later notes i = ap (λ ns. get_or ns i []) (take_rest notes 1) ∙ get_or-drop 1 notes i [] ∙ ap (λ n. get_or notes n []) (omega arith)

pub all_fit : (notes : List (List ℕ)) (old : List ℕ) → row_width * length notes ≤ length old → row_width * length (rows_by notes) ≤ length old
all_fit notes old roomy = omega (arith, roomy, length-map notes (λ note. row_from note 0))

-- Ordinals of rows of one envelope, and of several

abbrev pub zeros_of : List Row → List ℕ
zeros_of rs = map (λ (r : Row). 0) rs

pub zeros_many : (rs : List Row) → length (zeros_of rs) ≡ length rs
zeros_many rs = length-map rs (λ (r : Row). 0)

pub zero_at : (rs : List Row) (i : ℕ) → ◌≡◌ {A = ℕ} 0 (get_or (zeros_of rs) i 0)
zero_at [] zero = refl
zero_at [] (suc i) = refl
zero_at (r ∷ rs) zero = refl
zero_at (r ∷ rs) (suc i) = zero_at rs i

abbrev pub counted_of : List (List ℕ) → List ℕ
counted_of notes = by_counting (kinds_of (rows_by notes))

pub kinds_many : (notes : List (List ℕ)) → length (kinds_of (rows_by notes)) ≡ length notes
kinds_many notes = length-map (rows_by notes) (λ (r : Row). r.kind) ∙ length-map notes (λ note. row_from note 0)

pub counted_many : (notes : List (List ℕ)) → length (counted_of notes) ≡ length (rows_by notes)
counted_many notes = counted_long (kinds_of (rows_by notes)) ∙ length-map (rows_by notes) (λ (r : Row). r.kind)

-- the ordinal of the next row
pub counted_on : (notes : List (List ℕ)) (i : ℕ) → i + 1 < length notes → (ordinal : ℕ) → ordinal ≡ get_or (counted_of notes) i 0
    → raised ordinal (get_or (get_or notes (i + 1) []) 0 0) ≡ get_or (counted_of notes) (i + 1) 0
counted_on notes i less ordinal own =
    let kind = kind_at (rows_by notes) (i + 1) _ _ (noted_here notes (i + 1) less) in
    (λ j. raised (own j) (sym kind j)) ∙ sym (counted_step (kinds_of (rows_by notes)) i (omega (arith, kinds_many notes)))
