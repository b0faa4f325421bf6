-- What a walk answers: from a cursor, the rows one behind the other. And the step from a row of any length, or of plain bytes, to what lies behind it,
-- for parts that lie somewhere in a message.
use Prim.Native.Nat.{ℕ, suc, ◌+◌}
use mathlib.Core.Path.{◌≡◌, refl, sym, ap, ◌∙◌, subst}
use mathlib.Core.Bool.{Bool, true, false, cond}
use mathlib.Core.List.{List, [], ◌∷◌, ◌++◌}
use native.Mathlib.Nat.{add-zero}
use native.Mathlib.Omega.{arith}
use lib.ListN.{length, get_or, take, drop}
use lib.Seq.{drop-drop, drop-append_seam, take-append_seam, get_or-drop}
use lib.Dec.{eqb}
use Rattle.std.proofs.lemmas.Bool.{and_parts}
use Rattle.label.specs.Bytes.{Bytes, plain, every}
use Rattle.label.specs.Layout.{Part, mark, marks, Row, bytes_of, rows_from, further}
use Rattle.label.specs.Written.{rowed}
use Rattle.label.proofs.Laid.{bytes_append, bytes_marks}
use Rattle.walk.specs.declared.Stage.{Stage}
use Rattle.walk.specs.declared.Cursor.{Cursor}
use Rattle.walk.specs.Cursors.{ahead, plain_run, kind_of, standing, row_of, plain_row, following, next_cursor}

-- the rows from a cursor on, as many as a list has, are that list
abbrev pub Yields : Bytes → Cursor → List Row → Type 0
Yields m c [] = Unit {0}
Yields m c (r ∷ rs) = (row_of c ≡ r) × Yields m (next_cursor m c) rs

-- the first byte, 0 where there is none
abbrev pub first_of : Bytes → ℕ
first_of bs = get_or bs 0 0

-- what holds of a separator, and of the first byte of what follows, holds of the first byte of further runs and what follows them
pub first_further : (Fact : ℕ → Type 0) (s : ℕ) (runs : List (List Part)) (ps : List Part) → Fact s → Fact (first_of (bytes_of ps)) → Fact (first_of (bytes_of (further s runs ++ ps)))
first_further Fact s [] ps hs h = h
first_further Fact s (run ∷ runs) ps hs h = hs

-- a run of plain bytes ends before a byte that is not plain
run_none : (bs : Bytes) → plain (first_of bs) ≡ false → plain_run bs ≡ 0
run_none [] h = refl
run_none (b ∷ bs) h = ap (λ t. cond t (suc (plain_run bs)) 0) h

run_stops : (p rest : Bytes) → every plain p ≡ true → plain (first_of rest) ≡ false → plain_run (p ++ rest) ≡ length p
run_stops [] rest ok ends = run_none rest ends
run_stops (b ∷ p) rest ok ends =
    let k = and_parts (plain b) (every plain p) ok in
    ap (λ t. cond t (suc (plain_run (p ++ rest))) 0) k.0 ∙ ap suc (run_stops p rest k.1 ends)

-- marks in front of parts
marks_bytes : (bs : Bytes) (ps : List Part) → bytes_of (marks bs ++ ps) ≡ bs ++ bytes_of ps
marks_bytes bs ps = bytes_append (marks bs) ps ∙ ap (λ x. x ++ bytes_of ps) (bytes_marks bs)

marks_rows : (at : ℕ) (bs : Bytes) (ps : List Part) → rows_from at (marks bs ++ ps) ≡ rows_from (at + length bs) ps
marks_rows at [] ps = ap (λ n. rows_from n ps) (sym (add-zero at))
marks_rows at (b ∷ bs) ps = marks_rows (at + 1) bs ps ∙ ap (λ n. rows_from n ps) (omega arith)

module _ (m : Bytes) where
  -- from the cursor made at an offset the walk answers the rows of parts, wherever those lie in the message up to its end
  abbrev pub Leads : (ℕ → Cursor) → List Part → Type 0
  Leads made ps = (at : ℕ) → drop at m ≡ bytes_of ps → Yields m (made at) (rows_from at ps)

  module _ (at : ℕ) (p rest : Bytes) (h : drop at m ≡ p ++ rest) where
    pub behind_bytes_lem : drop (at + length p) m ≡ rest
    behind_bytes_lem = sym (drop-drop (length p) at m) ∙ ap (drop (length p)) h ∙ drop-append_seam p rest

    pub ahead_bytes : ahead m at (length p) ≡ at + length p
    ahead_bytes = ap (λ l. at + length l) (ap (take (length p)) h ∙ take-append_seam p rest)

  pub byte_there : (at : ℕ) (rest : Bytes) → drop at m ≡ rest → get_or m at 0 ≡ first_of rest
  byte_there at rest h = ap (λ i. get_or m i 0) (sym (add-zero at)) ∙ sym (get_or-drop at m 0 0) ∙ ap first_of h

  -- behind marks, and behind one
  pub marks_lead : (made : ℕ → Cursor) (bs : Bytes) (ps : List Part) → Leads made ps → Leads (λ end. made (ahead m end (length bs))) (marks bs ++ ps)
  marks_lead made bs ps leads at h =
      let h' = h ∙ marks_bytes bs ps in
      subst (λ (rows : List Row). Yields m (made (ahead m at (length bs))) rows) (sym (marks_rows at bs ps))
      (subst (λ (x : ℕ). Yields m (made x) (rows_from (at + length bs) ps)) (sym (ahead_bytes at bs (bytes_of ps) h'))
      (leads (at + length bs) (behind_bytes_lem at bs (bytes_of ps) h')))

  pub mark_leads : (made : ℕ → Cursor) (s : ℕ) (ps : List Part) → Leads made ps → Leads (λ end. made (ahead m end 1)) (mark s ∷ ps)
  mark_leads made s ps leads = marks_lead made (s ∷ []) ps leads

  -- by the byte that stands at an offset
  pub choice_leads : (k : ℕ) (t : Bool) (one other : ℕ → Cursor) (ps : List Part) → eqb (first_of (bytes_of ps)) k ≡ t → Leads (λ end. cond t (one end) (other end)) ps
      → Leads (λ end. cond (eqb (get_or m end 0) k) (one end) (other end)) ps
  choice_leads k t one other ps is leads at h =
      subst (λ (t : Bool). Yields m (cond t (one at) (other at)) (rows_from at ps)) (sym (ap (λ b. eqb b k) (byte_there at (bytes_of ps) h) ∙ is)) (leads at h)

  -- a row, and what follows it
  pub row_yields : (stage : Stage) (f at n : ℕ) (p : Bytes) (ps : List Part) → n ≡ length p → drop at m ≡ p ++ bytes_of ps
      → Leads (λ end. following m f at end stage) ps → Yields m (standing stage f at n) (rows_from at (rowed (kind_of stage) f p ∷ ps))
  unfolding next_cursor
  row_yields stage f at n p ps long h leads = (
    ap (λ n. row_of (standing stage f at n)) long,
    subst (λ (end : ℕ). Yields m (following m f at end stage) (rows_from (at + length p) ps)) (sym (ap (ahead m at) long ∙ ahead_bytes at p (bytes_of ps) h))
        (leads (at + length p) (behind_bytes_lem at p (bytes_of ps) h)),
  )

  -- a row of plain bytes, and what follows it
  pub plain_leads : (stage : Stage) (f : ℕ) (p : Bytes) (ps : List Part) → every plain p ≡ true → plain (first_of (bytes_of ps)) ≡ false
      → ((start : ℕ) → drop start m ≡ p ++ bytes_of ps → Leads (λ end. following m f start end stage) ps)
      → Leads (plain_row m stage f) (rowed (kind_of stage) f p ∷ ps)
  unfolding plain_row
  plain_leads stage f p ps ok ends leads at h =
      row_yields stage f at (plain_run (drop at m)) p ps (ap plain_run h ∙ run_stops p (bytes_of ps) ok ends) h (leads at h)
