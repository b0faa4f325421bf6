-- `copy_row` makes five stores.
use Rattle.std.proofs.Common.{ℕ, suc, ◌+◌, ◌≤◌, ◌≡◌, ◌∙◌, List, [], ◌∷◌, ◌++◌, length, get_or, take, drop, append_assoc, arith}
use lib.ListN.{set}
use lib.Seq.{sets-eq}
use Rattle.label.specs.Limits.{row_width}
use Rattle.noted.proofs.copy_row.Goals as goal

five_stores : (t : List ℕ) (at a b c d e : ℕ) → at + row_width ≤ length t
    → set (set (set (set (set t at a) (at + 1) b) (at + 2) c) (at + 3) d) (at + 4) e ≡ take at t ++ ((a ∷ b ∷ c ∷ d ∷ e ∷ []) ++ drop (at + row_width) t)
five_stores t at a b c d e fits =
    let p : at + 1 ≡ suc at = omega arith in
    let q : at + 2 ≡ suc (suc at) = omega arith in
    let r : at + 3 ≡ suc (suc (suc at)) = omega arith in
    let s : at + 4 ≡ suc (suc (suc (suc at))) = omega arith in
    (λ i. set (set (set (set (set t at a) (p i) b) (q i) c) (r i) d) (s i) e)
    ∙ sets-eq (a ∷ b ∷ c ∷ d ∷ e ∷ []) t at fits
    ∙ append_assoc (take at t) (a ∷ b ∷ c ∷ d ∷ e ∷ []) (drop (at + row_width) t)

pub returns : goal.returns
returns c =
    let note = c.args.note.now in
    simp (c.from.ensures, c.from-2.ensures, c.from-3.ensures, c.from-4.ensures)
    (five_stores c.args.table.now c.args.at (get_or note 0 0) (get_or note 1 0) (get_or note 2 0) (get_or note 3 0) c.args.ordinal c.requires)
