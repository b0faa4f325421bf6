-- Version 96's row of the limits is version 02's with each pair worked out: one test over the fifteen fields, which the checker computes.
use mathlib.Core.Path.{◌≡◌, refl, sym, ap, ◌∙◌}
use mathlib.Core.List.{List, [], ◌∷◌}
use Prim.Native.Nat.{ℕ, zero, suc, ◌+◌, ◌<◌}
use native.Mathlib.Nat.{add-zero, zero-add, add-suc, suc-add, le_of_suc-le-suc, not-suc-le-zero}
use lib.ListN.{length, get_or}
use Rattle.label.specs.declared.Limit.{Limit}
use Rattle.label.specs.Limits.{limits, limit_of, ◌to◌}
use Rattle.limits.specs.Worked.{for96}

-- a row with each pair worked out, from a field on
abbrev worked_from : ℕ → List Limit → List Limit
worked_from field [] = []
worked_from field (l ∷ ls) = for96 field l ∷ worked_from (suc field) ls

row_96 : worked_from 0 (get_or limits 0 []) ≡ get_or limits 1 []
row_96 = refl

worked_at : (ls : List Limit) (i k : ℕ) → k < length ls → get_or (worked_from i ls) k (0 to 0) ≡ for96 (i + k) (get_or ls k (0 to 0))
worked_at [] i k h = absurd (not-suc-le-zero h)
worked_at (l ∷ ls) i zero h = ap (λ n. for96 n l) (sym (add-zero i))
worked_at (l ∷ ls) i (suc k) h = worked_at ls (suc i) k (le_of_suc-le-suc h) ∙ ap (λ n. for96 n (get_or ls k (0 to 0))) (suc-add i k ∙ sym (add-suc i k))

pub worked_out : (field : ℕ) → field < length (get_or limits 0 []) → for96 field (limit_of 0 field) ≡ limit_of 1 field
worked_out field h =
    ap (λ n. for96 n (limit_of 0 field)) (sym (zero-add field))
    ∙ (sym (worked_at (get_or limits 0 []) 0 field h) ∙ ap (λ row. get_or row field (0 to 0)) row_96)
