-- The library's `split` and `enumerate`, in the words of the specification: what is tested is each piece, with its index.
use Prim.Native.Nat.{ℕ, ◌+◌}
use mathlib.Core.Path.{◌≡◌, refl, ap, ◌∙◌}
use mathlib.Core.Bool.{Bool, true, false, ◌&&◌, cond}
use mathlib.Core.List.{List, [], ◌∷◌}
use lib.Dec.{eqb}
use Rattle.std.specs.List.{slice_split, onto_first, enumerate_from, list_all}
use Rattle.label.specs.Bytes.{Bytes}
use Rattle.label.specs.Pieces.{piece_with, pieces}
use Rattle.bodies.specs.Kinds.{every_from}

parts_with : (t : Bool) (b : ℕ) (ps : List Bytes) → cond t ([] ∷ ps) (onto_first b ps) ≡ piece_with t b ps
parts_with true b ps = refl
parts_with false b [] = refl
parts_with false b (p ∷ ps) = refl

pub split_pieces : (c : ℕ) (bs : Bytes) → slice_split (λ b. eqb b c) bs ≡ pieces c bs
split_pieces c [] = refl
split_pieces c (b ∷ bs) = parts_with (eqb b c) b (slice_split (λ x. eqb x c) bs) ∙ ap (piece_with (eqb b c) b) (split_pieces c bs)

pub every_numbered : (test : ℕ → Bytes → Bool) (i : ℕ) (ps : List Bytes) → list_all (λ x. test x.0 x.1) (enumerate_from i ps) ≡ every_from test i ps
every_numbered test i [] = refl
every_numbered test i (p ∷ ps) = ap (λ t. test i p && t) (every_numbered test (i + 1) ps)
