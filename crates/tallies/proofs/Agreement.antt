-- How far bytes agree with a text: by one more than behind where their next bytes are the same; and it is the number of pairs in front that are the same.
use Prim.Native.Nat.{ℕ, suc, ◌+◌, ◌<◌}
use mathlib.Core.Path.{◌≡◌, refl, sym, ap, ◌∙◌}
use mathlib.Core.Bool.{cond}
use mathlib.Core.List.{[], ◌∷◌}
use native.Mathlib.Omega.{arith}
use borrow.Author.Tests.{eq-eqb}
use lib.ListN.{length, get_or, drop}
use lib.Dec.{eqb}
use Rattle.std.specs.List.{zip, prefix_len}
use Rattle.std.proofs.lemmas.Bool.{cond-true}
use Rattle.std.proofs.lemmas.List.{drop_more}
use Rattle.label.specs.Bytes.{Bytes}
use Rattle.label.specs.ReadMessage.{agreement}

agree_none : (text : Bytes) → agreement text [] ≡ 0
agree_none [] = refl
agree_none (h ∷ hs) = refl

agree_step : (text m : Bytes) (i j : ℕ) → i < length text → j < length m → agreement (drop i text) (drop j m) ≡ cond (eqb (get_or m j 0) (get_or text i 0)) (suc (agreement (drop (i + 1) text) (drop (j + 1) m))) 0
agree_step text m i j hi hj = λ k. agreement (drop_more text i 0 hi k) (drop_more m j 0 hj k)

pub agree_on : (text m : Bytes) (i j : ℕ) → i < length text → j < length m → get_or m j 0 ≡ get_or text i 0 → agreement (drop i text) (drop j m) ≡ suc (agreement (drop (i + 1) text) (drop (j + 1) m))
agree_on text m i j hi hj same = agree_step text m i j hi hj ∙ cond-true _ _ _ (eq-eqb _ _ same)

-- how many pairs in front are the same
pub agree_pairs : (m text : Bytes) → prefix_len (λ (p : ℕ × ℕ). eqb p.0 p.1) (zip m text) ≡ agreement text m
agree_pairs [] text = sym (agree_none text)
agree_pairs (b ∷ m) [] = refl
agree_pairs (b ∷ m) (h ∷ text) = ap (λ n. cond (eqb b h) n 0) (ap (λ n. 1 + n) (agree_pairs m text) ∙ omega arith)
