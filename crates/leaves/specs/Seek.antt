-- Where a byte is, and how often.
use Rattle.std.specs.Prelude.{ℕ, suc, cond, [], ◌∷◌, eqb}
use Rattle.label.specs.Bytes.{Bytes}

-- how many bytes stand before the first c; all of them where there is none
abbrev pub seek : ℕ → Bytes → ℕ
seek c [] = 0
seek c (b ∷ bs) = cond (eqb b c) 0 (suc (seek c bs))

-- how many bytes are c
abbrev pub tally_of : ℕ → Bytes → ℕ
tally_of c [] = 0
tally_of c (b ∷ bs) = cond (eqb b c) (suc (tally_of c bs)) (tally_of c bs)
