-- What an element of format 05, 06 or 12 is (01, Envelope rules; 02, No. 3).
use Rattle.std.specs.Prelude.{ℕ, zero, suc, Bool, false, not, ◌&&◌, cond, [], ◌∷◌, length, take, drop, leb}
use Rattle.label.specs.Bytes.{Bytes, ascii, digit, capital, capital_or_digit, every, is_empty, same_bytes}

-- 05: at least three bytes, the first two digits (house)
unfoldable pub element05 : Bytes → Bool
element05 bs = leb 3 (length bs) && every digit (take 2 bs)

-- a capital, then at least one byte
unfoldable pub capital_and_more : Bytes → Bool
capital_and_more [] = false
capital_and_more (b ∷ bs) = capital b && not (is_empty bs)

-- at most n digits, then a capital and at least one byte
unfoldable pub after_digits : ℕ → Bytes → Bool
after_digits zero bs = capital_and_more bs
after_digits (suc n) [] = false
after_digits (suc n) (b ∷ bs) = cond (digit b) (after_digits n bs) (capital_and_more (b ∷ bs))

-- 06: zero to three digits, one capital, then at least one byte (house)
unfoldable pub element06 : Bytes → Bool
element06 bs = after_digits 3 bs

-- 12: three capitals or digits, a space, then at least one byte (house; 02, No. 3)
unfoldable pub element12 : Bytes → Bool
element12 bs = leb 5 (length bs) && every capital_or_digit (take 3 bs) && same_bytes (take 1 (drop 3 bs)) (ascii " ")
