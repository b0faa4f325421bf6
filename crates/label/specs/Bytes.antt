-- Which bytes there are: the five control bytes, the classes that the rules speak of, and tests over them (01, 'What the gateway reads and
-- writes'). A byte is a number below 256; the definitions take any number, and what lies above is in no class.
use Rattle.std.specs.Prelude.{ℕ, Bool, true, false, ◌&&◌, ◌||◌, List, [], ◌∷◌, leb, ltb, eqb}
use Prim.Native.Char.{code}
use Prim.Native.String.{String}

abbrev pub Bytes : Type 0
Bytes = List ℕ

-- the bytes of a text in ISO/IEC 646
abbrev pub ascii : String → Bytes
ascii String.[] = []
ascii (String.◌∷◌ c cs) = code c ∷ ascii cs

-- control bytes (001, clause 4)
abbrev pub EOT : ℕ
EOT = 0x04

abbrev pub FS : ℕ
FS = 0x1C

abbrev pub GS : ℕ
GS = 0x1D

abbrev pub RS : ℕ
RS = 0x1E

abbrev pub US : ℕ
US = 0x1F

-- one of the five
unfoldable pub control : ℕ → Bool
control b = eqb b EOT || eqb b FS || eqb b GS || eqb b RS || eqb b US

-- from the first byte to the last, both included
unfoldable pub between : ℕ → ℕ → ℕ → Bool
between first last b = leb first b && leb b last

-- plain: 20 to 7E
unfoldable pub plain : ℕ → Bool
plain b = between 0x20 0x7E b

-- ISO/IEC 646 digits
unfoldable pub digit : ℕ → Bool
digit b = between 0x30 0x39 b

-- ISO/IEC 646 capital letters
unfoldable pub capital : ℕ → Bool
capital b = between 0x41 0x5A b

unfoldable pub capital_or_digit : ℕ → Bool
capital_or_digit b = capital b || digit b

-- below 80 hexadecimal
unfoldable pub below80 : ℕ → Bool
below80 b = ltb b 0x80

-- each of a list passes a test
abbrev pub every : {A : Type 0} → (A → Bool) → List A → Bool
every test [] = true
every test (x ∷ xs) = test x && every test xs

-- a list has nothing in it
abbrev pub is_empty : {A : Type 0} → List A → Bool
is_empty [] = true
is_empty (x ∷ xs) = false

-- the same bytes
abbrev pub same_bytes : Bytes → Bytes → Bool
same_bytes [] [] = true
same_bytes [] (y ∷ ys) = false
same_bytes (x ∷ xs) [] = false
same_bytes (x ∷ xs) (y ∷ ys) = eqb x y && same_bytes xs ys
