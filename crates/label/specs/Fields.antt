-- What the fields of format 01 are (01, Transport fields). Field No. i + 1 is field i here.
use Rattle.std.specs.Prelude.{ℕ, ◌+◌, ◌-◌, Bool, true, false, not, ◌&&◌, ◌||◌, List, [], ◌∷◌, length, get_or, take, drop, leb}
use Rattle.label.specs.Bytes.{Bytes, ascii, plain, digit, every, is_empty, same_bytes}
use Rattle.label.specs.Pieces.{Cut, found, absent, cut, last_is_empty}
use Rattle.label.specs.Limits.{limit_of, long_as, ◌to◌}
use Rattle.label.specs.declared.Version.{Version}
use Rattle.label.specs.declared.Version.TheVariants.{Version02, Version96}

-- `/`
abbrev pub slash : ℕ
slash = 0x2F

-- 1 to 4 digits
unfoldable pub few_digits : Bytes → Bool
few_digits bs = long_as (1 to 4) bs && every digit bs

unfoldable pub both_sides : (Bytes → Bool) → Cut → Bool
both_sides test absent = false
both_sides test (found before after) = test before && test after

-- No. 9, n/x: 1 to 4 digits, `/`, 1 to 4 digits
unfoldable pub n_of_x : Bytes → Bool
n_of_x bs = both_sides few_digits (cut slash bs)

-- `.`
abbrev pub point : ℕ
point = 0x2E

unfoldable pub amount_by : Cut → Bytes → Bool
amount_by absent bs = every digit bs && not (is_empty bs)
amount_by (found before after) bs = every digit before && every digit after && not (is_empty before && is_empty after)

-- a weight's number (document 02, No. 2): digits with at most one point, and at least one digit
unfoldable pub amount : Bytes → Bool
amount bs = amount_by (cut point bs) bs

-- a weight's unit: `LB` or `KG`
unfoldable pub unit : Bytes → Bool
unit bs = same_bytes bs (ascii "LB") || same_bytes bs (ascii "KG")

abbrev pub unit_length : ℕ
unit_length = 2

-- No. 10 (document 02, No. 2): in version 02 a number and behind it a unit, in version 96 the number alone
unfoldable pub weight : Version → Bytes → Bool
weight Version02 bs = amount (take (length bs - unit_length) bs) && unit (drop (length bs - unit_length) bs)
weight Version96 bs = amount bs

-- No. 11: `Y` or `N`
unfoldable pub yes_or_no : Bytes → Bool
yes_or_no bs = same_bytes bs (ascii "Y") || same_bytes bs (ascii "N")

-- the column Bytes, No. 1 to 15
abbrev pub field_bytes : Version → List (Bytes → Bool)
field_bytes v =
    every plain ∷ every digit ∷ every plain ∷ every plain ∷ every plain
    ∷ every plain ∷ every digit ∷ every plain ∷ n_of_x ∷ weight v
    ∷ yes_or_no ∷ every plain ∷ every plain ∷ every plain ∷ every plain ∷ []

-- the version's row in the table of limits
abbrev pub version_row : Version → ℕ
version_row Version02 = 0
version_row Version96 = 1

-- No. 15 is version 02's only
abbrev pub most_fields : Version → ℕ
most_fields Version02 = 15
most_fields Version96 = 14

-- fields No. 1 to 5 must be there
abbrev pub least_fields : ℕ
least_fields = 5

-- a field has its length and its bytes; a later one may be empty
unfoldable pub field : Version → ℕ → Bytes → Bool
field v i bs = long_as (limit_of (version_row v) i) bs && get_or (field_bytes v) i (every plain) bs || leb least_fields i && is_empty bs

-- each in turn, from field i on
unfoldable pub fields_from : Version → ℕ → List Bytes → Bool
fields_from v i [] = true
fields_from v i (f ∷ fs) = field v i f && fields_from v (i + 1) fs

-- enough fields and not too many, each as stated, and the last of those past the fifth not empty
unfoldable pub transport : Version → List Bytes → Bool
transport v fs = leb least_fields (length fs) && leb (length fs) (most_fields v) && fields_from v 0 fs && not (last_is_empty (drop least_fields fs))
