-- What stands in a format's header (01, Envelope rules, column Header).
use Rattle.std.specs.Prelude.{ℕ, ◌+◌, ◌-◌, ◌*◌, Bool, true, false, ◌&&◌, List, [], ◌∷◌}
use Rattle.label.specs.declared.Limit.{Limit}
use Rattle.label.specs.declared.Version.{Version}
use Rattle.label.specs.declared.Version.TheVariants.{Version02, Version96}
use Rattle.label.specs.Bytes.{Bytes, ascii, plain, digit, capital_or_digit, every}
use Rattle.label.specs.Limits.{long_as, ◌to◌}

-- 01: the version, `02` or `96`
abbrev pub version_digits : Version → Bytes
version_digits Version02 = ascii "02"
version_digits Version96 = ascii "96"

-- 03, 04: six bytes, digits or capitals (house)
abbrev pub release_length : ℕ
release_length = 6

unfoldable pub release : Bytes → Bool
release bs = long_as (release_length to release_length) bs && every capital_or_digit bs

-- 09: how long type, compression and count are (004, 4.2.11); the count of 15 likewise (house; 02, No. 3)
abbrev pub type_length : Limit
type_length = 1 to 30

abbrev pub compression_length : Limit
compression_length = 0 to 30

abbrev pub count_length : Limit
count_length = 1 to 15

-- 09: the type and the compression, each as long as its limits have it, plain bytes
unfoldable pub header_value : Limit → Bytes → Bool
header_value limit bs = long_as limit bs && every plain bs

-- values of a header, one for each of a list of limits
abbrev pub header_values : List Limit → List Bytes → Bool
header_values [] [] = true
header_values [] (v ∷ vs) = false
header_values (l ∷ ls) [] = false
header_values (l ∷ ls) (v ∷ vs) = header_value l v && header_values ls vs

-- 09, 15: the count, digits, leading zeros allowed
unfoldable pub count : Bytes → Bool
count bs = long_as count_length bs && every digit bs

-- the number that digits make behind those that make n
abbrev pub value_after : ℕ → Bytes → ℕ
value_after n [] = n
value_after n (d ∷ ds) = value_after (10 * n + (d - 0x30)) ds

-- the number that digits make
abbrev pub value : Bytes → ℕ
value ds = value_after 0 ds
