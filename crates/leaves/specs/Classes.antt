-- The classes of bytes that a stretch is tested for, each by its definition, and what a digit is worth.
use Rattle.std.specs.Prelude.{ℕ, ◌-◌, Bool, cond, Option, Some, None}
use Rattle.label.specs.Bytes.{plain, digit, capital_or_digit}
use Rattle.label.specs.Formats.{rest_byte, text_byte}
use Rattle.label.specs.ReadEnvelope.{plain_or_gs, segment_byte}
use Rattle.leaves.specs.declared.Class.{Class}
use Rattle.leaves.specs.declared.Class.TheVariants.{Plain, Digit, CapitalOrDigit, PlainOrGs, SegmentByte, TextByte, RestByte}

abbrev pub class_of : Class → ℕ → Bool
class_of Plain = plain
class_of Digit = digit
class_of CapitalOrDigit = capital_or_digit
class_of PlainOrGs = plain_or_gs
class_of SegmentByte = segment_byte
class_of TextByte = text_byte
class_of RestByte = rest_byte

-- what a digit is worth (0x30 is `0`); nothing for a byte that is none
abbrev pub digit_of : ℕ → Option ℕ
digit_of b = cond (digit b) (Some (b - 0x30)) None
