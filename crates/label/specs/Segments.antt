-- What a segment of format 03 or 04 is (01, Envelope rules).
use Rattle.std.specs.Prelude.{Bool, false, not, ◌&&◌, List, [], ◌∷◌, take}
use Rattle.label.specs.Bytes.{Bytes, ascii, capital, capital_or_digit, every, same_bytes}
use Rattle.label.specs.Limits.{long_as, ◌to◌}

-- an element is its sub-elements, a segment its elements
abbrev pub Element : Type 0
Element = List Bytes

abbrev pub Segment : Type 0
Segment = List Element

-- a tag: two or three capitals or digits, the first a capital (house)
unfoldable pub tag : Bytes → Bool
tag bs = long_as (2 to 3) bs && every capital (take 1 bs) && every capital_or_digit bs

-- 03: a tag, and not `BIN` (004, 4.3.4)
unfoldable pub tag03 : Bytes → Bool
tag03 bs = tag bs && not (same_bytes bs (ascii "BIN"))

-- the first element is a tag and has no sub-elements (house); it may stand alone
unfoldable pub tagged : (Bytes → Bool) → Segment → Bool
tagged is_tag [] = false
tagged is_tag ([] ∷ later) = false
tagged is_tag ((t ∷ []) ∷ later) = is_tag t
tagged is_tag ((t ∷ (s ∷ ss)) ∷ later) = false
