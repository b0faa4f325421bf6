-- The number that an indicator makes, and where a header value ends.
use Rattle.std.specs.Prelude.{Option, Some, None, Result, Ok, Err, ℕ, ◌+◌, Bool, ◌&&◌, cond, [], ◌∷◌, length, take, drop, leb, ltb}
use Rattle.label.specs.declared.Reason.{Reason}
use Rattle.label.specs.declared.Reason.TheVariants.{BadFormatHeader}
use Rattle.label.specs.Bytes.{Bytes, GS, digit, every}
use Rattle.label.specs.Values.{value}
use Rattle.leaves.specs.Seek.{seek}

-- a number, or that there is none where it isn't below a limit
abbrev pub if_below : ℕ → ℕ → Option ℕ
if_below limit n = cond (ltb n limit) (Some n) None

-- no indicator's number
abbrev pub no_indicator : ℕ
no_indicator = 100

-- the number of the indicator that bytes begin with, or that there is none
abbrev pub indicator_of : Bytes → ℕ
indicator_of [] = no_indicator
indicator_of (a ∷ []) = no_indicator
indicator_of (a ∷ (b ∷ bs)) = cond (digit a && digit b) (value (a ∷ b ∷ [])) no_indicator

-- the same, given how many bytes stand before the GS
abbrev pub value_end_by : ℕ → ℕ → (ℕ → Bool) → Bytes → ℕ → Bytes → ℕ → ℕ
value_end_by least most class m at bs n = cond (ltb n (length bs) && (leb least n && leb n most) && every class (take n bs)) (at + n) (length m)

-- where a header value of 09 ends that begins at an offset: at the next GS, if it has its length and bytes; else the message's length
abbrev pub value_end : ℕ → ℕ → (ℕ → Bool) → Bytes → ℕ → ℕ
value_end least most class m at = value_end_by least most class m at (drop at m) (seek GS (drop at m))

-- such an end, or 8 where it is the message's length
abbrev pub value_found : Bytes → ℕ → Result ℕ Reason
value_found m end = cond (ltb end (length m)) (Ok end) (Err BadFormatHeader)
