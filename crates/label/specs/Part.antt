-- Which part of a message is handed back for a row number (01, Numbers for the receiving desk, last but one paragraph).
use Rattle.std.specs.Prelude.{ℕ, zero, suc, List, [], ◌∷◌}
use Rattle.label.specs.declared.Stretch.{Stretch}
use Rattle.label.specs.Bytes.{Bytes}
use Rattle.label.specs.declared.Edition.{Edition}
use Rattle.label.specs.Layout.{Row}
use Rattle.label.specs.ReadMessage.{reading}
use Rattle.label.specs.Answer.{rows_read}

-- the empty part at the message's start
abbrev pub empty_start : Stretch
empty_start = record { start = 0; length = 0 }

-- the stretch of row n, counted from 0; the empty start where there is no such row
abbrev pub stretch_at : List Row → ℕ → Stretch
stretch_at [] n = empty_start
stretch_at (r ∷ rs) zero = record { start = r.start; length = r.length }
stretch_at (r ∷ rs) (suc n) = stretch_at rs n

-- the part of a message for row n, read with ample room: the most rows that a message may have
unfoldable pub part_of : Edition → Bytes → ℕ → Stretch
part_of edition m n = stretch_at (rows_read (reading edition m)) n
