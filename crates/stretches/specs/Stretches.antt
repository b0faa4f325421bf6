-- What is to be known of a row's stretch before it is handed back.
use Rattle.std.specs.Prelude.{ℕ, ◌+◌, ◌≤◌, ◌<◌, ◌≡◌, length}
use Rattle.label.specs.declared.Edition.{Edition}
use Rattle.label.specs.Bytes.{Bytes}
use Rattle.label.specs.ReadMessage.{reading}
use Rattle.label.specs.Answer.{rows_read}
use Rattle.label.specs.Part.{part_of}

-- these are the start and the length of a row's part, and it lies in the message
pub record Lies (edition : Edition) (m : Bytes) (row start long : ℕ) : Type 0 where
  pub from : start ≡ (part_of edition m row).start
  pub measures : long ≡ (part_of edition m row).length
  pub inside : start + long ≤ length m

-- a message that is read in an edition has a row of a number
abbrev pub HasRow : Edition → Bytes → ℕ → Type 0
HasRow edition m row = row < length (rows_read (reading edition m))

-- in one of the editions
pub record SomeHasRow (m : Bytes) (row : ℕ) : Type 0 where
  pub edition : Edition
  pub has : HasRow edition m row

-- the part of that row, in whichever edition the message has it
abbrev pub LiesWhere : Bytes → ℕ → ℕ → ℕ → Type 0
LiesWhere m row start long = (edition : Edition) → HasRow edition m row → Lies edition m row start long
