-- What it is that a message goes round: it is read, and what is read is written.
use Rattle.std.specs.Prelude.{ℕ, ◌≤◌, ◌≡◌, List, [], ◌∷◌, length, take}
use Rattle.label.specs.declared.Edition.{Edition}
use Rattle.label.specs.Bytes.{Bytes}
use Rattle.label.specs.Envelope.{Envelope}
use Rattle.label.specs.Message.{Good}
use Rattle.label.specs.ReadMessage.{reading}
use Rattle.label.specs.Answer.{overlaid, numbers_read}
use Rattle.label.specs.Writing.{write_answer_of, Writing}

-- so many of a table's first numbers are those read
pub record HoldsRead (edition : Edition) (m : Bytes) (n : ℕ) (table : List ℕ) : Type 0 where
  pub inside : n ≤ length table
  pub numbers : take n table ≡ numbers_read (reading edition m)

-- a good message that the output has room for is answered with its length, and its bytes are the output's first
abbrev pub GoesRound : Edition → Bytes → Bytes → Bytes → Writing → Type 0
GoesRound edition m output out a = (es : List Envelope) → Good edition m es → length m ≤ length output → (write_answer_of a ≡ 0 ∷ length m ∷ []) × (out ≡ overlaid m output)
