-- How calls and answers cross the border to other languages: an edition as a year, answers as structs of numbers, in which what does not apply is 0.
use Rattle.std.specs.Prelude.{ℕ, cond, List, [], ◌∷◌, length, ltb}
use Rattle.label.specs.declared.Edition.{Edition}
use Rattle.label.specs.declared.Edition.TheVariants.{Edition2005, Edition2025}
use Rattle.label.specs.Bytes.{Bytes}
use Rattle.label.specs.Part.{part_of}
use Rattle.label.specs.Answer.{room_of, read_answer}
use Rattle.label.specs.Writing.{write_answer}
use Rattle.zielorad.specs.declared.ZieloradReading.{ZieloradReading}
use Rattle.zielorad.specs.declared.ZieloradWritten.{ZieloradWritten}
use Rattle.zielorad.specs.declared.ZieloradPart.{ZieloradPart}

-- the edition that a year means: below 2025 that of 2005, from 2025 on that of 2025 (02, No. 3)
abbrev pub edition_in : ℕ → Edition
edition_in year = cond (ltb year 2025) Edition2005 Edition2025

-- a reading's numbers: three are an acceptance, which has no place; two a refusal, which has no counts
abbrev pub reading_of : List ℕ → ZieloradReading
reading_of [] = record { number = 0; place = 0; envelopes = 0; rows = 0 }
reading_of (n ∷ []) = record { number = n; place = 0; envelopes = 0; rows = 0 }
reading_of (n ∷ (p ∷ [])) = record { number = n; place = p; envelopes = 0; rows = 0 }
reading_of (n ∷ (e ∷ (r ∷ more))) = record { number = n; place = 0; envelopes = e; rows = r }

-- the writer's numbers: two are a count, one a refusal
abbrev pub written_of : List ℕ → ZieloradWritten
written_of [] = record { number = 0; count = 0 }
written_of (n ∷ []) = record { number = n; count = 0 }
written_of (n ∷ (count ∷ more)) = record { number = n; count = count }

-- what each function answers
abbrev pub reading_for : ℕ → Bytes → List ℕ → ZieloradReading
reading_for year m table = reading_of (read_answer (edition_in year) m (room_of table))

abbrev pub written_for : ℕ → Bytes → List ℕ → Bytes → ZieloradWritten
written_for year held ns output = written_of (write_answer (edition_in year) held ns (length output))

abbrev pub part_for : ℕ → Bytes → ℕ → ZieloradPart
part_for year m row = record { start = (part_of (edition_in year) m row).start; length = (part_of (edition_in year) m row).length }
