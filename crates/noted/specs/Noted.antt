-- What becomes of rows that are noted, whatever rows they are.
use Rattle.std.specs.Prelude.{ℕ, Bool, ◌&&◌, cond, List, [], ◌∷◌, map, length, get_or, ltb}
use Rattle.label.specs.declared.Reason.TheVariants.{TooManyRows, NoRoom}
use Rattle.label.specs.declared.Stretch.{Stretch}
use Rattle.label.specs.Limits.{most_rows}
use Rattle.label.specs.Layout.{Row, all_numbers}
use Rattle.label.specs.Answer.{accepted, refusal, room_of, overlaid}
use Rattle.label.specs.Counting.{row_from, kinds_of, by_counting}

-- how many numbers a row is in the notes: all but the ordinal
abbrev pub note_width : ℕ
note_width = 4

-- notes taken as rows, a whole row at a time
abbrev pub rows_noted : List ℕ → List Row
rows_noted [] = []
rows_noted (k ∷ []) = []
rows_noted (k ∷ (f ∷ [])) = []
rows_noted (k ∷ (f ∷ (s ∷ []))) = []
rows_noted (k ∷ (f ∷ (s ∷ (l ∷ ns)))) = record { kind = k; format = f; start = s; length = l } ∷ rows_noted ns

-- the rows of notes that are given each by itself
abbrev pub rows_by : List (List ℕ) → List Row
rows_by notes = map (λ note. row_from note 0) notes

-- the ordinals of rows of so many envelopes: those of one alone are 0, those of several are counted
abbrev pub ordinals_noted : ℕ → List Row → List ℕ
ordinals_noted envelopes rs = cond (ltb 1 envelopes) (by_counting (kinds_of rs)) (map (λ (r : Row). 0) rs)

-- too many rows to be counted: those of several envelopes, more than a message may have
abbrev pub too_many : ℕ → List Row → Bool
too_many envelopes rs = ltb 1 envelopes && ltb most_rows (length rs)

-- the answer for the rows noted, given a table's room: 14 where that is too little, then 13
abbrev pub answer_from : ℕ → List ℕ → ℕ → List ℕ
answer_from envelopes notes room =
    cond (ltb room (length (rows_noted notes))) (refusal NoRoom 0)
    (cond (too_many envelopes (rows_noted notes)) (refusal TooManyRows 0)
    (accepted envelopes (length (rows_noted notes))))

-- a table afterwards
abbrev pub table_from : ℕ → List ℕ → List ℕ → List ℕ
table_from envelopes notes table =
    cond (ltb (room_of table) (length (rows_noted notes))) table
    (cond (too_many envelopes (rows_noted notes)) table
    (overlaid (all_numbers (rows_noted notes) (ordinals_noted envelopes (rows_noted notes))) table))

-- the stretch of a row by its note
abbrev pub stretch_from : ℕ → ℕ → List ℕ → Stretch
stretch_from row rows note = cond (ltb row rows) (record { start = get_or note 2 0; length = get_or note 3 0 }) (record { start = 0; length = 0 })
