-- How bytes are cut at a separator: all the way, or once.
use Rattle.std.specs.Prelude.{ℕ, Bool, true, false, List, [], ◌∷◌, eqb}
use Rattle.label.specs.Bytes.{Bytes, is_empty}

-- a byte in front of pieces: as a separator it makes one piece more, else it begins the first piece
abbrev pub piece_with : Bool → ℕ → List Bytes → List Bytes
piece_with true b ps = [] ∷ ps
piece_with false b [] = (b ∷ []) ∷ []
piece_with false b (p ∷ ps) = (b ∷ p) ∷ ps

-- the pieces between the separators: k separators make k + 1 pieces, always (01, Envelope rules)
abbrev pub pieces : ℕ → Bytes → List Bytes
pieces separator [] = [] ∷ []
pieces separator (b ∷ bs) = piece_with (eqb b separator) b (pieces separator bs)

-- the last of a list is empty
abbrev pub last_is_empty : List Bytes → Bool
last_is_empty [] = false
last_is_empty (p ∷ []) = is_empty p
last_is_empty (p ∷ (q ∷ ps)) = last_is_empty (q ∷ ps)

-- all but the last of a list
abbrev pub without_last : List Bytes → List Bytes
without_last [] = []
without_last (p ∷ []) = []
without_last (p ∷ (q ∷ ps)) = p ∷ without_last (q ∷ ps)

-- the bytes before and after the first separator, or that there is none
pub data Cut : Type 0 where
  found : Bytes → Bytes → Cut
  absent : Cut

abbrev pub cut_with : Bool → ℕ → Bytes → Cut → Cut
cut_with true b bs c = found [] bs
cut_with false b bs (found before after) = found (b ∷ before) after
cut_with false b bs absent = absent

abbrev pub cut : ℕ → Bytes → Cut
cut separator [] = absent
cut separator (b ∷ bs) = cut_with (eqb b separator) b bs (cut separator bs)
