-- What the quick path asks of fields while it sweeps format 01: how long one is, and what makes the last one right.
use Rattle.std.specs.Prelude.{ℕ, ◌≤◌, ◌≡◌, Bool, ◌&&◌, ◌||◌, leb, eqb}
use Rattle.label.specs.Limits.{limit_of}
use Rattle.label.specs.declared.Version.{Version}
use Rattle.label.specs.Fields.{least_fields, most_fields, version_row}
use Rattle.limits.specs.Sizes.{size_within}
use Rattle.pieces.specs.declared.Kind.{Kind}
use Rattle.pieces.specs.declared.Kind.TheVariants.{Fields, Segments03, Segments04, Elements05, Elements06, Text, Elements12}

-- so many bytes are the length of a field of a version; a later one may have none
abbrev pub fits_in : Version → ℕ → ℕ → Bool
fits_in v i n = size_within (limit_of (version_row v) i) n || (leb least_fields i && eqb n 0)

-- so many fields may end with one of a size: enough and not too many, and past the fifth the last is not empty
pub record LastRight (most count size : ℕ) : Type 0 where
  pub enough : least_fields ≤ count
  pub few : count ≤ most
  pub some : size ≡ 0 → count ≡ least_fields

-- the kinds of pieces that are swept one by one, and the format of each
abbrev pub PiecesOf : Kind → ℕ → Type 0
PiecesOf (Fields v) f = f ≡ 1
PiecesOf Segments03 f = ⊥
PiecesOf Segments04 f = ⊥
PiecesOf Elements05 f = f ≡ 5
PiecesOf Elements06 f = f ≡ 6
PiecesOf Text f = ⊥
PiecesOf Elements12 f = f ≡ 12

-- so many pieces may end with one of a size: only fields are counted
abbrev pub LastOf : Kind → ℕ → ℕ → Type 0
LastOf (Fields v) count size = LastRight (most_fields v) count size
LastOf Segments03 count size = Unit {0}
LastOf Segments04 count size = Unit {0}
LastOf Elements05 count size = Unit {0}
LastOf Elements06 count size = Unit {0}
LastOf Text count size = Unit {0}
LastOf Elements12 count size = Unit {0}
