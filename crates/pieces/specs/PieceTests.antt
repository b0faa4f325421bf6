-- What is asked of one piece of a body that runs to an RS, by the body's kind.
use Rattle.std.specs.Prelude.{ℕ, Bool, true, take}
use Rattle.label.specs.Bytes.{Bytes, GS}
use Rattle.label.specs.Elements.{element05, element06, element12}
use Rattle.label.specs.Segments.{tag, tag03}
use Rattle.label.specs.Fields.{field}
use Rattle.leaves.specs.Seek.{seek}
use Rattle.pieces.specs.declared.Kind.{Kind}
use Rattle.pieces.specs.declared.Kind.TheVariants.{Fields, Segments03, Segments04, Elements05, Elements06, Text, Elements12}

-- what is asked of the piece with an index
abbrev pub piece_test : Kind → ℕ → Bytes → Bool
piece_test (Fields v) i p = field v i p
piece_test Segments03 i p = tag03 (take (seek GS p) p)
piece_test Segments04 i p = tag (take (seek GS p) p)
piece_test Elements05 i p = element05 p
piece_test Elements06 i p = element06 p
piece_test Text i p = true
piece_test Elements12 i p = element12 p
