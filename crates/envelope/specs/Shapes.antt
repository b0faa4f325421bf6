-- What is found of an envelope of each shape behind its indicator: 6, then 7, then its header and body.
use Rattle.std.specs.Prelude.{ℕ, Bool, cond}
use Rattle.label.specs.declared.Reason.TheVariants.{UnknownFormat, NotFirst}
use Rattle.label.specs.Bytes.{Bytes}
use Rattle.formats.specs.declared.Shape.{Shape}
use Rattle.formats.specs.declared.Shape.TheVariants.{Fields, Rest, Segments03, Segments04, Elements05, Elements06, Text, Counted, Elements12, CountOnly, Unknown}
use Rattle.pieces.specs.declared.Kind.TheVariants as kind
use Rattle.envelope.specs.Judged.{Judged, no_envelope}
use Rattle.envelope.specs.Bodies.{body_found}
use Rattle.envelope.specs.Formats.{transport_found, rest_found, segments_found, elements_found, counted_found, count_only_found}

-- given whether it is the message's first
abbrev pub shape_found : Shape → Bool → Bytes → ℕ → Judged
shape_found Fields first m at = cond first (transport_found m at) (no_envelope NotFirst)
shape_found Rest first m at = cond first (rest_found m at) (no_envelope NotFirst)
shape_found Segments03 first m at = segments_found kind.Segments03 m at
shape_found Segments04 first m at = segments_found kind.Segments04 m at
shape_found Elements05 first m at = elements_found kind.Elements05 m at
shape_found Elements06 first m at = elements_found kind.Elements06 m at
shape_found Text first m at = body_found kind.Text 1 m at
shape_found Counted first m at = counted_found m at
shape_found Elements12 first m at = elements_found kind.Elements12 m at
shape_found CountOnly first m at = count_only_found m at
shape_found Unknown first m at = no_envelope UnknownFormat
