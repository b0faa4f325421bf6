-- The rule that a shape stands for.
use Rattle.std.specs.Prelude.{[], ◌∷◌}
use Rattle.label.specs.Values.{type_length, compression_length}
use Rattle.label.specs.Elements.{element05, element06, element12}
use Rattle.label.specs.Segments.{tag, tag03}
use Rattle.label.specs.Formats.{Rule, as_fields, as_rest, as_segments, as_elements, as_text, as_counted, unknown, rest_byte, text_byte}
use Rattle.formats.specs.declared.Shape.{Shape}
use Rattle.formats.specs.declared.Shape.TheVariants.{Fields, Rest, Segments03, Segments04, Elements05, Elements06, Elements12, Text, Counted, CountOnly, Unknown}

abbrev pub rule_for : Shape → Rule
rule_for Fields = as_fields
rule_for Rest = as_rest rest_byte
rule_for Segments03 = as_segments tag03
rule_for Segments04 = as_segments tag
rule_for Elements05 = as_elements element05
rule_for Elements06 = as_elements element06
rule_for Elements12 = as_elements element12
rule_for Text = as_text text_byte
rule_for Counted = as_counted (type_length ∷ compression_length ∷ [])
rule_for CountOnly = as_counted []
rule_for Unknown = unknown
