-- Every definition at once, for statements that hold by computation.
use Rattle.label.specs.Bytes.{control, between, plain, digit, capital, capital_or_digit, below80}
use Rattle.label.specs.Limits.{long_as}
use Rattle.label.specs.Values.{release, header_value, count}
use Rattle.label.specs.Elements.{element05, capital_and_more, after_digits, element06, element12}
use Rattle.label.specs.Segments.{tag, tag03, tagged}
use Rattle.label.specs.Fields.{few_digits, both_sides, n_of_x, amount_by, amount, unit, weight, yes_or_no, field, fields_from, transport}
use Rattle.label.specs.Faults.{element_fault, field_fault, fields_fault, elements_fault}
use Rattle.label.specs.Formats.{rest_byte, text_byte, rule_of}
use Rattle.label.specs.Written.{parts}
use Rattle.label.specs.Message.{message_parts, message, rows_of, ordinals_of}
use Rattle.label.specs.ReadEnvelope.{bodied, plain_or_gs, version_of, read_fields, read_transport, read_rest, segment_byte, segments_in, are_segments, read_segments, read_elements, read_text, read_payload, read_count, read_counted, read_by, read_envelope}
use Rattle.label.specs.ReadMessage.{walk, reading}
use Rattle.label.specs.Answer.{read_answer, table_after, printed}
use Rattle.label.specs.Part.{part_of}
use Rattle.label.specs.Rendered.{marks_between, rendered_after, rendered}
use Rattle.label.specs.Writing.{inside, rows_stand, same_item, composed, writing, write_answer, output_after}

-- to unfold this is to unfold every definition, so that closed terms compute
unfoldable pub all_definitions : Unit {0}
unfolding control between plain digit capital capital_or_digit below80 long_as release header_value count element05 capital_and_more after_digits element06 element12 tag tag03 tagged few_digits both_sides n_of_x amount_by amount unit weight yes_or_no field fields_from transport element_fault field_fault fields_fault elements_fault rest_byte text_byte rule_of parts message_parts message rows_of ordinals_of bodied plain_or_gs version_of read_fields read_transport read_rest segment_byte segments_in are_segments read_segments read_elements read_text read_payload read_count read_counted read_by read_envelope walk reading read_answer table_after printed part_of marks_between rendered_after rendered inside rows_stand same_item composed writing write_answer output_after
all_definitions = tt
