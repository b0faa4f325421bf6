-- The one message that a list of items can have: between two items stand the marks that their kinds and formats ask for. It is laid out whatever
-- the items are, by the widest list of formats; whether it is good, in the edition that is picked, is another question.
use Rattle.std.specs.Prelude.{ℕ, ◌&&◌, cond, List, [], ◌∷◌, ◌++◌, leb, eqb}
use Rattle.label.specs.Bytes.{Bytes, EOT, FS, GS, RS, US}
use Rattle.label.specs.Formats.{Rule, widest, rule_of, as_fields, as_rest, as_segments, as_elements, as_text, as_counted, unknown}
use Rattle.label.specs.Layout.{Item}
use Rattle.label.specs.Written.{indicator_row, value_row, piece_row, tag_row, element_row, sub_element_row}
use Rattle.label.specs.Message.{header}

-- before a header value: GS, but nothing in a format of segments, nor where a count is the only value
abbrev pub before_value : Rule → Bytes
before_value as_fields = GS ∷ []
before_value (as_rest permitted) = GS ∷ []
before_value (as_segments is_tag) = []
before_value (as_elements is_element) = GS ∷ []
before_value (as_text permitted) = GS ∷ []
before_value (as_counted []) = []
before_value (as_counted (l ∷ ls)) = GS ∷ []
before_value unknown = GS ∷ []

-- behind an envelope whose last row has a kind: FS ends a segment, RS the envelope
abbrev pub closing : ℕ → Bytes
closing k = cond (leb tag_row k && leb k sub_element_row) (FS ∷ RS ∷ []) (RS ∷ [])

-- between a row of kind p and a row of kind k whose format has a rule. Behind a header value: nothing before a field, FS GS US before a tag,
-- GS before a payload
unfoldable pub marks_between : Rule → ℕ → ℕ → Bytes
marks_between rule p k =
    cond (eqb k indicator_row) (closing p)
    (cond (eqb k value_row) (before_value rule)
    (cond (eqb k piece_row) (cond (eqb p value_row) [] (GS ∷ []))
    (cond (eqb k tag_row) (cond (eqb p value_row) (FS ∷ GS ∷ US ∷ []) (FS ∷ []))
    (cond (eqb k element_row) (GS ∷ [])
    (cond (eqb k sub_element_row) (US ∷ [])
    (cond (eqb p value_row) (GS ∷ []) []))))))

-- behind the last row, of kind p: the envelope's and the message's end; nothing where the format takes all the rest
abbrev pub ending : Rule → ℕ → Bytes
ending as_fields p = closing p ++ (EOT ∷ [])
ending (as_rest permitted) p = []
ending (as_segments is_tag) p = closing p ++ (EOT ∷ [])
ending (as_elements is_element) p = closing p ++ (EOT ∷ [])
ending (as_text permitted) p = closing p ++ (EOT ∷ [])
ending (as_counted limits) p = closing p ++ (EOT ∷ [])
ending unknown p = closing p ++ (EOT ∷ [])

-- the bytes behind an item
unfoldable pub rendered_after : Item → List Item → Bytes
rendered_after i [] = ending (rule_of widest i.format) i.kind
rendered_after i (j ∷ js) = marks_between (rule_of widest j.format) i.kind j.kind ++ (j.content ++ rendered_after j js)

unfoldable pub rendered : List Item → Bytes
rendered [] = header
rendered (i ∷ is) = header ++ (i.content ++ rendered_after i is)
