-- How an envelope is written, and which of its bytes are rows (01, Envelope rules and Rows).
use Rattle.std.specs.Prelude.{ℕ, ◌+◌, ◌/◌, ◌%◌, List, [], ◌∷◌, ◌++◌, map}
use Rattle.label.specs.Bytes.{Bytes, FS, GS, US}
use Rattle.label.specs.Values.{version_digits}
use Rattle.label.specs.Segments.{Element, Segment}
use Rattle.label.specs.Envelope.{Envelope, fields, whole_rest, segments, elements, text, counted}
use Rattle.label.specs.Layout.{Part, mark, item, separated, further, ended}

-- kinds of rows
abbrev pub indicator_row : ℕ
indicator_row = 1

abbrev pub value_row : ℕ
value_row = 2

abbrev pub piece_row : ℕ
piece_row = 3

abbrev pub tag_row : ℕ
tag_row = 4

abbrev pub element_row : ℕ
element_row = 5

abbrev pub sub_element_row : ℕ
sub_element_row = 6

abbrev pub body_row : ℕ
body_row = 7

-- bytes that are a row of a kind, in a format
abbrev pub rowed : ℕ → ℕ → Bytes → Part
rowed k f bs = item (record { kind = k; format = f; content = bs })

-- several, each a run of its own
abbrev pub rowed_each : ℕ → ℕ → List Bytes → List (List Part)
rowed_each k f pieces = map (λ bs. rowed k f bs ∷ []) pieces

-- a number's two digits
abbrev pub two_digits : ℕ → Bytes
two_digits n = (0x30 + n / 10) ∷ (0x30 + n % 10) ∷ []

-- the indicator
abbrev pub indicator : ℕ → Part
indicator f = rowed indicator_row f (two_digits f)

-- an element of a segment: its first sub-element is a row of the kind given, each further one, behind US, a row of kind 6
abbrev pub element_parts : ℕ → ℕ → Element → List Part
element_parts k f [] = []
element_parts k f (s ∷ ss) = rowed k f s ∷ further US (rowed_each sub_element_row f ss)

-- a segment: the tag, then each later element behind GS
abbrev pub segment_parts : ℕ → Segment → List Part
segment_parts f [] = []
segment_parts f (e ∷ es) = element_parts tag_row f e ++ further GS (map (element_parts element_row f) es)

-- 09: header values in front of the count: GS, then each with its GS; nothing where there are none, in 15
abbrev pub value_parts : ℕ → List Bytes → List Part
value_parts f [] = []
value_parts f (v ∷ vs) = mark GS ∷ ended GS (rowed_each value_row f (v ∷ vs))

-- an envelope, but for the RS behind it: indicator, header, body
unfoldable pub parts : Envelope → List Part
parts (fields f v fs) = indicator f ∷ mark GS ∷ rowed value_row f (version_digits v) ∷ separated GS (rowed_each piece_row f fs)
parts (whole_rest f body) = indicator f ∷ rowed body_row f body ∷ []
parts (segments f header ss) = indicator f ∷ rowed value_row f header ∷ mark FS ∷ mark GS ∷ mark US ∷ ended FS (map (segment_parts f) ss)
parts (elements f es) = indicator f ∷ mark GS ∷ separated GS (rowed_each piece_row f es)
parts (text f body) = indicator f ∷ rowed body_row f body ∷ []
parts (counted f vs n payload) = indicator f ∷ (value_parts f vs ++ (rowed value_row f n ∷ mark GS ∷ rowed body_row f payload ∷ []))
