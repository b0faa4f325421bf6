-- The thirteen cases of 01's table 'Proved', one of them as document 02, No. 1 has it, as one statement about the reading definition; and for those that
-- are accepted, that the writing side has them too. All by computation. H is `[)>` RS.
use Prim.Native.Nat.{ℕ}
use mathlib.Core.Path.{◌≡◌, refl}
use mathlib.Core.List.{List, [], ◌∷◌, ◌++◌, tail}
use Rattle.label.specs.declared.Edition.{Edition}
use Rattle.label.specs.declared.Edition.TheVariants.{Edition2005, Edition2025}
use Rattle.label.specs.Bytes.{ascii, EOT, GS, RS}
use Rattle.label.specs.Elements.{element06}
use Rattle.label.specs.Segments.{tag03}
use Rattle.label.specs.Formats.{rest_byte, text_byte}
use Rattle.label.specs.Envelope.{Envelope, whole_rest, segments, elements, text, counted}
use Rattle.label.specs.Message.{rows_of, ordinals_of, Each, Good}
use Rattle.label.specs.Answer.{each_numbers}
use Rattle.label.specs.Values.{type_length, compression_length}
use Rattle.label.proofs.AllDefinitions.{all_definitions}
use Rattle.cases.proofs.Cases.{Case, Stand, ◌and◌, good}

-- the message printed under 'Cartons to try': H `06` GS `1P7` GS `Q3` RS EOT
abbrev pub carton : Case
carton = record { input = ascii "[)>\u{1e}06\u{1d}1P7\u{1d}Q3\u{1e}\u{4}"; lines = (0 ∷ 1 ∷ 3 ∷ []) ∷ (1 ∷ 6 ∷ 4 ∷ 2 ∷ 0 ∷ []) ∷ (3 ∷ 6 ∷ 7 ∷ 3 ∷ 0 ∷ []) ∷ (3 ∷ 6 ∷ 11 ∷ 2 ∷ 0 ∷ []) ∷ [] }

-- nothing
abbrev pub nothing : Case
nothing = record { input = ascii ""; lines = (2 ∷ 0 ∷ []) ∷ [] }

-- H EOT
abbrev pub no_envelope : Case
no_envelope = record { input = ascii "[)>\u{1e}\u{4}"; lines = (3 ∷ 4 ∷ []) ∷ [] }

-- H `07` RS EOT
abbrev pub empty_text : Case
empty_text = record { input = ascii "[)>\u{1e}07\u{1e}\u{4}"; lines = (0 ∷ 1 ∷ 2 ∷ []) ∷ (1 ∷ 7 ∷ 4 ∷ 2 ∷ 0 ∷ []) ∷ (7 ∷ 7 ∷ 6 ∷ 0 ∷ 0 ∷ []) ∷ [] }

-- the first message less its EOT
abbrev pub no_trailer : Case
no_trailer = record { input = ascii "[)>\u{1e}06\u{1d}1P7\u{1d}Q3\u{1e}"; lines = (4 ∷ 14 ∷ []) ∷ [] }

-- the first message and one byte, whichever it is
abbrev pub one_byte_more : ℕ → Case
one_byte_more b = record { input = carton.input ++ (b ∷ []); lines = (5 ∷ 15 ∷ []) ∷ [] }

-- H `08` RS EOT
abbrev pub format08 : Case
format08 = record { input = ascii "[)>\u{1e}08\u{1e}\u{4}"; lines = (6 ∷ 4 ∷ []) ∷ [] }

-- H `06` GS `1P7` RS `01` RS EOT
abbrev pub late_transport : Case
late_transport = record { input = ascii "[)>\u{1e}06\u{1d}1P7\u{1e}01\u{1e}\u{4}"; lines = (7 ∷ 11 ∷ []) ∷ [] }

-- H `09` GS `A` GS GS `3` GS RS EOT GS RS EOT
abbrev pub payload : Case
payload = record { input = ascii "[)>\u{1e}09\u{1d}A\u{1d}\u{1d}3\u{1d}\u{1e}\u{4}\u{1d}\u{1e}\u{4}"; lines = (0 ∷ 1 ∷ 5 ∷ []) ∷ (1 ∷ 9 ∷ 4 ∷ 2 ∷ 0 ∷ []) ∷ (2 ∷ 9 ∷ 7 ∷ 1 ∷ 0 ∷ []) ∷ (2 ∷ 9 ∷ 9 ∷ 0 ∷ 0 ∷ []) ∷ (2 ∷ 9 ∷ 10 ∷ 1 ∷ 0 ∷ []) ∷ (7 ∷ 9 ∷ 12 ∷ 3 ∷ 0 ∷ []) ∷ [] }

-- the same with count `2`
abbrev pub short_count : Case
short_count = record { input = ascii "[)>\u{1e}09\u{1d}A\u{1d}\u{1d}2\u{1d}\u{1e}\u{4}\u{1d}\u{1e}\u{4}"; lines = (9 ∷ 4 ∷ []) ∷ [] }

-- H `06` GS `Q3` GS RS EOT: the place is the empty element's start (document 02, No. 1), where 01's table has the indicator, 4
abbrev pub empty_element : Case
empty_element = record { input = ascii "[)>\u{1e}06\u{1d}Q3\u{1d}\u{1e}\u{4}"; lines = (11 ∷ 10 ∷ []) ∷ [] }

-- H `03004010` FS GS US `N1` GS `A` US `B` FS RS EOT
abbrev pub one_segment : Case
one_segment = record { input = ascii "[)>\u{1e}03004010\u{1c}\u{1d}\u{1f}N1\u{1d}A\u{1f}B\u{1c}\u{1e}\u{4}"; lines = (0 ∷ 1 ∷ 5 ∷ []) ∷ (1 ∷ 3 ∷ 4 ∷ 2 ∷ 0 ∷ []) ∷ (2 ∷ 3 ∷ 6 ∷ 6 ∷ 0 ∷ []) ∷ (4 ∷ 3 ∷ 15 ∷ 2 ∷ 0 ∷ []) ∷ (5 ∷ 3 ∷ 18 ∷ 1 ∷ 0 ∷ []) ∷ (6 ∷ 3 ∷ 20 ∷ 1 ∷ 0 ∷ []) ∷ [] }

-- H `02X`
abbrev pub all_the_rest : Case
all_the_rest = record { input = ascii "[)>\u{1e}02X"; lines = (0 ∷ 1 ∷ 2 ∷ []) ∷ (1 ∷ 2 ∷ 4 ∷ 2 ∷ 0 ∷ []) ∷ (7 ∷ 2 ∷ 6 ∷ 1 ∷ 0 ∷ []) ∷ [] }

-- the table, with the one byte that its sixth case has more
abbrev pub thirteen : ℕ → List Case
thirteen b =
    carton
    ∷ nothing
    ∷ no_envelope
    ∷ empty_text
    ∷ no_trailer
    ∷ one_byte_more b
    ∷ format08
    ∷ late_transport
    ∷ payload
    ∷ short_count
    ∷ empty_element
    ∷ one_segment
    ∷ all_the_rest
    ∷ []

pub the_thirteen : (edition : Edition) (b : ℕ) → Stand edition (thirteen b)
unfolding all_definitions
the_thirteen Edition2005 b = refl
the_thirteen Edition2025 b = refl

-- Of the accepted cases: the list of envelopes, written by hand, with which the message is good and has the table's rows
record Example : Type 0 where
  case : Case
  envelopes : List Envelope

abbrev WrittenSo : Edition → Example → Type 0
WrittenSo edition x = Good edition x.case.input x.envelopes × (each_numbers (rows_of x.envelopes) (ordinals_of x.envelopes) ≡ tail x.case.lines)

abbrev accepted_cases : List Example
accepted_cases =
    record { case = carton; envelopes = elements 6 (ascii "1P7" ∷ ascii "Q3" ∷ []) ∷ [] }
    ∷ record { case = empty_text; envelopes = text 7 [] ∷ [] }
    ∷ record { case = payload; envelopes = counted 9 (ascii "A" ∷ [] ∷ []) (ascii "3") (RS ∷ EOT ∷ GS ∷ []) ∷ [] }
    ∷ record { case = one_segment; envelopes = segments 3 (ascii "004010") (((ascii "N1" ∷ []) ∷ (ascii "A" ∷ ascii "B" ∷ []) ∷ []) ∷ []) ∷ [] }
    ∷ record { case = all_the_rest; envelopes = whole_rest 2 (ascii "X") ∷ [] }
    ∷ []

pub the_accepted_are_written : (edition : Edition) → Each (WrittenSo edition) accepted_cases
unfolding all_definitions
the_accepted_are_written edition =
    (good edition _ _ (record { is_element = element06; known = refl; one_or_more = refl; plain_bytes = refl; as_stated = refl } and tt) refl refl refl tt tt refl and refl)
    and (good edition _ _ (record { permitted = text_byte; known = refl; permitted_bytes = refl } and tt) refl refl refl tt tt refl and refl)
    and (good edition _ _ (record { limits = type_length ∷ compression_length ∷ []; known = refl; are_values = refl; is_count = refl; counts = refl } and tt) refl refl refl tt tt refl and refl)
    and (good edition _ _ (record { is_tag = tag03; known = refl; six_bytes = refl; one_or_more = refl; plain_bytes = refl; all_tagged = refl } and tt) refl refl refl tt tt refl and refl)
    and (good edition _ _ (record { permitted = rest_byte; known = refl; not_empty = refl; permitted_bytes = refl } and tt) refl refl refl tt tt refl and refl)
    and tt
