-- What a message is, what its rows and their ordinals are, and when it is good (01, Envelope rules and Rows; 02, No. 9).
use Rattle.std.specs.Prelude.{ℕ, ◌+◌, ◌≤◌, ◌≡◌, Bool, true, false, not, ◌||◌, cond, List, [], ◌∷◌, ◌++◌, map, length}
use Rattle.label.specs.Bytes.{Bytes, ascii, EOT, RS, every, is_empty}
use Rattle.label.specs.Limits.{longest, most_rows}
use Rattle.label.specs.declared.Edition.{Edition}
use Rattle.label.specs.Layout.{Part, mark, marks, Row, bytes_of, items_of, rows_from, all_numbers, separated, ended}
use Rattle.label.specs.Envelope.{Envelope, fields, whole_rest, segments, elements, text, counted, Within}
use Rattle.label.specs.Written.{parts}

-- `[)>` RS
abbrev pub header : Bytes
header = ascii "[)>" ++ (RS ∷ [])

-- format 01
abbrev pub is_transport : Envelope → Bool
is_transport (fields f v fs) = true
is_transport (whole_rest f body) = false
is_transport (segments f r ss) = false
is_transport (elements f es) = false
is_transport (text f body) = false
is_transport (counted f vs n payload) = false

-- format 02
abbrev pub is_rest : Envelope → Bool
is_rest (fields f v fs) = false
is_rest (whole_rest f body) = true
is_rest (segments f r ss) = false
is_rest (elements f es) = false
is_rest (text f body) = false
is_rest (counted f vs n payload) = false

-- format 02 and nothing else
abbrev pub is_rest_alone : List Envelope → Bool
is_rest_alone [] = false
is_rest_alone (e ∷ []) = is_rest e
is_rest_alone (e ∷ (e' ∷ es)) = false

-- format 01 stands only first
abbrev pub transport_only_first : List Envelope → Bool
transport_only_first [] = true
transport_only_first (e ∷ es) = every (λ e'. not (is_transport e')) es

-- format 02 stands only alone
abbrev pub rest_only_alone : List Envelope → Bool
rest_only_alone es = is_rest_alone es || every (λ e. not (is_rest e)) es

-- a message: its header, then the envelopes, each ended by RS, then EOT; a format 02 message has neither RS after its envelope nor EOT
unfoldable pub message_parts : List Envelope → List Part
message_parts es = marks header ++ cond (is_rest_alone es) (separated RS (map parts es)) (ended RS (map parts es) ++ (mark EOT ∷ []))

unfoldable pub message : List Envelope → Bytes
message es = bytes_of (message_parts es)

-- the rows, in message order, each where its content stands in the message
unfoldable pub rows_of : List Envelope → List Row
rows_of es = rows_from 0 (message_parts es)

-- the ordinal of each row's envelope: of envelopes one behind the other, the first of which has ordinal n, each row of an envelope has the envelope's
-- (02, No. 9)
abbrev pub ordinals_from : ℕ → List Envelope → List ℕ
ordinals_from n [] = []
ordinals_from n (e ∷ es) = map (λ i. n) (items_of (parts e)) ++ ordinals_from (n + 1) es

-- they are counted from 0
unfoldable pub ordinals_of : List Envelope → List ℕ
ordinals_of es = ordinals_from 0 es

-- the numbers of the rows, one behind the other
abbrev pub numbers_of : List Envelope → List ℕ
numbers_of es = all_numbers (rows_of es) (ordinals_of es)

-- a fact of each of a list
abbrev pub Each : {A : Type 0} → (A → Type 0) → List A → Type 0
Each fact [] = Unit {0}
Each fact (x ∷ xs) = fact x × Each fact xs

-- a message is good with a list of envelopes: one or more, within the rules, in permitted places and within both limits, that write out to
-- exactly its bytes (01, demand 3)
pub record Good (edition : Edition) (m : Bytes) (es : List Envelope) : Type 0 where
  pub one_or_more : is_empty es ≡ false
  pub within : Each (Within edition) es
  pub only_first : transport_only_first es ≡ true
  pub only_alone : rest_only_alone es ≡ true
  pub not_too_long : length m ≤ longest
  pub not_too_many : length (rows_of es) ≤ most_rows
  pub writes_out : message es ≡ m
