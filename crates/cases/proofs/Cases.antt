-- A case is a message and the lines that its reading is printed as. A table of cases stands in an edition if the reading definition computes them all. And what of
-- Good computes.
use Prim.Native.Nat.{ℕ}
use mathlib.Core.Path.{◌≡◌}
use mathlib.Core.Bool.{true, false}
use mathlib.Core.List.{List, map}
use lib.ListN.{length}
use lib.Dec.{T, leb, leb→le}
use Rattle.label.specs.declared.Edition.{Edition}
use Rattle.label.specs.Bytes.{Bytes, is_empty}
use Rattle.label.specs.Limits.{longest, most_rows}
use Rattle.label.specs.Envelope.{Envelope, Within}
use Rattle.label.specs.Message.{transport_only_first, rest_only_alone, message, rows_of, Each, Good}
use Rattle.label.specs.Answer.{printed}

pub record Case : Type 0 where
  pub input : Bytes
  pub lines : List (List ℕ)

abbrev pub Stand : Edition → List Case → Type 0
Stand edition cases = map (λ c. printed edition c.input) cases ≡ map (λ (c : Case). c.lines) cases

infixr 20 ◌and◌
pub ◌and◌ : {A B : Type 0} → A → B → A × B
a and b = (a, b)

-- what computes of Good, for a list of envelopes within their rules
pub good : (edition : Edition) (m : Bytes) (es : List Envelope) → Each (Within edition) es → is_empty es ≡ false → transport_only_first es ≡ true → rest_only_alone es ≡ true
    → T (leb (length m) longest) → T (leb (length (rows_of es)) most_rows) → message es ≡ m → Good edition m es
good edition m es within some first alone short few bytes =
    record { one_or_more = some; within = within; only_first = first; only_alone = alone; not_too_long = leb→le _ _ short; not_too_many = leb→le _ _ few; writes_out = bytes }
