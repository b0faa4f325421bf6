-- What two calls that print the same leave to the same writer: the same bytes, where both came to their end and what it held is known.
use Rattle.std.specs.Prelude.{◌≡◌, ℕ, List, None, Some, Ok, OnOk}
use Rattle.std.specs.Io.KnownBytes.{Appends}
use Rattle.std.specs.declared.result.Result.{Result}
use Rattle.std.specs.declared.option.Option.{Option}
use mathlib.Core.Path.{sym, ap, ◌∙◌}
use Rattle.std.proofs.lemmas.Result.{IfOk-at_ok}

-- the bytes that a writer holds behind what it held are determined
appended_once : (old new new' : Option (List ℕ)) (text held : List ℕ) → old ≡ Some held → Appends old new text → Appends old new' text → new ≡ new'
appended_once None new new' text held known one two = cc
appended_once (Some xs) None new' text held known one two = absurd one
appended_once (Some xs) (Some ys) None text held known one two = absurd two
appended_once (Some xs) (Some ys) (Some zs) text held known one two = ap (λ (l : List ℕ). Some l) (one ∙ sym two)

-- two calls that say the same of what they append
pub printed_once : {A E : Type 0} (r r' : Result A E) (x x' : A) (old new new' : Option (List ℕ)) (text held : List ℕ)
    → old ≡ Some held → r ≡ Ok x → r' ≡ Ok x' → OnOk r (Appends old new text) → OnOk r' (Appends old new' text) → new ≡ new'
printed_once r r' x x' old new new' text held known ended ended' one two =
    appended_once old new new' text held known (IfOk-at_ok _ ended one) (IfOk-at_ok _ ended' two)
