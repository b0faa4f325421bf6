-- The paper's numbers and values tell all of an answer: two readings, or two answers of the writer, with the same numbers and values are equal. From the
-- numbers the answer is got back.
use Rattle.std.specs.Prelude.{Err, Ok}
use Prim.Native.Nat.{ℕ, ◌-◌}
use mathlib.Core.Path.{◌≡◌, refl, sym, ap, ◌∙◌}
use mathlib.Core.Bool.{cond}
use mathlib.Core.List.{List, [], ◌∷◌}
use lib.ListN.{get_or}
use lib.Dec.{eqb}
use Rattle.label.specs.declared.Reason.{Reason}
use Rattle.label.specs.declared.Reason.TheVariants.{TooLong, NoMessageHeader, NoIndicator, NoTrailer, BytesAfterTrailer, UnknownFormat, NotFirst, BadFormatHeader, PayloadDoesNotFit, ByteNotPermitted, BodyBreaksRules, NoRecordSeparator, TooManyRows, NoRoom, BadFieldCount, FieldTooShort, FieldTooLong, BadFieldBytes}
use Rattle.label.specs.declared.WriteReason.{WriteReason}
use Rattle.label.specs.declared.WriteReason.TheVariants.{BadRows, NoSuchMessage, NoOutputRoom}
use Rattle.label.specs.Answer.{number, answer_of, Reading}
use Rattle.label.specs.Writing.{write_number, write_answer_of, Writing}

abbrev reasons : List Reason
reasons =
    TooLong ∷ NoMessageHeader ∷ NoIndicator ∷ NoTrailer ∷ BytesAfterTrailer ∷ UnknownFormat ∷ NotFirst
    ∷ BadFormatHeader ∷ PayloadDoesNotFit ∷ ByteNotPermitted ∷ BodyBreaksRules ∷ NoRecordSeparator ∷ TooManyRows ∷ NoRoom
    ∷ BadFieldCount ∷ FieldTooShort ∷ FieldTooLong ∷ BadFieldBytes ∷ []

-- the first of reasons that has a number
abbrev among : ℕ → List Reason → Reason
among n [] = NoRoom
among n (r ∷ rs) = cond (eqb n (number r)) r (among n rs)

abbrev numbered : ℕ → Reason
numbered n = among n reasons

numbered_back : (r : Reason) → numbered (number r) ≡ r
numbered_back TooLong = refl
numbered_back NoMessageHeader = refl
numbered_back NoIndicator = refl
numbered_back NoTrailer = refl
numbered_back BytesAfterTrailer = refl
numbered_back UnknownFormat = refl
numbered_back NotFirst = refl
numbered_back BadFormatHeader = refl
numbered_back PayloadDoesNotFit = refl
numbered_back ByteNotPermitted = refl
numbered_back BodyBreaksRules = refl
numbered_back NoRecordSeparator = refl
numbered_back TooManyRows = refl
numbered_back NoRoom = refl
numbered_back BadFieldCount = refl
numbered_back FieldTooShort = refl
numbered_back FieldTooLong = refl
numbered_back BadFieldBytes = refl

pub reasons_by_number : (r r' : Reason) → number r ≡ number r' → r ≡ r'
reasons_by_number r r' same = sym (numbered_back r) ∙ ap numbered same ∙ numbered_back r'

-- two numbers are a refusal, three an acceptance
abbrev answered_back : List ℕ → Reading
answered_back [] = Err (record { reason = NoRoom; place = 0 })
answered_back (n ∷ []) = Err (record { reason = numbered n; place = 0 })
answered_back (n ∷ (p ∷ [])) = Err (record { reason = numbered n; place = p })
answered_back (n ∷ (e ∷ (r ∷ more))) = Ok (record { envelopes = e; rows = r })

read_back_from : (a : Reading) → answered_back (answer_of a) ≡ a
read_back_from (Ok counts) = refl
read_back_from (Err r) = ap (λ reason. Err (record { reason = reason; place = r.place })) (numbered_back r.reason)

pub readings_by_answer : (a b : Reading) → answer_of a ≡ answer_of b → a ≡ b
readings_by_answer a b same = sym (read_back_from a) ∙ ap answered_back same ∙ read_back_from b

abbrev write_reasons : List WriteReason
write_reasons = BadRows ∷ NoSuchMessage ∷ NoOutputRoom ∷ []

-- one number is a refusal, two a count
abbrev written_back : List ℕ → Writing
written_back [] = Err NoOutputRoom
written_back (n ∷ []) = Err (get_or write_reasons (n - 20) NoOutputRoom)
written_back (n ∷ (count ∷ more)) = Ok count

wrote_back_from : (a : Writing) → written_back (write_answer_of a) ≡ a
wrote_back_from (Ok count) = refl
wrote_back_from (Err BadRows) = refl
wrote_back_from (Err NoSuchMessage) = refl
wrote_back_from (Err NoOutputRoom) = refl

pub writings_by_answer : (a b : Writing) → write_answer_of a ≡ write_answer_of b → a ≡ b
writings_by_answer a b same = sym (wrote_back_from a) ∙ ap written_back same ∙ wrote_back_from b

pub write_reasons_by_number : (r r' : WriteReason) → write_number r ≡ write_number r' → r ≡ r'
write_reasons_by_number r r' same = let one = writings_by_answer (Err r) (Err r') (ap (λ n. n ∷ []) same) in cc
