-- Two outcomes that a public function's contract allows for the same inputs are equal. `Learnt` is the contract as the checker has it and a caller learns it:
-- lifetimes, arguments, answer, and what lent memory holds afterwards.
use mathlib.Core.Path.{◌≡◌, refl, sym, ap, ◌∙◌}
use contract.Lifetimes.{Lfts}
use mathlib.Core.Bool.{Bool, cond}
use Prim.Native.Nat.{ℕ}
use Rattle.label.specs.Bytes.{FS, GS}
use Rattle.label.proofs.AllDefinitions.{all_definitions}
use Rattle.leaves.specs.Classes.{class_of}
use Rattle.leaves.specs.declared.Class.{Class}
use Rattle.leaves.specs.declared.Class.TheVariants.{Plain, Digit, CapitalOrDigit, PlainOrGs, SegmentByte, TextByte, RestByte}
use Rattle.bodies.proofs.permitted.Reads as permitted
use Rattle.bodies.proofs.last_empty.Reads as last_empty
use Rattle.bodies.proofs.rules_hold.Reads as rules_hold
use Rattle.bodies.proofs.rows_in.Reads as rows_in

-- a class is told by some of its bytes
abbrev told : (ℕ → Bool) → Class
told test =
    cond (test 0x00) (cond (test GS) RestByte TextByte)
    (cond (test FS) SegmentByte
    (cond (test GS) PlainOrGs
    (cond (test 0x20) Plain
    (cond (test 0x41) CapitalOrDigit Digit))))

told_back : (k : Class) → told (class_of k) ≡ k
unfolding all_definitions
told_back Plain = refl
told_back Digit = refl
told_back CapitalOrDigit = refl
told_back PlainOrGs = refl
told_back SegmentByte = refl
told_back TextByte = refl
told_back RestByte = refl

class_by_test : (a b : Class) → class_of a ≡ class_of b → a ≡ b
class_by_test a b same = sym (told_back a) ∙ ap told same ∙ told_back b

pub permitted_once : (κs : Lfts 0) (a : _) (r r' : _) (s s' : _) → permitted.Learnt κs a r s → permitted.Learnt κs a r' s' → r ≡ r'
permitted_once κs a r r' s s' one two = class_by_test r r' (one ∙ sym two)

pub last_empty_once : (κs : Lfts 1) (a : _) (r r' : _) (s s' : _) → last_empty.Learnt κs a r s → last_empty.Learnt κs a r' s' → r ≡ r'
last_empty_once κs a r r' s s' one two = one ∙ sym two

pub rules_hold_once : (κs : Lfts 1) (a : _) (r r' : _) (s s' : _) → rules_hold.Learnt κs a r s → rules_hold.Learnt κs a r' s' → r ≡ r'
rules_hold_once κs a r r' s s' one two = one ∙ sym two

pub rows_in_once : (κs : Lfts 1) (a : _) (r r' : _) (s s' : _) → rows_in.Learnt κs a r s → rows_in.Learnt κs a r' s' → r ≡ r'
rows_in_once κs a r r' s s' one two = one ∙ sym two
