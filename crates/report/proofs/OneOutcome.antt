-- Two outcomes that a public function's contract allows for the same inputs are equal. `Learnt` is the contract as the checker has it and a caller learns it:
-- lifetimes, arguments, answer, and what lent memory holds afterwards. Of what is printed: where both calls came to their end, and the bytes that the writer
-- held are known, it holds the same bytes.
use mathlib.Core.Path.{◌≡◌, sym, ◌∙◌}
use contract.Lifetimes.{Lfts}
use denote.RattleType.{RattleType}
use Rattle.std.specs.declared.io.traits.Write.{Ghosts}
use Rattle.std.specs.declared.io.traits.Read.{Ghosts as Reader}
use Prim.Native.Nat.{ℕ}
use mathlib.Core.List.{List}
use Rattle.std.specs.Prelude.{Some, Ok, take, length}
use Rattle.report.proofs.Filled.{filled, filled_once}
use Rattle.report.proofs.Printed.{printed_once}
use Rattle.report.proofs.put.Reads as put
use Rattle.report.proofs.read_full.Reads as read_full
use Rattle.report.proofs.print_writing.Reads as print_writing
use Rattle.report.proofs.print_answer.Reads as print_answer
use Rattle.report.proofs.print_row.Reads as print_row
use Rattle.report.proofs.print_reading.Reads as print_reading

pub put_once : (κs : Lfts 1) (a : _) (r r' : _) (s s' : _) → put.Learnt κs a r s → put.Learnt κs a r' s' → (r ≡ r') × (s.1.0.now ≡ s'.1.0.now)
put_once κs a r r' s s' one two = (one.0 ∙ sym two.0, one.1.1 ∙ sym two.1.1)

pub print_writing_once : (w : RattleType) (laws : _) (of : Ghosts w.Denot) (d : _) (κs : Lfts 2) (a : _) (r r' : _) (s s' : _)
    → print_writing.Learnt w laws of d κs a r s → print_writing.Learnt w laws of d κs a r' s' → (held : List ℕ) → of.contents a.0.now ≡ Some held → r ≡ Ok tt → r' ≡ Ok tt → of.contents s.0.now ≡ of.contents s'.0.now
print_writing_once w laws of d κs a r r' s s' one two held known ended ended' = printed_once r r' tt tt _ _ _ _ held known ended ended' one two

pub print_answer_once : (w : RattleType) (laws : _) (of : Ghosts w.Denot) (d : _) (κs : Lfts 2) (a : _) (r r' : _) (s s' : _)
    → print_answer.Learnt w laws of d κs a r s → print_answer.Learnt w laws of d κs a r' s' → (held : List ℕ) → of.contents a.0.now ≡ Some held → r ≡ Ok tt → r' ≡ Ok tt → of.contents s.0.now ≡ of.contents s'.0.now
print_answer_once w laws of d κs a r r' s s' one two held known ended ended' = printed_once r r' tt tt _ _ _ _ held known ended ended' one two

pub print_row_once : (w : RattleType) (laws : _) (of : Ghosts w.Denot) (d : _) (κs : Lfts 3) (a : _) (r r' : _) (s s' : _)
    → print_row.Learnt w laws of d κs a r s → print_row.Learnt w laws of d κs a r' s' → (held : List ℕ) → of.contents a.0.now ≡ Some held → r ≡ Ok tt → r' ≡ Ok tt → of.contents s.0.now ≡ of.contents s'.0.now
print_row_once w laws of d κs a r r' s s' one two held known ended ended' = printed_once r r' tt tt _ _ _ _ held known ended ended' one two

pub print_reading_once : (w : RattleType) (laws : _) (of : Ghosts w.Denot) (d : _) (κs : Lfts 3) (a : _) (r r' : _) (s s' : _)
    → print_reading.Learnt w laws of d κs a r s → print_reading.Learnt w laws of d κs a r' s' → (held : List ℕ) → of.contents a.0.now ≡ Some held → r ≡ Ok tt → r' ≡ Ok tt → of.contents s.0.now ≡ of.contents s'.0.now
print_reading_once w laws of d κs a r r' s s' one two held known ended ended' = printed_once r r' tt tt _ _ _ _ held known ended ended' one two

-- where both calls came to their end, and the bytes that were left are known: the count, the bytes read, and the bytes left
pub read_full_once : (w : RattleType) (laws : _) (of : Reader w.Denot) (d : _) (κs : Lfts 3) (a : _) (r r' : _) (s s' : _)
    → read_full.Learnt w laws of d κs a r s → read_full.Learnt w laws of d κs a r' s' → (left : List ℕ) → of.remaining a.0.now ≡ Some left → (n n' : ℕ) → r ≡ Ok n → r' ≡ Ok n'
    → (n ≡ n') × (take n s.1.0.now ≡ take n' s'.1.0.now) × (of.remaining s.0.now ≡ of.remaining s'.0.now)
read_full_once w laws of d κs a r r' s s' one two left known n n' ended ended' =
    filled_once (length a.1.0.now) left n n' _ _ _ _ (filled r n _ _ _ _ left known ended one.0 one.1.0 one.1.1.0 one.1.1.1) (filled r' n' _ _ _ _ left known ended' two.0 two.1.0 two.1.1.0 two.1.1.1)
