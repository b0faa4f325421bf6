-- `segments_hold` makes the tests of `segments_of` by one pattern: there is a last byte, it is FS, and the pieces in front of it hold.
use Rattle.std.proofs.Common.{◌≡◌, ◌∙◌, ◌-◌, sym, not, ◌&&◌, true, false, eqb, length, take, get_or, arith}
use borrow.Author.Tests.{eq-eqb, ne_eqb}
use Rattle.label.specs.Bytes.{FS}
use Rattle.label.specs.Pieces.{pieces, last_is_empty}
use Rattle.pieces.specs.PieceTests.{piece_test}
use Rattle.bodies.specs.Kinds.{separator_of, every_from}
use Rattle.bodies.proofs.PieceLaws.{last_is}
use Rattle.bodies.proofs.segments_hold.Goals as goal

pub returns-in-28 : goal.returns-in-28
returns-in-28 c =
    let body = c.args.body.now in
    let k = c.args.k in
    let some : eqb (length body) 0 ≡ false = ne_eqb (length body) 0 (λ none. omega arith) in
    let ended : get_or body (length body - 1) 0 ≡ FS = omega arith in
    let ends : last_is_empty (pieces FS body) ≡ true = sym (last_is FS body (λ none. omega arith)) ∙ eq-eqb _ FS ended in
    c.pieces_hold.ensures
    ∙ sym (λ i. not (some i) && ends i && every_from (piece_test k) 0 (pieces (separator_of k) (take (length body - 1) body)))

pub returns-in_default-2 : goal.returns-in_default-2
returns-in_default-2 c =
    let body = c.args.body.now in
    let k = c.args.k in
    let some : eqb (length body) 0 ≡ false = ne_eqb (length body) 0 (λ none. omega arith) in
    let other : last_is_empty (pieces FS body) ≡ false = sym (last_is FS body (λ none. omega arith)) ∙ ne_eqb _ FS (λ is. omega arith) in
    sym (λ i. not (some i) && other i && every_from (piece_test k) 0 (pieces (separator_of k) (take (length body - 1) body)))
