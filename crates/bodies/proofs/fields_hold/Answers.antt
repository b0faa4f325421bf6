-- `fields_hold` makes the tests of `fields_of`, which together are `transport`. Its most fields are those of the version, however it comes by them.
use Rattle.std.proofs.Common.{ℕ, ◌≡◌, ◌∙◌, Bool, not, ◌&&◌, ◌||◌, leb, ltb, eqb, arith}
use Rattle.std.proofs.lemmas.Bool.Decides.{nat_tests}
use Rattle.label.specs.Bytes.{Bytes, GS}
use Rattle.label.specs.Pieces.{pieces, last_is_empty}
use Rattle.label.specs.Fields.{field, transport, most_fields}
use Rattle.label.specs.declared.Version.{Version}
use Rattle.leaves.specs.Seek.{tally_of}
use Rattle.bodies.specs.Kinds.{every_from}
use Rattle.bodies.proofs.RuleLaws.{fields_law}
use Rattle.bodies.proofs.fields_hold.Goals as goal

kept : (v : Version) (body : Bytes) (n most : ℕ) (all ends : Bool) → n ≡ tally_of GS body → most ≡ most_fields v → all ≡ every_from (field v) 0 (pieces GS body) → ends ≡ last_is_empty (pieces GS body)
    → (leb 4 n && ltb n most && all && (eqb n 4 || not ends)) ≡ transport v (pieces GS body)
kept v body n most all ends counted limit held ended =
    (λ i. leb 4 (counted i) && ltb (counted i) (limit i) && held i && (eqb (counted i) 4 || not (ended i))) ∙ fields_law v body

pub returns : goal.returns
returns c =
    kept c.args.version c.args.body.now c.tally-gs.result _ c.pieces_hold-all.result c.last_empty-ends.result c.tally-gs.ensures (grind (arith, nat_tests)) c.pieces_hold-all.ensures c.last_empty-ends.ensures
