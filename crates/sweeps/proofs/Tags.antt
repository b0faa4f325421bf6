-- A tag that is taken from a message: the plain bytes from an offset on, whole, as no GS stands among them.
use Prim.Native.Nat.{ℕ}
use mathlib.Core.Path.{◌≡◌, sym, ap, ◌∙◌}
use mathlib.Core.Bool.{true, false, not, ◌&&◌}
use mathlib.Core.List.{[], append-nil}
use native.Mathlib.Omega.{arith}
use lib.ListN.{get_or, take}
use lib.Dec.{eqb}
use Rattle.label.specs.Bytes.{Bytes, FS, GS, plain, every}
use Rattle.label.specs.Segments.{tag03}
use Rattle.leaves.specs.Seek.{seek}
use Rattle.leaves.proofs.Turns.{seek_behind}
use Rattle.pieces.specs.declared.Kind.TheVariants.{Segments03}
use Rattle.pieces.specs.PieceTests.{piece_test}
use Rattle.pieces.proofs.SeekLaws.{seek_absent}
use Rattle.sweeps.specs.Quick.{PassesTo}
use Rattle.sweeps.specs.Segments.{TagTo}
use Rattle.sweeps.proofs.PieceTurns.{no_gs, piece, piece_plain}

whole : (p : Bytes) → every plain p ≡ true → take (seek GS p) p ≡ p
whole p ok = seek_absent GS p (omega (arith, ap (seek GS) (sym (append-nil p)), seek_behind GS p [] (no_gs p ok)))

pub tag_to : (m : Bytes) (at end : ℕ) → PassesTo (piece_test Segments03 0) m at end → (not (eqb (get_or m end 0) GS) && not (eqb (get_or m end 0) FS)) ≡ false → TagTo m at end
tag_to m at end to behind = record {
  runs = to.runs;
  passes = ap tag03 (sym (whole (piece m at end to.runs) (piece_plain m at end to.runs))) ∙ to.passes;
  ends = behind;
}
