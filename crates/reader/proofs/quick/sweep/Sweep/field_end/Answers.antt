-- `field_end`: what `pieces` says of a field, or its length alone.
use Prim.Native.Nat.{◌-◌}
use mathlib.Core.Path.{sym, ◌∙◌}
use borrow.Author.Rules.{rules}
use Rattle.label.specs.Bytes.{plain, between}
use Rattle.sweeps.proofs.PieceTurns.{piece, piece_plain, piece_long}
use Rattle.sweeps.proofs.FieldSizes.{field_sized}
use Rattle.reader.proofs.quick.sweep.Sweep.field_end.Goals as goal

pub run_end-end-requires : goal.run_end-end-requires
unfolding plain between
run_end-end-requires c = search rules

pub overflow_sub-end : goal.overflow_sub-end
overflow_sub-end c = let runs = c.run_end-end.ensures.runs in
    search rules

pub returns-then-in_limits : goal.returns-then-in_limits
returns-then-in_limits c = let args = c.args in
    let end = c.run_end-end in
    let p = piece args.self.now.message.now args.at end.result end.ensures in
    record {
      runs = end.ensures;
      passes = field_sized args.i c.if-i.false p (piece_plain args.self.now.message.now args.at end.result end.ensures) args.version (end.result - args.at)
          (piece_long args.self.now.message.now args.at end.result end.ensures) (sym c.in_limits.ensures ∙ c.if-in_limits.true);
    }
