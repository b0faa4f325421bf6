-- `piece_end`: the run of plain bytes, and what `pieces` says of them.
use mathlib.Core.Path.{sym, ◌∙◌}
use borrow.Author.Rules.{rules}
use Rattle.label.specs.Bytes.{plain, between}
use Rattle.reader.proofs.quick.sweep.Sweep.piece_end.Goals as goal

pub run_end-end-requires : goal.run_end-end-requires
unfolding plain between
run_end-end-requires c = search rules

pub slice_bounds-piece_holds-start : goal.slice_bounds-piece_holds-start
slice_bounds-piece_holds-start c = let runs = c.run_end-end.ensures.runs in
    search rules

pub slice_bounds-piece_holds-end : goal.slice_bounds-piece_holds-end
slice_bounds-piece_holds-end c = let inside = c.run_end-end.ensures.inside in
    search rules

pub returns-then-piece_holds : goal.returns-then-piece_holds
returns-then-piece_holds c = record { runs = c.run_end-end.ensures; passes = sym c.piece_holds.ensures ∙ c.if-piece_holds.true }
