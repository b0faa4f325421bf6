-- The rows before the index are printed.
use Rattle.std.specs.Io.KnownBytes.{Appends}
use Rattle.report.specs.Lines.{row_lines}
use Rattle.report.proofs.print_rows.Given as goal

abbrev pub invariant-loop-row : goal.invariant-loop-row
invariant-loop-row g l = Appends (g.W.Write.contents l.initial.out) (g.W.Write.contents l.out) (row_lines l.table l.row)
