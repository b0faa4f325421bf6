-- `fill` puts each row behind the ones before it. The loop's invariant: the table holds the first i rows and then what it held, the cursor yields the rows
-- from number i on, and the ordinal is the cursor's row's.
use Rattle.label.specs.declared.Edition.{Edition}
use Rattle.label.specs.ReadMessage.{reading}
use Rattle.label.specs.Answer.{rows_read}
use Rattle.exact.specs.Tables.{RowsIn}
use Rattle.exact.proofs.Filling.{Filled}
use Rattle.exact.proofs.rows.fill.Given as goal

abbrev pub invariant-loop-i : goal.invariant-loop-i
invariant-loop-i l = (edition : Edition) → RowsIn edition l.m l.rows → Filled l.m (rows_read (reading edition l.m)) l.initial.table l.table l.c l.ordinal l.i
