-- `cursor_at` goes as many steps as the row's number. The loop's invariant: after so many steps the cursor yields the rows from that number on.
use lib.ListN.{drop}
use Rattle.label.specs.declared.Edition.{Edition}
use Rattle.label.specs.ReadMessage.{reading}
use Rattle.label.specs.Answer.{rows_read}
use Rattle.stretches.specs.Stretches.{HasRow}
use Rattle.walk.proofs.Walks.{Yields}
use Rattle.stretches.proofs.cursor_at.Given as goal

abbrev pub invariant-loop-step : goal.invariant-loop-step
invariant-loop-step l = (edition : Edition) → HasRow edition l.m l.row → Yields l.m l.c (drop l._step (rows_read (reading edition l.m)))
