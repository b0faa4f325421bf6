-- `envelopes` takes an envelope a turn. The loop's invariant: from here on the message comes to what it comes to from its header on, and its rows are noted.
use Prim.Native.Nat.{◌-◌}
use lib.ListN.{length}
use Rattle.sweeps.proofs.Going.{Going}
use Rattle.reader.proofs.quick.sweep.Sweep.envelopes.Given as goal

abbrev pub invariant-loop-at : goal.invariant-loop-at
invariant-loop-at g l = Going l.self.edition l.self.message.now l.self.wanted.from l.notes.numbers l.at l.envelopes l.notes.rows

abbrev pub decreases-loop-at : goal.decreases-loop-at
decreases-loop-at g l = length l.self.message.now - l.at
