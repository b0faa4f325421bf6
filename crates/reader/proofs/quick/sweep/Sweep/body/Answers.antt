use Rattle.sweeps.proofs.SegmentTurns.{segmenting_on, segmenting_last}
use Rattle.reader.proofs.quick.sweep.Sweep.body.Goals as goal

pub returns-then-self-at-eq-RS : goal.returns-then-self-at-eq-RS
returns-then-self-at-eq-RS g c = let args = c.args in
    let s = args.self.now in
    let at = c.loop-at in
    let new = c.segment.new.notes in
    segmenting_last s.message.now c.requires.framed s.wanted.from args.f args.start args.notes.now.rows at.notes.numbers new.numbers at.at at.notes.rows at.invariant
    (record { next = c.in_ok-at.at; rows = new.rows }) c.in_ok-at.ensures c.if-self-at-eq-RS.true

pub loop-at-preserved : goal.loop-at-preserved
loop-at-preserved g c = let args = c.args in
    let s = args.self.now in
    let at = c.loop-at in
    let new = c.segment.new.notes in
    segmenting_on s.message.now c.requires.framed s.wanted.from args.f args.start args.notes.now.rows at.notes.numbers new.numbers at.at at.notes.rows at.invariant
    (record { next = c.in_ok-at.at; rows = new.rows }) c.in_ok-at.ensures c.if-self-at-eq-RS.false
