use Prim.Native.Nat.{ℕ}
use mathlib.Core.Path.{sym, subst}
use borrow.Author.Rules.{rules}
use Rattle.sweeps.proofs.Going.{Going, going_first, going_on, further_on, ended_so}
use Rattle.reader.proofs.quick.sweep.Sweep.envelopes.Goals as goal

pub loop-at-init : goal.loop-at-init
loop-at-init g c = let args = c.args in
    let s = args.self.now in
    let numbers = args.notes.now.numbers in
    subst (λ (n : ℕ). Going s.edition s.message.now s.wanted.from numbers 4 0 n) (sym c.requires.0.1) (going_first s.edition s.message.now s.wanted.from numbers c.requires.1)

pub returns-then-m-at-eq-EOT : goal.returns-then-m-at-eq-EOT
returns-then-m-at-eq-EOT g c = let args = c.args in
    let s = args.self.now in
    let at = c.loop-at in
    let new = c.envelope.new.notes in
    ended_so s.edition s.message.now s.wanted.from at.notes.numbers at.at at.envelopes at.notes.rows at.invariant (record { next = c.in_ok-at.at; rows = new.rows }) new.numbers c.in_ok-at.ensures
    c.if-m-at-eq-EOT.true s.wanted.most c.requires.0.0 c.ended.result c.ended.ensures

pub loop-at-smaller : goal.loop-at-smaller
loop-at-smaller g c = let args = c.args in
    let s = args.self.now in
    let at = c.loop-at in
    let new = c.envelope.new.notes in
    let swept = c.in_ok-at.ensures in
    let later =
    further_on s.edition s.message.now s.wanted.from at.notes.numbers at.at at.envelopes at.notes.rows at.invariant (record { next = c.in_ok-at.at; rows = new.rows }) new.numbers swept c.if-m-at-eq-EOT.false in
    let inside = swept.inside in
    search rules

pub loop-at-preserved : goal.loop-at-preserved
loop-at-preserved g c = let args = c.args in
    let s = args.self.now in
    let at = c.loop-at in
    let new = c.envelope.new.notes in
    going_on s.edition s.message.now s.wanted.from at.notes.numbers at.at at.envelopes at.notes.rows at.invariant (record { next = c.in_ok-at.at; rows = new.rows }) new.numbers c.in_ok-at.ensures c.if-m-at-eq-EOT.false
