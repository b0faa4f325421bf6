-- `format` is an arm for each shape that is swept; the shape tells the number.
use mathlib.Core.Path.{refl}
use native.Mathlib.Omega.{arith}
use borrow.Author.Rules.{rules}
use Rattle.sweeps.proofs.EnvelopeSweeps.{shape_due, shape_swept}
use Rattle.reader.proofs.quick.sweep.Sweep.format.Goals as goal

pub transport-requires : goal.transport-requires
transport-requires g c = let a = c.args in
    let s = a.self.now in
    (search rules, shape_due s.edition s.message.now s.wanted a.at a.notes.now.rows a.f c.in-Fields.is refl c.shape_in-shape.ensures a.notes.now.numbers c.requires)

pub segments-requires : goal.segments-requires
segments-requires g c = let a = c.args in
    let s = a.self.now in
    (search rules, ((omega arith, omega arith), shape_due s.edition s.message.now s.wanted a.at a.notes.now.rows a.f c.in-Segments03.is refl c.shape_in-shape.ensures a.notes.now.numbers c.requires))

pub segments-requires-in-Segments04 : goal.segments-requires-in-Segments04
segments-requires-in-Segments04 g c = let a = c.args in
    let s = a.self.now in
    (search rules, ((omega arith, omega arith), shape_due s.edition s.message.now s.wanted a.at a.notes.now.rows a.f c.in-Segments04.is refl c.shape_in-shape.ensures a.notes.now.numbers c.requires))

pub elements-requires : goal.elements-requires
elements-requires g c = let a = c.args in
    let s = a.self.now in
    (search rules, (refl, shape_due s.edition s.message.now s.wanted a.at a.notes.now.rows a.f c.in-Elements05.is refl c.shape_in-shape.ensures a.notes.now.numbers c.requires))

pub elements-requires-in-Elements06 : goal.elements-requires-in-Elements06
elements-requires-in-Elements06 g c = let a = c.args in
    let s = a.self.now in
    (search rules, (refl, shape_due s.edition s.message.now s.wanted a.at a.notes.now.rows a.f c.in-Elements06.is refl c.shape_in-shape.ensures a.notes.now.numbers c.requires))

pub text-requires : goal.text-requires
text-requires g c = let a = c.args in
    let s = a.self.now in
    (search rules, shape_due s.edition s.message.now s.wanted a.at a.notes.now.rows a.f c.in-Text.is refl c.shape_in-shape.ensures a.notes.now.numbers c.requires)

pub counted-requires : goal.counted-requires
counted-requires g c = let a = c.args in
    let s = a.self.now in
    (search rules, shape_due s.edition s.message.now s.wanted a.at a.notes.now.rows a.f c.in-Counted.is refl c.shape_in-shape.ensures a.notes.now.numbers c.requires)

pub elements-requires-in-Elements12 : goal.elements-requires-in-Elements12
elements-requires-in-Elements12 g c = let a = c.args in
    let s = a.self.now in
    (search rules, (refl, shape_due s.edition s.message.now s.wanted a.at a.notes.now.rows a.f c.in-Elements12.is refl c.shape_in-shape.ensures a.notes.now.numbers c.requires))

pub count_only-requires : goal.count_only-requires
count_only-requires g c = let a = c.args in
    let s = a.self.now in
    (search rules, shape_due s.edition s.message.now s.wanted a.at a.notes.now.rows a.f c.in-CountOnly.is refl c.shape_in-shape.ensures a.notes.now.numbers c.requires)

pub returns-in-Fields : goal.returns-in-Fields
returns-in-Fields g c = let a = c.args in
    let s = a.self.now in
    let rest = c.transport in
    shape_swept s.edition s.message.now s.wanted a.at a.notes.now.rows a.f c.in-Fields.is refl c.shape_in-shape.ensures rest.new.notes.numbers rest.new.notes.rows rest.result rest.ensures

pub returns-in-Segments03 : goal.returns-in-Segments03
returns-in-Segments03 g c = let a = c.args in
    let s = a.self.now in
    let rest = c.segments in
    shape_swept s.edition s.message.now s.wanted a.at a.notes.now.rows a.f c.in-Segments03.is refl c.shape_in-shape.ensures rest.new.notes.numbers rest.new.notes.rows rest.result rest.ensures

pub returns-in-Segments04 : goal.returns-in-Segments04
returns-in-Segments04 g c = let a = c.args in
    let s = a.self.now in
    let rest = c.segments-in-Segments04 in
    shape_swept s.edition s.message.now s.wanted a.at a.notes.now.rows a.f c.in-Segments04.is refl c.shape_in-shape.ensures rest.new.notes.numbers rest.new.notes.rows rest.result rest.ensures

pub returns-in-Elements05 : goal.returns-in-Elements05
returns-in-Elements05 g c = let a = c.args in
    let s = a.self.now in
    let rest = c.elements in
    shape_swept s.edition s.message.now s.wanted a.at a.notes.now.rows a.f c.in-Elements05.is refl c.shape_in-shape.ensures rest.new.notes.numbers rest.new.notes.rows rest.result rest.ensures

pub returns-in-Elements06 : goal.returns-in-Elements06
returns-in-Elements06 g c = let a = c.args in
    let s = a.self.now in
    let rest = c.elements-in-Elements06 in
    shape_swept s.edition s.message.now s.wanted a.at a.notes.now.rows a.f c.in-Elements06.is refl c.shape_in-shape.ensures rest.new.notes.numbers rest.new.notes.rows rest.result rest.ensures

pub returns-in-Text : goal.returns-in-Text
returns-in-Text g c = let a = c.args in
    let s = a.self.now in
    let rest = c.text in
    shape_swept s.edition s.message.now s.wanted a.at a.notes.now.rows a.f c.in-Text.is refl c.shape_in-shape.ensures rest.new.notes.numbers rest.new.notes.rows rest.result rest.ensures

pub returns-in-Counted : goal.returns-in-Counted
returns-in-Counted g c = let a = c.args in
    let s = a.self.now in
    let rest = c.counted in
    shape_swept s.edition s.message.now s.wanted a.at a.notes.now.rows a.f c.in-Counted.is refl c.shape_in-shape.ensures rest.new.notes.numbers rest.new.notes.rows rest.result rest.ensures

pub returns-in-Elements12 : goal.returns-in-Elements12
returns-in-Elements12 g c = let a = c.args in
    let s = a.self.now in
    let rest = c.elements-in-Elements12 in
    shape_swept s.edition s.message.now s.wanted a.at a.notes.now.rows a.f c.in-Elements12.is refl c.shape_in-shape.ensures rest.new.notes.numbers rest.new.notes.rows rest.result rest.ensures

pub returns-in-CountOnly : goal.returns-in-CountOnly
returns-in-CountOnly g c = let a = c.args in
    let s = a.self.now in
    let rest = c.count_only in
    shape_swept s.edition s.message.now s.wanted a.at a.notes.now.rows a.f c.in-CountOnly.is refl c.shape_in-shape.ensures rest.new.notes.numbers rest.new.notes.rows rest.result rest.ensures
