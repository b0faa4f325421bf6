-- `end_of_06`: digits, a capital, and the run of plain bytes from there.
use Rattle.label.specs.Bytes.{plain, capital, between}
use Rattle.sweeps.proofs.ElementEnds.{behind_capital, passes_06}
use mathlib.Core.Path.{sym, ◌∙◌}
use borrow.Author.Rules.{rules}
use Rattle.reader.proofs.quick.sweep.Sweep.end_of_06.Goals as goal

pub run_end-end-requires : goal.run_end-end-requires
unfolding plain capital between
run_end-end-requires c = let args = c.args in
    let digits = c.behind_digits-capital in
    let inside = behind_capital args.self.now.message.now args.at digits.result digits.result (sym c.is_ascii_uppercase.ensures.value ∙ c.if-not-is_ascii_uppercase.false) args.self.now.framed digits.ensures.1 in
    search rules

pub returns : goal.returns
unfolding capital between
returns c =
    let args = c.args in
    let digits = c.behind_digits-capital in
    passes_06 args.self.now.message.now args.at c.run_end-end.result digits.result (sym c.is_ascii_uppercase.ensures.value ∙ c.if-not-is_ascii_uppercase.false) digits.ensures.0 digits.ensures.1 c.run_end-end.ensures c.if-end-capital.false
