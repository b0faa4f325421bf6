-- `edition_in` asks once.
use mathlib.Core.Path.{sym, ap}
use mathlib.Core.Bool.{cond}
use borrow.Author.Tests.{lt-ltb, le-ltb}
use Rattle.label.specs.declared.Edition.TheVariants.{Edition2005, Edition2025}
use Rattle.zielorad.proofs.edition_in.Goals as goal

pub returns-then-year-lt-YEAR_2025 : goal.returns-then-year-lt-YEAR_2025
returns-then-year-lt-YEAR_2025 c = sym (ap (λ t. cond t Edition2005 Edition2025) (lt-ltb c.args.year 2025 c.if-year-lt-YEAR_2025.true))

pub returns-else-year-lt-YEAR_2025 : goal.returns-else-year-lt-YEAR_2025
returns-else-year-lt-YEAR_2025 c = sym (ap (λ t. cond t Edition2005 Edition2025) (le-ltb c.args.year 2025 c.if-year-lt-YEAR_2025.false))
