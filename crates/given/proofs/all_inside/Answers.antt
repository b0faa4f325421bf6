-- `all_inside` asks of each five numbers in turn.
use Rattle.std.proofs.Common.{ℕ, zero, suc, ◌+◌, ◌*◌, ◌/◌, ◌<◌, ◌≤◌, ◌≡◌, ◌∙◌, sym, ap, ◌&&◌, List, length, take, drop, arith, rules}
use Rattle.std.specs.Simd.{first_chunks}
use Rattle.std.specs.List.{list_all}
use Rattle.std.proofs.lemmas.Iterator.{YieldsList-from_slice}
use Rattle.std.proofs.lemmas.Iterator.Search.{all_from_yields_List}
use borrow.Author.Tests.{tests}
use lib.ListN.{length-take, length-drop, take-append-drop}
use Rattle.label.specs.Bytes.{Bytes, every}
use Rattle.label.specs.Limits.{row_width}
use Rattle.label.specs.Counting.{row_from}
use Rattle.label.specs.Writing.{rows_in, inside}
use Rattle.given.proofs.GivenLaws.{rows_cut, no_row_left}
use Rattle.given.proofs.all_inside.Goals as goal

-- five numbers after five others are the rows
by_fives : (held : Bytes) (k : ℕ) (ns : List ℕ) → k * row_width ≤ length ns → length ns < k * row_width + row_width
    → list_all (λ x. inside held (row_from x 0)) (first_chunks row_width k ns) ≡ every (inside held) (rows_in ns)
by_fives held zero ns room short = sym (ap (every (inside held)) (no_row_left ns (omega arith)))
by_fives held (suc k) ns room short =
    let x = take row_width ns in
    let rest = drop row_width ns in
    ap (λ t. inside held (row_from x 0) && t) (by_fives held k rest (omega (arith, length-drop row_width ns)) (omega (arith, length-drop row_width ns)))
    ∙ sym (ap (every (inside held)) (ap rows_in (sym (take-append-drop row_width ns)) ∙ rows_cut x rest (omega (arith, length-take row_width ns))))

pub returns : goal.returns
unfolding inside
returns c =
    let held = c.args.held.now in
    let ns = c.args.rows.now in
    all_from_yields_List (λ x. inside held (row_from x 0)) _ _ c.all.result c.all.ensures.ran (YieldsList-from_slice (first_chunks row_width (length ns / row_width) ns) (c.iter.ensures.rest ∙ c.as_chunks.ensures.front)) (λ x b q k. search (rules, tests))
    ∙ by_fives held (length ns / row_width) ns (omega arith) (omega arith)
