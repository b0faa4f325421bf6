-- `hand_over` compares the numbers of the rows noted with the table's length, and goes by the number of envelopes.
use Prim.Native.Nat.{◌/◌}
use mathlib.Core.Path.{◌≡◌, sym, ap, ◌∙◌}
use mathlib.Core.Bool.{true, false, ◌&&◌}
use native.Mathlib.Omega.{arith}
use borrow.Author.Tests.{lt-ltb, le-ltb}
use lib.ListN.{length}
use lib.Dec.{ltb}
use Rattle.std.specs.Cmp.Derive.{both_true}
use Rattle.std.proofs.lemmas.Bool.{and_right, cond-true, cond-false}
use Rattle.label.specs.Limits.{most_rows}
use Rattle.label.specs.Layout.{all_numbers}
use Rattle.label.specs.Answer.{accepted, room_of, overlaid}
use Rattle.label.specs.Counting.{kinds_of, by_counting}
use Rattle.noted.specs.Noted.{note_width, rows_noted, rows_by, too_many}
use Rattle.noted.proofs.Copying.{noted_long, noted_by_fours, zeros_of}
use Rattle.noted.proofs.hand_over.Goals as goal

pub returns-then-table-rows : goal.returns-then-table-rows
returns-then-table-rows c = let args = c.args in
    let n = length (rows_noted args.notes.now) in
    let short = lt-ltb (room_of args.table.now) n (omega (arith, noted_long args.notes.now, c.as_chunks.ensures.front_len, c.if-table-rows.true)) in
    record { answer = sym (cond-true _ _ _ short); rows = sym (cond-true _ _ _ short) }

pub returns-then-envelopes-lt2 : goal.returns-then-envelopes-lt2
returns-then-envelopes-lt2 c = let args = c.args in
    let ns = args.notes.now in
    let rs = rows_noted ns in
    let same : rows_by c.as_chunks.result.0.now ≡ rs = ap rows_by c.as_chunks.ensures.front ∙ noted_by_fours (length ns / note_width) ns (omega arith) (omega arith) in
    let long : length c.as_chunks.result.0.now ≡ length rs = c.as_chunks.ensures.front_len ∙ sym (noted_long ns) in
    let enough = le-ltb (room_of args.table.now) (length rs) (omega (arith, long, c.if-table-rows.false)) in
    let alone = le-ltb 1 args.envelopes (omega (arith, c.if-envelopes-lt2.true)) in
    let few : too_many args.envelopes rs ≡ false = ap (λ t. t && ltb most_rows (length rs)) alone in
    record {
      answer = ap (accepted args.envelopes) long ∙ sym (cond-false _ _ _ enough ∙ cond-false _ _ _ few);
      rows = c.copy_alone.ensures ∙ ap (λ rs. overlaid (all_numbers rs (zeros_of rs)) args.table.now) same ∙ ap (λ os. overlaid (all_numbers rs os) args.table.now) (sym (cond-false _ _ _ alone)) ∙ sym (cond-false _ _ _ enough ∙ cond-false _ _ _ few);
    }

pub returns-then-rows-gt-MOST_ROWS : goal.returns-then-rows-gt-MOST_ROWS
returns-then-rows-gt-MOST_ROWS c = let args = c.args in
    let rs = rows_noted args.notes.now in
    let long : length c.as_chunks.result.0.now ≡ length rs = c.as_chunks.ensures.front_len ∙ sym (noted_long args.notes.now) in
    let enough = le-ltb (room_of args.table.now) (length rs) (omega (arith, long, c.if-table-rows.false)) in
    let several = lt-ltb 1 args.envelopes (omega (arith, c.if-envelopes-lt2.false)) in
    let many : too_many args.envelopes rs ≡ true = both_true several (lt-ltb most_rows (length rs) (omega (arith, long, c.if-rows-gt-MOST_ROWS.true))) in
    record { answer = sym (cond-false _ _ _ enough ∙ cond-true _ _ _ many); rows = sym (cond-false _ _ _ enough ∙ cond-true _ _ _ many) }

pub returns : goal.returns
returns c = let args = c.args in
    let ns = args.notes.now in
    let rs = rows_noted ns in
    let same : rows_by c.as_chunks.result.0.now ≡ rs = ap rows_by c.as_chunks.ensures.front ∙ noted_by_fours (length ns / note_width) ns (omega arith) (omega arith) in
    let long : length c.as_chunks.result.0.now ≡ length rs = c.as_chunks.ensures.front_len ∙ sym (noted_long ns) in
    let enough = le-ltb (room_of args.table.now) (length rs) (omega (arith, long, c.if-table-rows.false)) in
    let several = lt-ltb 1 args.envelopes (omega (arith, c.if-envelopes-lt2.false)) in
    let few : too_many args.envelopes rs ≡ false = and_right (ltb 1 args.envelopes) _ (le-ltb most_rows (length rs) (omega (arith, long, c.if-rows-gt-MOST_ROWS.false))) in
    record {
      answer = ap (accepted args.envelopes) long ∙ sym (cond-false _ _ _ enough ∙ cond-false _ _ _ few);
      rows = c.copy_several.ensures ∙ ap (λ rs. overlaid (all_numbers rs (by_counting (kinds_of rs))) args.table.now) same ∙ ap (λ os. overlaid (all_numbers rs os) args.table.now) (sym (cond-true _ _ _ several)) ∙ sym (cond-false _ _ _ enough ∙ cond-false _ _ _ few);
    }
