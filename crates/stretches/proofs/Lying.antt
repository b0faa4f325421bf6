-- Where a row's part lies: where the walk's cursor stands after as many steps as the row's number, and at the empty start where there is no such row.
use Prim.Native.Nat.{ℕ, zero, suc, ◌+◌, ◌≤◌, ◌<◌, min}
use mathlib.Core.Path.{◌≡◌, refl, sym, ap, ◌∙◌}
use mathlib.Core.List.{List, [], ◌∷◌}
use native.Mathlib.Omega.{arith}
use lib.ListN.{length, drop}
use Rattle.std.proofs.lemmas.List.{drop_all}
use Rattle.label.specs.declared.Stretch.{Stretch}
use Rattle.label.specs.declared.Edition.{Edition}
use Rattle.label.specs.Bytes.{Bytes}
use Rattle.label.specs.Limits.{longest}
use Rattle.label.specs.Layout.{Row}
use Rattle.label.specs.ReadMessage.{reading}
use Rattle.label.specs.Answer.{rows_read}
use Rattle.label.specs.Part.{stretch_at, part_of}
use Rattle.walk.specs.declared.Cursor.{Cursor}
use Rattle.stretches.specs.Stretches.{Lies}
use Rattle.walk.proofs.Walks.{Yields}
use Rattle.walk.proofs.Standing.{rows_here, holds_here}
use Rattle.walk.proofs.Promises.{walked}

-- a row's stretch is the first of the rows from its number on
stretch_first : (rows : List Row) (i : ℕ) → stretch_at rows i ≡ stretch_at (drop i rows) 0
stretch_first rows zero = refl
stretch_first [] (suc i) = refl
stretch_first (r ∷ rows) (suc i) = stretch_first rows i

module _ (edition : Edition) (m : Bytes) where
  abbrev all : List Row
  all = rows_read (reading edition m)

  lies_by : (i start long : ℕ) → stretch_at (drop i all) 0 ≡ record { start = start; length = long } → start + long ≤ length m → Lies edition m i start long
  unfolding part_of
  lies_by i start long is inside =
      let there = stretch_first all i ∙ is in
      record { from = sym (ap (λ (s : Stretch). s.start) there); measures = sym (ap (λ (s : Stretch). s.length) there); inside = inside }

  pub lies_here : (c : Cursor) (i : ℕ) → Yields m c (drop i all) → i < length all → Lies edition m i c.start c.length
  lies_here c i yields more =
      let held = holds_here m all c i yields more (λ (r : Row). r.start + r.length ≤ min longest (length m)) (walked edition m).inside in
      lies_by i c.start c.length (ap (λ rows. stretch_at rows 0) (rows_here m all c i yields more)) (omega arith)

  -- no such row
  pub lies_nowhere : (i : ℕ) → length all ≤ i → Lies edition m i 0 0
  lies_nowhere i past = lies_by i 0 0 (ap (λ rows. stretch_at rows 0) (drop_all i all past)) (omega arith)
