-- What is found of an envelope of each shape is what reading by that shape's rule shows; and so of an envelope, by its indicator.
use Rattle.std.specs.Prelude.{Some, None}
use Prim.Native.Nat.{ℕ, ◌+◌, ◌≤◌}
use mathlib.Core.Path.{◌≡◌, refl, sym, ap, ◌∙◌}
use mathlib.Core.Bool.{Bool, true, false}
use native.Mathlib.Omega.{arith}
use lib.ListN.{length, drop}
use lib.Seq.{drop-drop}
use Rattle.label.specs.declared.Edition.{Edition}
use Rattle.label.specs.declared.Reason.TheVariants.{NoIndicator}
use Rattle.label.specs.Bytes.{Bytes}
use Rattle.label.specs.Elements.{element05, element06, element12}
use Rattle.label.specs.Segments.{tag, tag03}
use Rattle.label.specs.Formats.{rule_of}
use Rattle.label.specs.ReadEnvelope.{read_by, read_envelope}
use Rattle.formats.specs.declared.Shape.{Shape}
use Rattle.formats.specs.declared.Shape.TheVariants.{Fields, Rest, Segments03, Segments04, Elements05, Elements06, Text, Counted, Elements12, CountOnly, Unknown}
use Rattle.formats.specs.Shapes.{rule_for}
use Rattle.pieces.specs.declared.Kind.TheVariants as kind
use Rattle.envelope.specs.Judged.{no_envelope}
use Rattle.envelope.specs.Shown.{shown}
use Rattle.envelope.specs.Headers.{if_below, no_indicator, indicator_of}
use Rattle.envelope.specs.Shapes.{shape_found}
use Rattle.envelope.proofs.HeaderLaws.{not_below, is_below, indicator_limit, indicator_inside, read_none, read_some}
use Rattle.envelope.proofs.FormatLaws.{shown_transport, shown_rest, shown_segments, shown_elements, shown_text, shown_counted, shown_count_only}

pub shape_shown : (s : Shape) (first : Bool) (f : ℕ) (m : Bytes) (at : ℕ) → at ≤ length m → shown m (read_by (rule_for s) first f (drop at m)) ≡ shape_found s first m at
unfolding read_by
shape_shown Fields true f m at inside = shown_transport f m at inside
shape_shown Fields false f m at inside = refl
shape_shown Rest true f m at inside = shown_rest f m at
shape_shown Rest false f m at inside = refl
shape_shown Segments03 first f m at inside = shown_segments kind.Segments03 tag03 f m at inside refl (λ body kept. kept) (λ body. refl)
shape_shown Segments04 first f m at inside = shown_segments kind.Segments04 tag f m at inside refl (λ body kept. kept) (λ body. refl)
shape_shown Elements05 first f m at inside = shown_elements kind.Elements05 element05 f m at inside refl (λ body. refl)
shape_shown Elements06 first f m at inside = shown_elements kind.Elements06 element06 f m at inside refl (λ body. refl)
shape_shown Text first f m at inside = shown_text f m at inside
shape_shown Counted first f m at inside = shown_counted f m at inside
shape_shown Elements12 first f m at inside = shown_elements kind.Elements12 element12 f m at inside refl (λ body. refl)
shape_shown CountOnly first f m at inside = shown_count_only f m at inside
shape_shown Unknown first f m at inside = refl

-- By the indicator

pub envelope_none : (edition : Edition) (first : Bool) (m : Bytes) (at : ℕ) → None ≡ if_below no_indicator (indicator_of (drop at m)) → shown m (read_envelope edition first (drop at m)) ≡ no_envelope NoIndicator
envelope_none edition first m at none =
    let limit = indicator_limit (drop at m) in
    let past = not_below no_indicator (indicator_of (drop at m)) none in
    ap (shown m) (read_none edition first (drop at m) (omega arith))

pub indicator_fits : (m : Bytes) (at f : ℕ) → Some f ≡ if_below no_indicator (indicator_of (drop at m)) → at + 2 ≤ length m
indicator_fits m at f some = indicator_inside m at (is_below no_indicator (indicator_of (drop at m)) f some).1

pub envelope_some : (edition : Edition) (first : Bool) (m : Bytes) (at f : ℕ) (s : Shape) → Some f ≡ if_below no_indicator (indicator_of (drop at m)) → rule_for s ≡ rule_of edition f
    → shown m (read_envelope edition first (drop at m)) ≡ shape_found s first m (at + 2)
envelope_some edition first m at f s some rule =
    let there = is_below no_indicator (indicator_of (drop at m)) f some in
    ap (shown m) (read_some edition first f (drop at m) there.0 (omega (arith, there.0, there.1)) ∙ (λ i. read_by (sym rule i) first f (drop-drop 2 at m i)))
    ∙ shape_shown s first f m (at + 2) (indicator_fits m at f some)

pub ruleset envelope_steps = (envelope_none, indicator_fits, envelope_some)
