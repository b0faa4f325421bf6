-- The table against the list of formats: a shape is told by its rule, since a sample tells the tests of elements and of tags apart, and tells its number.
use Prim.Native.Nat.{ℕ}
use mathlib.Core.Path.{◌≡◌, refl, sym, ap, ◌∙◌}
use mathlib.Core.Bool.{Bool, true, false, cond, false≢true}
use mathlib.Core.List.{List, [], ◌∷◌}
use borrow.Author.Tests.{eqb-true}
use lib.Dec.{eqb}
use Rattle.label.specs.declared.Edition.{Edition}
use Rattle.label.specs.declared.Edition.TheVariants.{Edition2005, Edition2025}
use Rattle.label.specs.Bytes.{ascii}
use Rattle.label.specs.Formats.{Format, formats, Rule, as_fields, as_rest, as_segments, as_elements, as_text, as_counted, unknown, rule_in, rule_of}
use Rattle.label.specs.Message.{Each}
use Rattle.label.proofs.AllDefinitions.{all_definitions}
use Rattle.label.proofs.Editions.{is_known}
use Rattle.formats.specs.declared.Shape.{Shape}
use Rattle.formats.specs.declared.Shape.TheVariants.{Fields, Rest, Segments03, Segments04, Elements05, Elements06, Elements12, Text, Counted, CountOnly, Unknown}
use Rattle.formats.specs.Shapes.{rule_for}

-- the shape that a rule is of
abbrev shape_back : Rule → Shape
shape_back as_fields = Fields
shape_back (as_rest permitted) = Rest
shape_back (as_segments is_tag) = cond (is_tag (ascii "BIN")) Segments04 Segments03
shape_back (as_elements is_element) = cond (is_element (ascii "00A")) Elements05 (cond (is_element (ascii "AAAA")) Elements06 Elements12)
shape_back (as_text permitted) = Text
shape_back (as_counted []) = CountOnly
shape_back (as_counted (l ∷ ls)) = Counted
shape_back unknown = Unknown

back : (s : Shape) → shape_back (rule_for s) ≡ s
unfolding all_definitions
back Fields = refl
back Rest = refl
back Segments03 = refl
back Segments04 = refl
back Elements05 = refl
back Elements06 = refl
back Elements12 = refl
back Text = refl
back Counted = refl
back CountOnly = refl
back Unknown = refl

pub one_shape : (s s' : Shape) → rule_for s ≡ rule_for s' → s ≡ s'
one_shape s s' same = sym (back s) ∙ ap shape_back same ∙ back s'

-- each shape but the unknown one is of one number
abbrev pub number_for : Shape → ℕ
number_for Fields = 1
number_for Rest = 2
number_for Segments03 = 3
number_for Segments04 = 4
number_for Elements05 = 5
number_for Elements06 = 6
number_for Elements12 = 12
number_for Text = 7
number_for Counted = 9
number_for CountOnly = 15
number_for Unknown = 0

Numbered : Format → Type 0
Numbered f = f.number ≡ number_for (shape_back f.rule)

each_numbered : (edition : Edition) → Each Numbered (formats edition)
unfolding Numbered all_definitions
each_numbered Edition2005 = (refl, (refl, (refl, (refl, (refl, (refl, (refl, (refl, tt))))))))
each_numbered Edition2025 = (refl, (refl, (refl, (refl, (refl, (refl, (refl, (refl, (refl, (refl, tt))))))))))

number_in : (n : ℕ) (fs : List Format) → Each Numbered fs → is_known (rule_in n fs) ≡ true → n ≡ number_for (shape_back (rule_in n fs))
unfolding Numbered
number_in n [] hs known = absurd (false≢true known)
number_in n (f ∷ fs) hs known = by (eqb n f.number) refl (number_in n fs hs.1) known
  where
    by : (t : Bool) → eqb n f.number ≡ t → (is_known (rule_in n fs) ≡ true → n ≡ number_for (shape_back (rule_in n fs))) → is_known (cond t f.rule (rule_in n fs)) ≡ true
        → n ≡ number_for (shape_back (cond t f.rule (rule_in n fs)))
    by true is later known = eqb-true n f.number is ∙ hs.0
    by false is later known = later known

pub number_of : (edition : Edition) (n : ℕ) (s : Shape) → rule_for s ≡ rule_of edition n → is_known (rule_for s) ≡ true → n ≡ number_for s
unfolding rule_of
number_of edition n s rule known = number_in n (formats edition) (each_numbered edition) (ap is_known (sym rule) ∙ known) ∙ ap (λ r. number_for (shape_back r)) (sym rule) ∙ ap number_for (back s)
