-- From a swept body to its format, and from a format to its envelope: what is found by offsets is what reading shows, and the walk stands at the next indicator.
use Prim.Native.Nat.{ℕ, ◌+◌, ◌-◌, ◌*◌, ◌≤◌, ◌<◌}
use mathlib.Core.Path.{◌≡◌, refl, sym, ap, ◌∙◌, subst}
use mathlib.Core.Bool.{Bool, true, false, ◌&&◌, cond}
use mathlib.Core.List.{List, [], ◌∷◌}
use native.Mathlib.Omega.{arith}
use borrow.Author.Tests.{le-leb, leb-true}
use lib.ListN.{length, get_or, take, drop, length-take, length-drop}
use lib.Seq.{drop-drop, get_or-drop, get_or_at, length-take-le}
use lib.Dec.{eqb, leb}
use Rattle.std.specs.Prelude.{Some, None, Result, IfOk}
use Rattle.std.proofs.lemmas.Result.{IfOk-weaker}
use Rattle.std.proofs.lemmas.Bool.{and_parts, cond-true}
use Rattle.std.specs.Cmp.Derive.{both_true}
use Rattle.std.proofs.lemmas.List.{drop_more}
use Rattle.label.specs.declared.Reason.TheVariants.{BadFormatHeader}
use Rattle.label.specs.declared.Edition.{Edition}
use Rattle.label.specs.Bytes.{Bytes, GS, RS, between, digit, every}
use Rattle.label.specs.Values.{value}
use Rattle.label.specs.Elements.{element05, element06, element12}
use Rattle.label.specs.Formats.{widest, rule_of, text_byte}
use Rattle.label.specs.ReadEnvelope.{read_by}
use Rattle.label.specs.ReadMessage.{agreement}
use Rattle.label.proofs.Editions.{is_known, known_in_widest}
use Rattle.formats.specs.declared.Shape.{Shape}
use Rattle.formats.specs.Shapes.{rule_for}
use Rattle.formats.proofs.Table.{number_for, number_of}
use Rattle.leaves.specs.Classes.{digit_of}
use Rattle.leaves.specs.Seek.{seek}
use Rattle.pieces.specs.declared.Kind.{Kind}
use Rattle.pieces.specs.declared.Kind.TheVariants.{Fields, Segments03, Segments04, Elements05, Elements06, Text, Elements12}
use Rattle.pieces.proofs.SeekLaws.{seek_found}
use Rattle.envelope.specs.Judged.{closed_at, no_envelope}
use Rattle.envelope.specs.Shown.{shown}
use Rattle.envelope.specs.Headers.{indicator_of}
use Rattle.envelope.specs.Bodies.{body_found}
use Rattle.envelope.specs.Formats.{begins_at}
use Rattle.envelope.proofs.BodyLaws.{body_closed}
use Rattle.envelope.proofs.HeaderLaws.{drop_two, read_some}
use Rattle.envelope.proofs.FormatLaws.{shown_elements, shown_text}
use Rattle.walk.specs.declared.Stage.TheVariants.{Indicator, Piece, Body}
use Rattle.walk.specs.declared.Cursor.{Cursor}
use Rattle.sweeps.specs.declared.Unswept.{Unswept}
use Rattle.sweeps.specs.declared.Wanted.{Wanted}
use Rattle.walk.specs.Cursors.{ahead, standing, plain_row, indicator_at, opening, following, next_cursor}
use Rattle.sweeps.specs.Quick.{Passed, Framed, Noted, NotedOne, Indicates, ElementsOf, BodySwept, FormatSwept, KnownSwept, EnvelopeSwept, StandsAt}
use Rattle.sweeps.proofs.Framing.{byte_behind, digit_behind}

module _ (m : Bytes) (at : ℕ) (inside : at < length m) where
  -- one byte further
  pub one_ahead : ahead m at 1 ≡ at + 1
  one_ahead = omega (arith, length-take 1 (drop at m), length-drop at m)

  -- a GS that stands at an offset begins what follows
  begins_gs : get_or m at 0 ≡ GS → begins_at (GS ∷ []) m at ≡ true
  begins_gs is = ap (λ bs. eqb (agreement (GS ∷ []) bs) 1) (drop_more m at 0 inside ∙ ap (λ b. b ∷ drop (at + 1) m) is)

-- a format by its shape, which tells its number
module _ (edition : Edition) (m : Bytes) (w : Wanted) (at rows f : ℕ) {found s : Shape} (is : found ≡ s) (known : is_known (rule_for s) ≡ true) (by : rule_for found ≡ rule_of edition f) where
  ruled : rule_for s ≡ rule_of edition f
  ruled = sym (ap rule_for is) ∙ by

  numbered : f ≡ number_for s
  numbered = number_of edition f s ruled known

  pub shape_due : (notes : List ℕ) → StandsAt m w at rows notes (opening m f at (rule_of widest f)) → StandsAt m w at rows notes (opening m (number_for s) at (rule_of widest (number_for s)))
  shape_due notes = subst (λ (f : ℕ). StandsAt m w at rows notes (opening m f at (rule_of widest f))) numbered

  pub shape_swept : (notes : List ℕ) (last : ℕ) (r : Result ℕ Unswept) → IfOk r (λ next. FormatSwept m w.from (number_for s) at rows (record { next = next; rows = last }) notes)
      → IfOk r (λ next. KnownSwept edition m w.from f at rows (record { next = next; rows = last }) notes)
  shape_swept notes last r =
      IfOk-weaker r _ _
      (λ next swept. (
        sym ruled ∙ sym (known_in_widest edition f (rule_for s) (sym ruled) known),
        subst (λ (f : ℕ). FormatSwept m w.from f at rows (record { next = next; rows = last }) notes) (sym numbered) swept,
      ))

-- Elements

module _ (m : Bytes) (from at rows : ℕ) (inside : at < length m) (gs : get_or m at 0 ≡ GS) where
  elements_shown : (k : Kind) (f : ℕ) → ElementsOf k f → (first : Bool) → shown m (read_by (rule_of widest f) first f (drop at m)) ≡ cond (begins_at (GS ∷ []) m at) (body_found k 1 m (at + 1)) (no_envelope BadFormatHeader)
  unfolding rule_of read_by
  elements_shown Elements05 f is first = ap (λ f. shown m (read_by (rule_of widest f) first f (drop at m))) is ∙ shown_elements Elements05 element05 5 m at (omega arith) refl (λ body. refl)
  elements_shown Elements06 f is first = ap (λ f. shown m (read_by (rule_of widest f) first f (drop at m))) is ∙ shown_elements Elements06 element06 6 m at (omega arith) refl (λ body. refl)
  elements_shown Elements12 f is first = ap (λ f. shown m (read_by (rule_of widest f) first f (drop at m))) is ∙ shown_elements Elements12 element12 12 m at (omega arith) refl (λ body. refl)
  elements_shown (Fields v) f is first = absurd is
  elements_shown Segments03 f is first = absurd is
  elements_shown Segments04 f is first = absurd is
  elements_shown Text f is first = absurd is

  -- the first element behind GS
  pub elements_due : (k : Kind) (f : ℕ) → ElementsOf k f → (notes : List ℕ) → Noted m from notes rows (opening m f at (rule_of widest f)) → Noted m from notes rows (plain_row m Piece f (at + 1))
  unfolding rule_of opening
  elements_due Elements05 f is notes noted = subst (Noted m from notes rows) (ap (λ n. opening m n at (rule_of widest n)) is ∙ (λ i. plain_row m Piece (sym is i) (one_ahead m at inside i))) noted
  elements_due Elements06 f is notes noted = subst (Noted m from notes rows) (ap (λ n. opening m n at (rule_of widest n)) is ∙ (λ i. plain_row m Piece (sym is i) (one_ahead m at inside i))) noted
  elements_due Elements12 f is notes noted = subst (Noted m from notes rows) (ap (λ n. opening m n at (rule_of widest n)) is ∙ (λ i. plain_row m Piece (sym is i) (one_ahead m at inside i))) noted
  elements_due (Fields v) f is notes noted = absurd is
  elements_due Segments03 f is notes noted = absurd is
  elements_due Segments04 f is notes noted = absurd is
  elements_due Text f is notes noted = absurd is

  pub elements_swept : (k : Kind) (f : ℕ) → ElementsOf k f → (p : Passed) (notes : List ℕ) → BodySwept m from k (at + 1) rows p notes → FormatSwept m from f at rows p notes
  elements_swept k f of p notes body = record {
    more = body.more;
    inside = body.inside;
    closes = λ first only. elements_shown k f of first ∙ cond-true _ _ _ (begins_gs m at inside gs) ∙ body.closes 1;
    noted = body.noted;
  }

-- Text

module _ (m : Bytes) (framed : Framed m) (from at rows end : ℕ) (inside : at < length m) (is : end ≡ at + seek RS (drop at m)) (ended : end < length m) where
  -- the byte behind the text
  text_rs : get_or m end 0 ≡ RS
  text_rs =
      let n = seek RS (drop at m) in
      let less : n < length (drop at m) = omega (arith, length-drop at m) in
      let long = length-take-le n (drop at m) (omega arith) in
      ap (λ i. get_or m i 0) is ∙ sym (get_or-drop at m n 0) ∙ ap (λ bs. get_or bs n 0) (seek_found RS (drop at m) less) ∙ get_or_at (take n (drop at m)) RS (drop (n + 1) (drop at m)) 0 n long

  pub text_more : end + 1 < length m
  text_more = byte_behind m framed end ended RS text_rs (λ e. omega arith)

  abbrev text_row : Cursor
  text_row = standing Body 7 at (end - at)

  text_here : opening m 7 at (rule_of widest 7) ≡ text_row
  unfolding rule_of opening
  text_here = let long : seek RS (drop at m) ≡ end - at = omega arith in ap (standing Body 7 at) long

  text_next : next_cursor m text_row ≡ indicator_at m (end + 1)
  unfolding next_cursor following
  text_next =
      let there : ahead m at (end - at) ≡ end = omega (arith, length-take (end - at) (drop at m), length-drop at m) in
      ap (λ e. indicator_at m (ahead m e 1)) there ∙ ap (indicator_at m) (one_ahead m end ended)

  pub text_swept : (old new : List ℕ) (c : Cursor) → every text_byte (take (end - at) (drop at m)) ≡ true → c ≡ text_row → Noted m from old rows (opening m 7 at (rule_of widest 7)) → NotedOne from old new rows c
      → FormatSwept m from 7 at rows (record { next = end + 1; rows = rows + 1 }) new
  unfolding rule_of read_by
  text_swept old new c permitted same noted one =
      let two : 1 + 1 ≡ 1 + (rows + 1 - rows) = omega arith in
      record {
        more = omega arith;
        inside = text_more;
        closes = λ first only. shown_text 7 m at (omega arith) ∙ sym (body_closed Text 1 m at end (omega arith) is ended permitted refl) ∙ ap (closed_at (end + 1)) two;
        noted = subst (Noted m from new (rows + 1)) (ap (next_cursor m) same ∙ text_next) (one m (subst (Noted m from old rows) (text_here ∙ sym same) noted));
      }

-- Envelopes

-- a byte that is a digit
-- what tells a byte's worth
record Worth (b u : ℕ) : Type 0 where
  is : digit b ≡ true
  by : u ≡ b - 0x30
  small : u ≤ 9

worth_of : (b u : ℕ) → digit_of b ≡ Some u → Worth b u
unfolding digit between
worth_of b u = by (digit b) refl
  where
    by : (t : Bool) → digit b ≡ t → cond t (Some (b - 0x30)) None ≡ Some u → Worth b u
    by true is tells =
        let few = leb-true b 0x39 (and_parts (leb 0x30 b) (leb b 0x39) is).1 in
        let worth : b - 0x30 ≡ u = cc in
        record { is = is; by = sym worth; small = omega (arith, few, worth) }
    by false is tells = absurd cc

-- two digits at an offset
pub indicates : (m : Bytes) (framed : Framed m) (at t u f : ℕ) → at + 1 < length m → get_or m at 0 ≡ 0x30 + t → t ≤ 9 → digit_of (get_or m (at + 1) 0) ≡ Some u → f ≡ 10 * t + u → Indicates m at f
unfolding digit between indicator_at
indicates m framed at t u f inside tens small units made =
    let a = get_or m at 0 in
    let b = get_or m (at + 1) 0 in
    let worth = worth_of b u units in
    let unit = worth.is in
    let is : f ≡ 10 * t + (b - 0x30) = omega (arith, made, worth.by) in
    let more = digit_behind m framed (at + 1) inside unit in
    let sum : 10 * (10 * 0 + (a - 0x30)) + (b - 0x30) ≡ f = omega (arith, tens, is) in
    let said : 10 * (a - 0x30) + (b - 0x30) ≡ f = omega (arith, tens, is) in
    record {
      more = omega arith;
      says = ap indicator_of (drop_two m at (omega arith))
          ∙ cond-true (digit a && digit b) (value (a ∷ b ∷ [])) 100
          (both_true (both_true (le-leb 0x30 a (omega (arith, tens))) (le-leb a 0x39 (omega (arith, tens)))) unit)
          ∙ sum;
      row = ap (λ n. standing Indicator n at 2) said;
      known = omega (arith, made, worth.small);
    }

module _ (m : Bytes) (framed : Framed m) (from at rows f : ℕ) (is : Indicates m at f) where
  abbrev indicator_row : Cursor
  indicator_row = standing Indicator f at 2

  indicator_next : next_cursor m indicator_row ≡ opening m f (at + 2) (rule_of widest f)
  unfolding next_cursor following
  indicator_next = let there : ahead m at 2 ≡ at + 2 = omega (arith, is.more, length-take 2 (drop at m), length-drop at m) in ap (λ e. opening m f e (rule_of widest f)) there

  pub format_due : (old new : List ℕ) (c : Cursor) → c ≡ indicator_row → Noted m from old rows (indicator_at m at) → NotedOne from old new rows c
      → Noted m from new (rows + 1) (opening m f (at + 2) (rule_of widest f))
  format_due old new c same noted one = subst (Noted m from new (rows + 1)) (ap (next_cursor m) same ∙ indicator_next) (one m (subst (Noted m from old rows) (is.row ∙ sym same) noted))

  pub envelope_swept : (edition : Edition) (p : Passed) (notes : List ℕ) → KnownSwept edition m from f (at + 2) (rows + 1) p notes → EnvelopeSwept edition m from at rows p notes
  envelope_swept edition p notes known =
      let format = known.1 in
      let here : at + 2 - 2 ≡ at = omega arith in
      let count : 1 + (p.rows - (rows + 1)) ≡ p.rows - rows = omega (arith, format.more) in
      record {
        more = omega (arith, format.more);
        inside = format.inside;
        closes = λ first only.
            ap (shown m) (read_some edition first f (drop at m) is.says (omega (arith, is.known)) ∙ (λ i. read_by (known.0 i) first f (drop-drop 2 at m i)))
            ∙ format.closes first (λ e. only (sym here ∙ e))
            ∙ ap (closed_at p.next) count;
        noted = format.noted;
      }
