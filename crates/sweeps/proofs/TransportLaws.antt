-- Format 01 by offsets: its version's row and the fields behind it, what is found by each version, and that this is what reading the first envelope shows.
use Prim.Native.Nat.{ℕ, ◌+◌, ◌-◌, ◌≤◌, ◌<◌}
use mathlib.Core.Path.{◌≡◌, refl, sym, ap, ◌∙◌, subst}
use mathlib.Core.Bool.{Bool, true, false, not, ◌||◌, cond, true≢false}
use mathlib.Core.List.{List, ◌∷◌}
use native.Mathlib.Omega.{arith}
use borrow.Author.Tests.{ltb-false, eqb-true}
use lib.ListN.{length, get_or, drop}
use lib.Dec.{ltb, eqb}
use Rattle.std.proofs.lemmas.List.{drop_more}
use Rattle.label.specs.declared.Reason.TheVariants.{BadFormatHeader}
use Rattle.label.specs.declared.Version.TheVariants.{Version02, Version96}
use Rattle.label.specs.Bytes.{Bytes, ascii, GS}
use Rattle.label.specs.Formats.{widest, rule_of}
use Rattle.label.specs.ReadEnvelope.{read_by}
use Rattle.label.specs.ReadMessage.{agreement}
use Rattle.pieces.specs.declared.Kind.{Kind}
use Rattle.pieces.specs.declared.Kind.TheVariants.{Fields}
use Rattle.envelope.specs.Judged.{closed_at, no_envelope}
use Rattle.envelope.specs.Bodies.{body_found}
use Rattle.envelope.specs.Formats.{transport_found}
use Rattle.envelope.specs.Shown.{shown}
use Rattle.envelope.proofs.FormatLaws.{shown_transport}
use Rattle.walk.specs.declared.Stage.TheVariants.{VersionValue, Piece}
use Rattle.walk.specs.declared.Cursor.{Cursor}
use Rattle.walk.specs.Cursors.{standing, plain_row, opening, following, next_cursor}
use Rattle.sweeps.specs.Quick.{Passed, Noted, NotedOne, FirstAt, BodySwept, FormatSwept}
use Rattle.walk.proofs.Offsets.{ahead_inside}

-- what the code asks first: the envelope is the first one, and there is room for the version and a byte behind it
pub record Begins (m : Bytes) (at : ℕ) : Type 0 where
  pub first : at ≡ 6
  pub long : 10 ≤ length m

pub begins : (m : Bytes) (at : ℕ) → (not (eqb at 6) || ltb (length m) 10) ≡ false → Begins m at
begins m at is = by (eqb at 6) (ltb (length m) 10) refl refl is
  where
    by : (s u : Bool) → eqb at 6 ≡ s → ltb (length m) 10 ≡ u → (not s || u) ≡ false → Begins m at
    by false u p r is = absurd (true≢false is)
    by true true p r is = absurd (true≢false is)
    by true false p r is = record { first = eqb-true at 6 p; long = ltb-false (length m) 10 r }

module _ (m : Bytes) (at rows : ℕ) (ready : Begins m at) where
  pub fields_inside : at + 3 < length m
  fields_inside = omega (arith, ready.first, ready.long)

  -- the version's row, and the step behind it
  version_row_lem : opening m 1 at (rule_of widest 1) ≡ standing VersionValue 1 (at + 1) 2
  unfolding opening rule_of
  version_row_lem = ap (λ s. standing VersionValue 1 s 2) (sym (ahead_inside m at 1 (omega (arith, fields_inside))))

  version_step : next_cursor m (standing VersionValue 1 (at + 1) 2) ≡ plain_row m Piece 1 (at + 3)
  unfolding next_cursor following
  version_step =
      let three : at + 1 + 2 ≡ at + 3 = omega arith in
      ap (plain_row m Piece 1) (sym (ahead_inside m (at + 1) 2 (omega (arith, fields_inside))) ∙ three)

  module _ (c : Cursor) (is : c ≡ standing VersionValue 1 (at + 1) 2) where
    pub version_noted : (from : ℕ) (old new : List ℕ) → NotedOne from old new rows c → Noted m from old rows (opening m 1 at (rule_of widest 1)) → Noted m from new (rows + 1) (plain_row m Piece 1 (at + 3))
    version_noted from old new one noted = subst (Noted m from new (rows + 1)) (ap (next_cursor m) is ∙ version_step) (one m (subst (Noted m from old rows) (version_row_lem ∙ sym is) noted))

  -- what is found, by the three bytes
  module _ (gs : get_or m at 0 ≡ GS) (a b : ℕ) (tens : get_or m (at + 1) 0 ≡ a) (units : get_or m (at + 2) 0 ≡ b) where
    bytes_there : drop at m ≡ GS ∷ (a ∷ (b ∷ drop (at + 3) m))
    bytes_there =
        let two : at + 1 + 1 ≡ at + 2 = omega arith in
        let three : at + 2 + 1 ≡ at + 3 = omega arith in
        drop_more m at 0 (omega (arith, fields_inside))
        ∙ (λ j. gs j ∷ (drop_more m (at + 1) 0 (omega (arith, fields_inside)) ∙ ap (λ n. get_or m (at + 1) 0 ∷ drop n m) two) j)
        ∙ (λ j. GS ∷ (tens j ∷ (drop_more m (at + 2) 0 (omega (arith, fields_inside)) ∙ ap (λ n. get_or m (at + 2) 0 ∷ drop n m) three) j))
        ∙ ap (λ x. GS ∷ (a ∷ (x ∷ drop (at + 3) m))) units

    by_version : transport_found m at
        ≡ cond (eqb (agreement (GS ∷ ascii "02") (GS ∷ (a ∷ (b ∷ drop (at + 3) m)))) 3) (body_found (Fields Version02) 2 m (at + 3))
        (cond (eqb (agreement (GS ∷ ascii "96") (GS ∷ (a ∷ (b ∷ drop (at + 3) m)))) 3) (body_found (Fields Version96) 2 m (at + 3))
        (no_envelope BadFormatHeader))
    by_version =
        ap (λ bs. cond (eqb (agreement (GS ∷ ascii "02") bs) 3) (body_found (Fields Version02) 2 m (at + 3)) (cond (eqb (agreement (GS ∷ ascii "96") bs) 3) (body_found (Fields Version96) 2 m (at + 3)) (no_envelope BadFormatHeader))) bytes_there

  pub found_02 : get_or m at 0 ≡ GS → get_or m (at + 1) 0 ≡ 0x30 → get_or m (at + 2) 0 ≡ 0x32 → transport_found m at ≡ body_found (Fields Version02) 2 m (at + 3)
  found_02 gs tens units = by_version gs 0x30 0x32 tens units

  pub found_96 : get_or m at 0 ≡ GS → get_or m (at + 1) 0 ≡ 0x39 → get_or m (at + 2) 0 ≡ 0x36 → transport_found m at ≡ body_found (Fields Version96) 2 m (at + 3)
  found_96 gs tens units = by_version gs 0x39 0x36 tens units

  -- the first envelope
  transport_shown : (first : Bool) → FirstAt (at - 2) first → shown m (read_by (rule_of widest 1) first 1 (drop at m)) ≡ transport_found m at
  unfolding rule_of read_by
  transport_shown first only = ap (λ t. shown m (read_by (rule_of widest 1) t 1 (drop at m))) (only (omega (arith, ready.first))) ∙ shown_transport 1 m at (omega (arith, fields_inside))

  pub transport_swept : (from : ℕ) (k : Kind) (new : List ℕ) (p : Passed) → transport_found m at ≡ body_found k 2 m (at + 3) → BodySwept m from k (at + 3) (rows + 1) p new → FormatSwept m from 1 at rows p new
  transport_swept from k new p found swept =
      let one_more : 2 + (p.rows - (rows + 1)) ≡ 1 + (p.rows - rows) = omega (arith, swept.more) in
      record {
        more = omega (arith, swept.more);
        inside = swept.inside;
        closes = λ first only. transport_shown first only ∙ found ∙ swept.closes 2 ∙ ap (closed_at p.next) one_more;
        noted = swept.noted;
      }
