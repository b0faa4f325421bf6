-- A body of pieces, one by one: what is found of it from one piece on is what is found from the next one on with one row more; and behind the last one it is
-- closed. Elements have a test each; the rule of fields (proofs/FieldTurns) goes by index too.
use Prim.Native.Nat.{ℕ, suc, ◌+◌, ◌-◌}
use mathlib.Core.Path.{◌≡◌, refl, sym, ap, ◌∙◌}
use mathlib.Core.Bool.{Bool, true, false, not, ◌&&◌, cond}
use mathlib.Core.List.{[], ◌∷◌, ◌++◌}
use native.Mathlib.Omega.{arith}
use borrow.Author.Tests.{lt-ltb, not-true}
use lib.ListN.{length, get_or, take, drop, length-append, length-take, length-drop, take-append-drop}
use lib.Seq.{drop-drop, take-append_seam, take-append-add}
use lib.Dec.{eqb, ltb}
use Rattle.std.proofs.lemmas.Bool.{and_parts, or_left}
use Rattle.std.specs.Cmp.Derive.{both_true}
use Rattle.std.proofs.lemmas.List.{drop_more}
use Rattle.label.specs.declared.Reason.TheVariants.{ByteNotPermitted, BodyBreaksRules, NoRecordSeparator}
use Rattle.label.specs.Bytes.{Bytes, GS, RS, plain, between, every}
use Rattle.label.specs.Pieces.{pieces}
use Rattle.label.specs.Elements.{element05, element06, element12}
use Rattle.label.specs.ReadEnvelope.{plain_or_gs}
use Rattle.label.proofs.Tests.{free, free_of, plain_without, every_implies}
use Rattle.label.proofs.Splitting.{pieces_one, pieces_front}
use Rattle.leaves.specs.Seek.{seek, tally_of}
use Rattle.leaves.proofs.Turns.{seek_behind, tally_behind}
use Rattle.pieces.specs.declared.Kind.{Kind}
use Rattle.pieces.specs.declared.Kind.TheVariants.{Fields, Segments03, Segments04, Elements05, Elements06, Text, Elements12}
use Rattle.pieces.specs.PieceTests.{piece_test}
use Rattle.bodies.specs.Kinds.{permitted_of, rules_of, rows_of_body}
use Rattle.bodies.proofs.PieceLaws.{leb_same}
use Rattle.envelope.specs.Judged.{Judged, closed_at, no_envelope}
use Rattle.faults.specs.PieceFaults.{fault_of}
use Rattle.envelope.specs.Bodies.{fault_found, body_found}
use Rattle.walk.specs.Cursors.{run_of, plain_run}
use Rattle.sweeps.specs.Quick.{RunsTo, PassesTo, ElementsOf}

-- the bytes of a run are of its class
pub run_every : (class : ℕ → Bool) (bs : Bytes) → every class (take (run_of class bs) bs) ≡ true
run_every class [] = refl
run_every class (b ∷ bs) = by (class b) refl (run_every class bs)
  where
    by : (t : Bool) → class b ≡ t → every class (take (run_of class bs) bs) ≡ true → every class (take (cond t (suc (run_of class bs)) 0) (b ∷ bs)) ≡ true
    by true is later = both_true is later
    by false is later = refl

pub every_front : (f : ℕ → Bool) (p rest : Bytes) → every f p ≡ true → every f (p ++ rest) ≡ every f rest
every_front f [] rest ok = refl
every_front f (b ∷ p) rest ok =
    let k = and_parts (f b) (every f p) ok in
    ap (λ t. t && every f (p ++ rest)) k.0 ∙ every_front f p rest k.1

pub tally_none : (c : ℕ) (p : Bytes) → free c p ≡ true → tally_of c p ≡ 0
tally_none c [] ok = refl
tally_none c (b ∷ p) ok =
    let k = and_parts (not (eqb b c)) (free c p) ok in
    ap (λ t. cond t (suc (tally_of c p)) (tally_of c p)) (not-true (eqb b c) k.0) ∙ tally_none c p k.1

-- plain bytes are one piece
pub no_gs : (p : Bytes) → every plain p ≡ true → free GS p ≡ true
no_gs p ok = free_of GS plain (plain_without GS (omega arith)) p ok

-- what is found, by the three tests
abbrev pub found_by : Bool → Bool → Bool → ℕ → ℕ → Judged
found_by ended permitted kept next rows = cond ended (cond permitted (cond kept (closed_at next rows) (no_envelope BodyBreaksRules)) (no_envelope ByteNotPermitted)) (no_envelope NoRecordSeparator)

-- what is found of a body, whatever its fault is if it breaks its rules: a fault's place tells where the body began, and the sweep asks only if it is closed
unfoldable pub body_kept : Kind → ℕ → Bytes → ℕ → Judged
body_kept k before m at =
    found_by (ltb (seek RS (drop at m)) (length (drop at m))) (every (permitted_of k) (take (seek RS (drop at m)) (drop at m))) (rules_of k (take (seek RS (drop at m)) (drop at m)))
    (at + seek RS (drop at m) + 1) (before + rows_of_body k (take (seek RS (drop at m)) (drop at m)))

pub kept_closed : (k : Kind) (before : ℕ) (m : Bytes) (at next rows : ℕ) → body_kept k before m at ≡ closed_at next rows → body_found k before m at ≡ closed_at next rows
unfolding body_kept body_found
kept_closed k before m at next rows closes =
    by (ltb (seek RS (drop at m)) (length (drop at m))) (every (permitted_of k) (take (seek RS (drop at m)) (drop at m))) (rules_of k (take (seek RS (drop at m)) (drop at m)))
    _ (fault_found at (fault_of k (take (seek RS (drop at m)) (drop at m)))) closes
  where
    by : (ended permitted kept : Bool) (here fault : Judged) → cond ended (cond permitted (cond kept here (no_envelope BodyBreaksRules)) (no_envelope ByteNotPermitted)) (no_envelope NoRecordSeparator) ≡ closed_at next rows
        → cond ended (cond permitted (cond kept here fault) (no_envelope ByteNotPermitted)) (no_envelope NoRecordSeparator) ≡ closed_at next rows
    by true true true here fault closes = closes
    by true true false here fault closes = let z : ◌≡◌ {A = ℕ} 0 1 = cc in absurd (omega arith)
    by true false kept here fault closes = closes
    by false permitted kept here fault closes = closes

module _ (rule : ℕ → Bytes → Bool) where
  -- what is found of pieces from an index on that keep a rule together, in bytes that begin at an offset, given how long the body is
  abbrev pieces_found : ℕ → ℕ → ℕ → Bytes → ℕ → Judged
  pieces_found i before at bs n = found_by (ltb n (length bs)) (every plain_or_gs (take n bs)) (rule i (take n bs)) (at + n + 1) (before + (tally_of GS (take n bs) + 1))

  -- behind a piece the rest is to keep the rule, one index on
  abbrev pub Passes : ℕ → Bytes → Type 0
  Passes i p = (body : Bytes) → rule i (p ++ (GS ∷ body)) ≡ rule (i + 1) body

  module _ (i before at : ℕ) (p rest : Bytes) (ok : every plain p ≡ true) where
    plain_gs : every plain_or_gs p ≡ true
    unfolding plain_or_gs
    plain_gs = every_implies plain plain_or_gs (λ b is. or_left _ (eqb b GS) is) p ok

    no_rs_lem : free RS p ≡ true
    no_rs_lem = free_of RS plain (plain_without RS (omega arith)) p ok

    -- a piece and a GS in front of others
    list_on : Passes i p → pieces_found i before at (p ++ (GS ∷ rest)) (seek RS (p ++ (GS ∷ rest))) ≡ pieces_found (i + 1) (before + 1) (at + length p + 1) rest (seek RS rest)
    unfolding plain_or_gs plain between
    list_on passes =
        let n = seek RS rest in
        let body = take n rest in
        let first : seek RS (p ++ (GS ∷ rest)) ≡ length p + suc n = seek_behind RS p (GS ∷ rest) no_rs_lem in
        let cut : take (length p + suc n) (p ++ (GS ∷ rest)) ≡ p ++ (GS ∷ body) = take-append-add p (GS ∷ rest) (suc n) in
        let long = length-append p (GS ∷ rest) in
        let ended : ltb (length p + suc n) (length (p ++ (GS ∷ rest))) ≡ ltb n (length rest) = leb_same (suc (length p + suc n)) (length (p ++ (GS ∷ rest))) (suc n) (length rest) (λ h. omega arith) (λ h. omega arith) in
        let next : at + (length p + suc n) + 1 ≡ at + length p + 1 + n + 1 = omega arith in
        let rows : before + (tally_of GS (p ++ (GS ∷ body)) + 1) ≡ before + 1 + (tally_of GS body + 1) = omega (arith, tally_behind GS p (GS ∷ body), tally_none GS p (no_gs p ok)) in
        ap (pieces_found i before at (p ++ (GS ∷ rest))) first
        ∙ (λ j. found_by (ended j) (every plain_or_gs (cut j)) (rule i (cut j)) (next j) (before + (tally_of GS (cut j) + 1)))
        ∙ (λ j. found_by (ltb n (length rest)) (every_front plain_or_gs p (GS ∷ body) plain_gs j) (passes body j) (at + length p + 1 + n + 1) (rows j))

    -- the last piece and the RS
    list_last : rule i p ≡ true → pieces_found i before at (p ++ (RS ∷ rest)) (seek RS (p ++ (RS ∷ rest))) ≡ closed_at (at + length p + 1) (before + 1)
    list_last right =
        let first : seek RS (p ++ (RS ∷ rest)) ≡ length p = seek_behind RS p (RS ∷ rest) no_rs_lem ∙ omega arith in
        let cut : take (length p) (p ++ (RS ∷ rest)) ≡ p = take-append_seam p (RS ∷ rest) in
        let long = length-append p (RS ∷ rest) in
        let ended : ltb (length p) (length (p ++ (RS ∷ rest))) ≡ true = lt-ltb (length p) (length (p ++ (RS ∷ rest))) (omega arith) in
        let rows : before + (tally_of GS p + 1) ≡ before + 1 = omega (arith, tally_none GS p (no_gs p ok)) in
        ap (pieces_found i before at (p ++ (RS ∷ rest))) first
        ∙ (λ j. found_by (ended j) (every plain_or_gs (cut j)) (rule i (cut j)) (at + length p + 1) (before + (tally_of GS (cut j) + 1)))
        ∙ (λ j. found_by true (plain_gs j) (right j) (at + length p + 1) (rows j))

  -- what is found of a message from the piece with an index on
  abbrev pub found_from : Bytes → ℕ → ℕ → ℕ → Judged
  found_from m i before at = pieces_found i before at (drop at m) (seek RS (drop at m))

-- a run of plain bytes and what stands behind it
module _ (m : Bytes) (at end : ℕ) (to : RunsTo plain m at end) where
  abbrev pub piece : Bytes
  piece = take (end - at) (drop at m)

  -- the message from the piece on
  bytes_there : drop at m ≡ piece ++ (get_or m end 0 ∷ drop (end + 1) m)
  bytes_there =
      let there : at + (end - at) ≡ end = omega (arith, to.runs) in
      sym (take-append-drop (end - at) (drop at m))
      ∙ ap (λ l. take (end - at) (drop at m) ++ l) (drop-drop (end - at) at m ∙ ap (λ n. drop n m) there ∙ drop_more m end 0 to.inside)

  pub piece_plain : every plain piece ≡ true
  piece_plain = let long : end - at ≡ plain_run (drop at m) = omega (arith, to.runs) in ap (λ n. every plain (take n (drop at m))) long ∙ run_every plain (drop at m)

  pub piece_long : length piece ≡ end - at
  piece_long = omega (arith, length-take (end - at) (drop at m), length-drop at m, to.runs, to.inside)

  module _ (rule : ℕ → Bytes → Bool) (i before : ℕ) where
    next_is : at + length piece + 1 ≡ end + 1
    next_is = omega (arith, piece_long, to.runs)

    pub message_on : Passes rule i piece → get_or m end 0 ≡ GS → found_from rule m i before at ≡ found_from rule m (i + 1) (before + 1) (end + 1)
    message_on passes is =
        ap (λ bs. pieces_found rule i before at bs (seek RS bs)) (bytes_there ∙ ap (λ b. piece ++ (b ∷ drop (end + 1) m)) is)
        ∙ list_on rule i before at piece (drop (end + 1) m) piece_plain passes
        ∙ ap (λ n. pieces_found rule (i + 1) (before + 1) n (drop (end + 1) m) (seek RS (drop (end + 1) m))) next_is

    pub message_last : rule i piece ≡ true → get_or m end 0 ≡ RS → found_from rule m i before at ≡ closed_at (end + 1) (before + 1)
    message_last right is =
        ap (λ bs. pieces_found rule i before at bs (seek RS bs)) (bytes_there ∙ ap (λ b. piece ++ (b ∷ drop (end + 1) m)) is)
        ∙ list_last rule i before at piece (drop (end + 1) m) piece_plain right
        ∙ ap (λ n. closed_at n (before + 1)) next_is

-- elements are tested one by one, whatever their index
module _ (test : Bytes → Bool) (m : Bytes) (at end before : ℕ) (to : PassesTo test m at end) where
  abbrev elements : ℕ → Bytes → Bool
  elements i body = every test (pieces GS body)

  elements_on : get_or m end 0 ≡ GS → found_from elements m 0 before at ≡ found_from elements m 0 (before + 1) (end + 1)
  elements_on is =
      let p = piece m at end to.runs in
      message_on m at end to.runs elements 0 before
      (λ body. ap (every test) (pieces_front GS p body (no_gs p (piece_plain m at end to.runs))) ∙ ap (λ t. t && every test (pieces GS body)) to.passes) is

  elements_last : get_or m end 0 ≡ RS → found_from elements m 0 before at ≡ closed_at (end + 1) (before + 1)
  elements_last is =
      let p = piece m at end to.runs in
      message_last m at end to.runs elements 0 before
      (ap (every test) (pieces_one GS p (no_gs p (piece_plain m at end to.runs))) ∙ ap (λ t. t && true) to.passes) is

-- the same of a body of 05 or 06
module _ (m : Bytes) (at end before f : ℕ) where
  pub body_on : (k : Kind) → ElementsOf k f → PassesTo (piece_test k 0) m at end → get_or m end 0 ≡ GS → body_kept k before m at ≡ body_kept k (before + 1) m (end + 1)
  unfolding body_kept
  body_on Elements05 of to is = elements_on element05 m at end before to is
  body_on Elements06 of to is = elements_on element06 m at end before to is
  body_on Elements12 of to is = elements_on element12 m at end before to is
  body_on (Fields v) of to is = absurd of
  body_on Segments03 of to is = absurd of
  body_on Segments04 of to is = absurd of
  body_on Text of to is = absurd of

  pub body_last : (k : Kind) → ElementsOf k f → PassesTo (piece_test k 0) m at end → get_or m end 0 ≡ RS → body_kept k before m at ≡ closed_at (end + 1) (before + 1)
  unfolding body_kept
  body_last Elements05 of to is = elements_last element05 m at end before to is
  body_last Elements06 of to is = elements_last element06 m at end before to is
  body_last Elements12 of to is = elements_last element12 m at end before to is
  body_last (Fields v) of to is = absurd of
  body_last Segments03 of to is = absurd of
  body_last Segments04 of to is = absurd of
  body_last Text of to is = absurd of
