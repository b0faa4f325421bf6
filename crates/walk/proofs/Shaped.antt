-- The walk over an envelope of each shape: from its indicator it answers the envelope's rows and stands at the next indicator, from which it goes on.
use Prim.Native.Nat.{ℕ, suc, ◌+◌, ◌*◌, ◌-◌, ◌≤◌, ◌<◌}
use mathlib.Core.Path.{◌≡◌, refl, sym, ap, ◌∙◌, subst}
use mathlib.Core.Bool.{Bool, true, false, not, cond, false≢true, true≢false}
use mathlib.Core.List.{List, [], ◌∷◌, ◌++◌, map, append_assoc}
use native.Mathlib.Omega.{arith}
use borrow.Author.Tests.{le-leb, lt-ltb, not-true}
use lib.ListN.{length, get_or, take, drop, length-append, length-drop}
use lib.Dec.{eqb, ltb}
use Rattle.std.proofs.lemmas.Bool.{and_parts}
use Rattle.std.specs.Cmp.Derive.{both_true}
use Rattle.label.specs.Bytes.{Bytes, FS, GS, RS, US, plain, digit, between, every, is_empty}
use Rattle.label.specs.Limits.{longest, long_as, ◌to◌}
use Rattle.label.specs.Values.{count, value_after, value}
use Rattle.label.specs.Segments.{Element, Segment, tagged}
use Rattle.label.specs.Formats.{Rule, widest, rule_of}
use Rattle.label.specs.Layout.{Part, mark, bytes_of, rows_from, further, ended}
use Rattle.label.specs.Written.{value_row, piece_row, tag_row, element_row, sub_element_row, body_row, rowed, rowed_each, two_digits, indicator, element_parts, segment_parts}
use Rattle.label.specs.Envelope.{plain_element}
use Rattle.label.proofs.Tests.{free, plain_without, Implies, every_implies}
use Rattle.label.proofs.SegmentLaws.{tagged_some}
use Rattle.leaves.specs.Seek.{seek}
use Rattle.walk.specs.declared.Stage.{Stage}
use Rattle.walk.specs.declared.Stage.TheVariants.{Indicator, CountValue, Piece, Tag, LaterElement, FurtherSubElement, Body}
use Rattle.walk.specs.declared.Cursor.{Cursor}
use Rattle.walk.specs.Cursors.{ahead, count_from, kind_of, standing, plain_row, indicator_at, opening, after_piece, after_segment, after_sub_element, following}
use Rattle.walk.proofs.Offsets.{digit_value}
use Rattle.walk.proofs.Walks.{Yields, Leads, first_of, first_further, behind_bytes_lem, byte_there, mark_leads, choice_leads, row_yields, plain_leads}

-- the first byte of plain bytes and others is no RS, if those others do not begin with one
first_plain : (p rest : Bytes) → every plain p ≡ true → eqb (first_of rest) RS ≡ false → eqb (first_of (p ++ rest)) RS ≡ false
first_plain [] rest ok other = other
first_plain (b ∷ p) rest ok other = plain_without RS (omega arith) b (and_parts (plain b) (every plain p) ok).0

-- a search ends at the first byte that it looks for
pub seek_stops : (c : ℕ) (p rest : Bytes) → free c p ≡ true → eqb c c ≡ true → seek c (p ++ (c ∷ rest)) ≡ length p
seek_stops c [] rest ok same = ap (λ t. cond t 0 (suc (seek c rest))) same
seek_stops c (b ∷ p) rest ok same =
    let k = and_parts (not (eqb b c)) (free c p) ok in
    ap (λ t. cond t 0 (suc (seek c (p ++ (c ∷ rest))))) (not-true (eqb b c) k.0) ∙ ap suc (seek_stops c p rest k.1 same)

-- digits that make a number below 10,000 are counted to their end
value_least : (n : ℕ) (ds : Bytes) → n ≤ value_after n ds
value_least n [] = omega arith
value_least n (d ∷ ds) = omega (arith, value_least (10 * n + (d - 0x30)) ds)

count_stops : (n : ℕ) (ds rest : Bytes) → every digit ds ≡ true → digit (first_of rest) ≡ false → value_after n ds < longest → count_from n (ds ++ rest) ≡ value_after n ds
count_stops n [] rest ok ends small = none rest ends
  where
    none : (bs : Bytes) → digit (first_of bs) ≡ false → count_from n bs ≡ n
    none [] h = refl
    none (b ∷ bs) h = ap (λ t. cond t (count_from (cond (ltb n longest) (10 * n + (b - 0x30)) n) bs) n) h
count_stops n (d ∷ ds) rest ok ends small =
    let k = and_parts (digit d) (every digit ds) ok in
    let least = value_least (10 * n + (d - 0x30)) ds in
    ap (λ t. cond t (count_from (cond (ltb n longest) (10 * n + (d - 0x30)) n) (ds ++ rest)) n) k.0
    ∙ ap (λ t. count_from (cond t (10 * n + (d - 0x30)) n) (ds ++ rest)) (lt-ltb n longest (omega arith))
    ∙ count_stops (10 * n + (d - 0x30)) ds rest k.1 ends small

pub digit_plain : Implies digit plain
unfolding digit plain between
digit_plain b is =
    let k = digit_value b is in
    both_true (le-leb 0x20 b (omega arith)) (le-leb b 0x7E (omega arith))

module _ (m : Bytes) (f : ℕ) where
  -- an indicator, and what its format's rule says follows
  pub indicator_leads : (r : Rule) (ps : List Part) → rule_of widest f ≡ r → Leads m (λ end. opening m f end r) ps → Leads m (indicator_at m) (indicator f ∷ ps)
  unfolding indicator_at following
  indicator_leads r ps known leads at h =
      let tens = byte_there m at (two_digits f ++ bytes_of ps) h in
      let units = byte_there m (at + 1) (drop 1 (two_digits f) ++ bytes_of ps) (behind_bytes_lem m at (take 1 (two_digits f)) (drop 1 (two_digits f) ++ bytes_of ps) h) in
      let says : 10 * (get_or m at 0 - 0x30) + (get_or m (at + 1) 0 - 0x30) ≡ f = omega arith in
      subst (λ (n : ℕ). Yields m (standing Indicator n at 2) (rows_from at (indicator f ∷ ps))) (sym says)
      (row_yields m Indicator f at 2 (two_digits f) ps refl h λ end h'.
      subst (λ (r : Rule). Yields m (opening m f end r) (rows_from end ps)) (sym known) (leads end h'))

  module _ (later : List Part) (next : Leads m (indicator_at m) later) where
    -- a field or an element, and those behind it
    pub pieces_lead : (p : Bytes) (ps : List Bytes) → every plain p ≡ true → every (every plain) ps ≡ true
        → Leads m (plain_row m Piece f) (rowed piece_row f p ∷ (further GS (rowed_each piece_row f ps) ++ (mark RS ∷ later)))
    unfolding following after_piece plain between
    pieces_lead p [] ok oks =
        plain_leads m Piece f p (mark RS ∷ later) ok refl λ start h.
        choice_leads m GS false (λ end. plain_row m Piece f (ahead m end 1)) (λ end. indicator_at m (ahead m end 1)) (mark RS ∷ later) refl
        (mark_leads m (indicator_at m) RS later next)
    pieces_lead p (q ∷ qs) ok oks =
        let k = and_parts (every plain q) (every (every plain) qs) oks in
        let ps = rowed piece_row f q ∷ (further GS (rowed_each piece_row f qs) ++ (mark RS ∷ later)) in
        plain_leads m Piece f p (mark GS ∷ ps) ok refl λ start h.
        choice_leads m GS true (λ end. plain_row m Piece f (ahead m end 1)) (λ end. indicator_at m (ahead m end 1)) (mark GS ∷ ps) refl
        (mark_leads m (plain_row m Piece f) GS ps (pieces_lead q qs k.0 k.1))

    -- a body of a known length
    pub body_yields : (at n : ℕ) (p : Bytes) → n ≡ length p → drop at m ≡ p ++ (RS ∷ bytes_of later) → Yields m (standing Body f at n) (rows_from at (rowed body_row f p ∷ mark RS ∷ later))
    unfolding following
    body_yields at n p long h = row_yields m Body f at n p (mark RS ∷ later) long h (mark_leads m (indicator_at m) RS later next)

  -- a header value of format 09 and what lies behind its GS
  pub value_leads : (stage following_stage : Stage) → ((start end : ℕ) → following m f start end stage ≡ plain_row m following_stage f (ahead m end 1))
      → (p : Bytes) → every plain p ≡ true → (ps : List Part) → Leads m (plain_row m following_stage f) ps → Leads m (plain_row m stage f) (rowed (kind_of stage) f p ∷ mark GS ∷ ps)
  unfolding plain between
  value_leads stage following_stage goes p ok ps leads =
      plain_leads m stage f p (mark GS ∷ ps) ok refl λ start h at h'.
      subst (λ (c : Cursor). Yields m c (rows_from (at + 1) ps)) (sym (goes start at)) (mark_leads m (plain_row m following_stage f) GS ps leads at h')

  -- Segments

  -- a tag, a later element's first sub-element or a further one
  abbrev InSegment : Stage → Type 0
  InSegment stage = (start end : ℕ) → after_sub_element m f end ≡ following m f start end stage

  sub_element_leads : (stage : Stage) → InSegment stage → (s : Bytes) (ps : List Part) → every plain s ≡ true → plain (first_of (bytes_of ps)) ≡ false → Leads m (after_sub_element m f) ps
      → Leads m (plain_row m stage f) (rowed (kind_of stage) f s ∷ ps)
  sub_element_leads stage same s ps ok ends leads =
      plain_leads m stage f s ps ok ends λ start h at h'. subst (λ (c : Cursor). Yields m c (rows_from at ps)) (same start at) (leads at h')

  us_leads : (ps : List Part) → Leads m (plain_row m FurtherSubElement f) ps → Leads m (after_sub_element m f) (mark US ∷ ps)
  unfolding after_sub_element
  us_leads ps leads = choice_leads m US true _ _ (mark US ∷ ps) refl (mark_leads m (plain_row m FurtherSubElement f) US ps leads)

  gs_leads : (ps : List Part) → Leads m (plain_row m LaterElement f) ps → Leads m (after_sub_element m f) (mark GS ∷ ps)
  unfolding after_sub_element
  gs_leads ps leads =
      choice_leads m US false _ _ (mark GS ∷ ps) refl
      (choice_leads m GS true _ _ (mark GS ∷ ps) refl (mark_leads m (plain_row m LaterElement f) GS ps leads))

  fs_leads : (ps : List Part) → Leads m (after_segment m f) ps → Leads m (after_sub_element m f) (mark FS ∷ ps)
  unfolding after_sub_element
  fs_leads ps leads =
      choice_leads m US false _ _ (mark FS ∷ ps) refl
      (choice_leads m GS false _ _ (mark FS ∷ ps) refl (mark_leads m (after_segment m f) FS ps leads))

  -- an element's sub-elements
  element_leads : (stage : Stage) → InSegment stage → (s : Bytes) (ss : List Bytes) → every (every plain) (s ∷ ss) ≡ true
      → (ps : List Part) → plain (first_of (bytes_of ps)) ≡ false → Leads m (after_sub_element m f) ps → Leads m (plain_row m stage f) (element_parts (kind_of stage) f (s ∷ ss) ++ ps)
  unfolding following plain between
  element_leads stage same s [] ok ps ends leads = sub_element_leads stage same s ps (and_parts (every plain s) true ok).0 ends leads
  element_leads stage same s (u ∷ us) ok ps ends leads =
      let k = and_parts (every plain s) (every (every plain) (u ∷ us)) ok in
      let qs = element_parts sub_element_row f (u ∷ us) ++ ps in
      sub_element_leads stage same s (mark US ∷ qs) k.0 refl
      (us_leads qs (element_leads FurtherSubElement (λ start end. refl) u us k.1 ps ends leads))

  -- a segment's later elements and its FS
  abbrev later_elements : List Element → List Part → List Part
  later_elements es ps = further GS (map (element_parts element_row f) es) ++ (mark FS ∷ ps)

  later_first : (Fact : ℕ → Type 0) → Fact GS → Fact FS → (es : List Element) (ps : List Part) → Fact (first_of (bytes_of (later_elements es ps)))
  later_first Fact gs fs es ps = first_further Fact GS (map (element_parts element_row f) es) (mark FS ∷ ps) gs fs

  later_elements_lead : (es : List Element) → every plain_element es ≡ true → (ps : List Part) → Leads m (after_sub_element m f) (mark FS ∷ ps) → Leads m (after_sub_element m f) (later_elements es ps)
  unfolding following plain between
  later_elements_lead [] ok ps leads = leads
  later_elements_lead ([] ∷ es) ok ps leads = absurd (false≢true ok)
  later_elements_lead ((s ∷ ss) ∷ es) ok ps leads =
      let k = and_parts (every (every plain) (s ∷ ss)) (every plain_element es) ok in
      subst (λ (qs : List Part). Leads m (after_sub_element m f) (mark GS ∷ qs)) (sym (append_assoc (element_parts element_row f (s ∷ ss)) (further GS (map (element_parts element_row f) es)) (mark FS ∷ ps)))
      (gs_leads (element_parts element_row f (s ∷ ss) ++ later_elements es ps)
      (element_leads LaterElement (λ start end. refl) s ss k.0 (later_elements es ps) (later_first (λ b. plain b ≡ false) refl refl es ps)
      (later_elements_lead es k.1 ps leads)))

  segment_leads : (s : Segment) → is_empty s ≡ false → every plain_element s ≡ true → (ps : List Part) → Leads m (after_sub_element m f) (mark FS ∷ ps)
      → Leads m (plain_row m Tag f) (segment_parts f s ++ (mark FS ∷ ps))
  unfolding following plain between
  segment_leads [] some ok ps leads = absurd (true≢false some)
  segment_leads ([] ∷ es) some ok ps leads = absurd (false≢true ok)
  segment_leads ((t ∷ ss) ∷ es) some ok ps leads =
      let k = and_parts (every (every plain) (t ∷ ss)) (every plain_element es) ok in
      subst (Leads m (plain_row m Tag f)) (sym (append_assoc (element_parts tag_row f (t ∷ ss)) (further GS (map (element_parts element_row f) es)) (mark FS ∷ ps)))
      (element_leads Tag (λ start end. refl) t ss k.0 (later_elements es ps) (later_first (λ b. plain b ≡ false) refl refl es ps)
      (later_elements_lead es k.1 ps leads))

  -- no segment begins with RS
  segment_first : (s : Segment) → is_empty s ≡ false → every plain_element s ≡ true → (ps : List Part) → eqb (first_of (bytes_of (segment_parts f s ++ (mark FS ∷ ps)))) RS ≡ false
  segment_first [] some ok ps = absurd (true≢false some)
  segment_first ([] ∷ es) some ok ps = absurd (false≢true ok)
  segment_first ((t ∷ []) ∷ es) some ok ps =
      let k = and_parts (every (every plain) (t ∷ [])) (every plain_element es) ok in
      first_plain t (bytes_of (later_elements es ps)) (and_parts (every plain t) true k.0).0 (later_first (λ b. eqb b RS ≡ false) refl refl es ps)
  segment_first ((t ∷ (s ∷ ss)) ∷ es) some ok ps =
      let k = and_parts (every (every plain) (t ∷ (s ∷ ss))) (every plain_element es) ok in
      first_plain t _ (and_parts (every plain t) (every (every plain) (s ∷ ss)) k.0).0 refl

  module _ (later : List Part) (next : Leads m (indicator_at m) later) where
    -- segments and the envelope's RS
    abbrev segments_left : List Segment → List Part
    segments_left ss = ended FS (map (segment_parts f) ss) ++ (mark RS ∷ later)

    segments_left_lem : (s : Segment) (ss : List Segment) → segments_left (s ∷ ss) ≡ segment_parts f s ++ (mark FS ∷ segments_left ss)
    segments_left_lem s ss = append_assoc (segment_parts f s) (mark FS ∷ ended FS (map (segment_parts f) ss)) (mark RS ∷ later)

    first_segment_leads : (s : Segment) (ss : List Segment) → is_empty s ≡ false → every plain_element s ≡ true → Leads m (after_segment m f) (segments_left ss)
        → Leads m (plain_row m Tag f) (segments_left (s ∷ ss))
    first_segment_leads s ss some ok leads =
        subst (Leads m (plain_row m Tag f)) (sym (segments_left_lem s ss)) (segment_leads s some ok (segments_left ss) (fs_leads (segments_left ss) leads))

    after_segment_leads : (is_tag : Bytes → Bool) (ss : List Segment) → every (every plain_element) ss ≡ true → every (tagged is_tag) ss ≡ true → Leads m (after_segment m f) (segments_left ss)
    unfolding after_segment
    after_segment_leads is_tag [] ok tags = choice_leads m RS true _ _ (mark RS ∷ later) refl (mark_leads m (indicator_at m) RS later next)
    after_segment_leads is_tag (s ∷ ss) ok tags =
        let k = and_parts (every plain_element s) (every (every plain_element) ss) ok in
        let t = and_parts (tagged is_tag s) (every (tagged is_tag) ss) tags in
        let some = tagged_some is_tag s t.0 in
        choice_leads m RS false _ _ (segments_left (s ∷ ss)) (ap (λ ps. eqb (first_of (bytes_of ps)) RS) (segments_left_lem s ss) ∙ segment_first s some k.0 (segments_left ss))
        (first_segment_leads s ss some k.0 (after_segment_leads is_tag ss k.1 t.1))

    pub segments_lead : (is_tag : Bytes → Bool) (ss : List Segment) → is_empty ss ≡ false → every (every plain_element) ss ≡ true → every (tagged is_tag) ss ≡ true
        → Leads m (plain_row m Tag f) (segments_left ss)
    segments_lead is_tag [] some ok tags = absurd (true≢false some)
    segments_lead is_tag (s ∷ ss) some ok tags =
        let k = and_parts (every plain_element s) (every (every plain_element) ss) ok in
        let t = and_parts (tagged is_tag s) (every (tagged is_tag) ss) tags in
        first_segment_leads s ss (tagged_some is_tag s t.0) k.0 (after_segment_leads is_tag ss k.1 t.1)

    -- the count of format 09 and its payload, in a message that is not too long
    pub count_leads : length m ≤ longest → (n payload : Bytes) → count n ≡ true → value n ≡ length payload
        → Leads m (plain_row m CountValue f) (rowed value_row f n ∷ mark GS ∷ rowed body_row f payload ∷ mark RS ∷ later)
    unfolding following plain digit between count
    count_leads short n payload ok counts =
        let ds = (and_parts (long_as (1 to 15) n) (every digit n) ok).1 in
        let ps = rowed body_row f payload ∷ mark RS ∷ later in
        plain_leads m CountValue f n (mark GS ∷ ps) (every_implies digit plain digit_plain n ds) refl λ start h.
        let left = bytes_of (mark GS ∷ ps) in
        let small : value n < longest = omega (arith, ap length h, length-drop start m, length-append n left, length-append payload (RS ∷ bytes_of later)) in
        let says : count_from 0 (drop start m) ≡ length payload = ap (count_from 0) h ∙ count_stops 0 n left ds refl small ∙ counts in
        mark_leads m (λ at. standing Body f at (count_from 0 (drop start m))) GS ps
        (λ at h'. body_yields later next at (count_from 0 (drop start m)) payload says h')
