-- What the items of a good message are rendered to is that message. By walking its parts from the last to the first: the marks before each row are
-- those that its kind, its format and the kind of the row before ask for, so what follows a row is what is rendered behind it.
use Prim.Native.Nat.{ℕ, ◌≤◌}
use mathlib.Core.Path.{◌≡◌, refl, sym, ap, ◌∙◌, subst, subst⁻¹}
use mathlib.Core.Bool.{Bool, true, false, not, ◌||◌, cond, false≢true, true≢false}
use mathlib.Core.List.{List, [], ◌∷◌, ◌++◌, map, append_assoc}
use native.Mathlib.Omega.{arith}
use borrow.Author.Tests.{le-leb, ne_eqb, not-true}
use lib.ListN.{drop}
use Rattle.std.proofs.lemmas.Bool.{and_parts}
use Rattle.std.specs.Cmp.Derive.{both_true}
use Rattle.label.specs.declared.Limit.{Limit}
use Rattle.label.specs.Bytes.{Bytes, EOT, FS, GS, RS, US, every, is_empty}
use Rattle.label.specs.Values.{version_digits, header_values}
use Rattle.label.specs.Segments.{Element, Segment, tagged}
use Rattle.label.specs.declared.Edition.{Edition}
use Rattle.label.specs.Formats.{as_counted, widest, rule_of}
use Rattle.label.specs.Layout.{Part, mark, marks, bytes_of, items_of, further, separated, ended}
use Rattle.label.specs.Envelope.{Envelope, fields, whole_rest, segments, elements, text, counted, plain_element, Within}
use Rattle.label.specs.Written.{indicator_row, value_row, piece_row, tag_row, element_row, sub_element_row, body_row, rowed, rowed_each, two_digits, indicator, element_parts, segment_parts, value_parts, parts}
use Rattle.label.specs.Message.{header, is_rest, is_rest_alone, message_parts, message, Each, Good}
use Rattle.label.specs.Rendered.{before_value, closing, marks_between, ending, rendered_after, rendered}
use Rattle.label.proofs.Editions.{known_in_widest}
use Rattle.label.proofs.Laid.{bytes_append, bytes_marks, format_of}

items_behind_marks : (ms : Bytes) (ps : List Part) → items_of (marks ms ++ ps) ≡ items_of ps
items_behind_marks [] ps = refl
items_behind_marks (b ∷ ms) ps = items_behind_marks ms ps

-- an envelope but for its indicator
abbrev inner : Envelope → List Part
inner e = drop 1 (parts e)

begins : (e : Envelope) → parts e ≡ indicator (format_of e) ∷ inner e
unfolding parts
begins (fields f v fs) = refl
begins (whole_rest f body) = refl
begins (segments f h ss) = refl
begins (elements f es) = refl
begins (text f body) = refl
begins (counted f vs n payload) = refl

-- envelopes, each ended by RS, then EOT
abbrev to_end : List Envelope → List Part
to_end es = ended RS (map parts es) ++ (mark EOT ∷ [])

to_end_cons : (e : Envelope) (es : List Envelope) → to_end (e ∷ es) ≡ indicator (format_of e) ∷ (inner e ++ (mark RS ∷ to_end es))
to_end_cons e es = append_assoc (parts e) (mark RS ∷ ended RS (map parts es)) (mark EOT ∷ []) ∙ ap (λ ps. ps ++ (mark RS ∷ to_end es)) (begins e)

module _ (edition : Edition) where
  -- parts are what is rendered behind a row of a kind in a format, whatever that row's content
  abbrev Behind : ℕ → ℕ → List Part → Type 0
  Behind p g ps = (bs : Bytes) → bytes_of ps ≡ rendered_after (record { kind = p; format = g; content = bs }) (items_of ps)

  -- a row with the marks that it asks for
  row_behind : (p g k f : ℕ) (ms bs : Bytes) (tail : List Part) → marks_between (rule_of widest f) p k ≡ ms → Behind k f tail → Behind p g (marks ms ++ (rowed k f bs ∷ tail))
  unfolding rendered_after
  row_behind p g k f ms bs tail asked behind before =
      bytes_append (marks ms) (rowed k f bs ∷ tail)
      ∙ (λ i. (bytes_marks ms ∙ sym asked) i ++ (bs ++ behind bs i))
      ∙ ap (rendered_after (record { kind = p; format = g; content = before })) (sym (items_behind_marks ms (rowed k f bs ∷ tail)))

  module _ (f : ℕ) where
    -- rows of one kind, each behind a separator: the first behind a row of kind p, the others behind one another
    rows_behind : (p k separator : ℕ) (tail : List Part) (pieces : List Bytes) → marks_between (rule_of widest f) p k ≡ separator ∷ []
        → marks_between (rule_of widest f) k k ≡ separator ∷ []
        → Behind p f tail → Behind k f tail → Behind p f (further separator (rowed_each k f pieces) ++ tail)
    rows_behind p k separator tail [] first later none some = none
    rows_behind p k separator tail (bs ∷ pieces) first later none some =
        row_behind p f k f (separator ∷ []) bs (further separator (rowed_each k f pieces) ++ tail) first (rows_behind k k separator tail pieces later later some some)

    -- pieces with GS between them, the first behind its own marks
    pieces_behind : (p : ℕ) (ms bs : Bytes) (pieces : List Bytes) (tail : List Part) → marks_between (rule_of widest f) p piece_row ≡ ms → Behind piece_row f tail
        → Behind p f (marks ms ++ (separated GS (rowed_each piece_row f (bs ∷ pieces)) ++ tail))
    unfolding marks_between
    pieces_behind p ms bs pieces tail asked behind =
        row_behind p f piece_row f ms bs (further GS (rowed_each piece_row f pieces) ++ tail) asked (rows_behind piece_row piece_row GS tail pieces refl refl behind behind)

    -- Segments

    -- the same behind a row of any kind that a segment may end with
    abbrev BehindSegment : List Part → Type 0
    BehindSegment ps = (p : ℕ) → tag_row ≤ p → p ≤ sub_element_row → Behind p f ps

    elements_behind : (es : List Element) (tail : List Part) → every plain_element es ≡ true → BehindSegment tail
        → BehindSegment (further GS (map (element_parts element_row f) es) ++ tail)
    unfolding marks_between
    elements_behind [] tail plains behind p least most = behind p least most
    elements_behind ([] ∷ es) tail plains behind p least most = absurd (false≢true plains)
    elements_behind ((s ∷ ss) ∷ es) tail plains behind p least most =
        let later = further GS (map (element_parts element_row f) es) in
        let next = elements_behind es tail (and_parts (plain_element (s ∷ ss)) (every plain_element es) plains).1 behind in
        subst⁻¹ (λ (ps : List Part). Behind p f (mark GS ∷ rowed element_row f s ∷ ps)) (append_assoc (further US (rowed_each sub_element_row f ss)) later tail)
        (row_behind p f element_row f (GS ∷ []) s (further US (rowed_each sub_element_row f ss) ++ (later ++ tail)) refl
        (rows_behind element_row sub_element_row US (later ++ tail) ss refl refl (next element_row (omega arith) (omega arith)) (next sub_element_row (omega arith) (omega arith))))

    segment_behind : (p : ℕ) (ms : Bytes) (is_tag : Bytes → Bool) (s : Segment) (tail : List Part) → marks_between (rule_of widest f) p tag_row ≡ ms
        → every plain_element s ≡ true → tagged is_tag s ≡ true → BehindSegment tail → Behind p f (marks ms ++ (segment_parts f s ++ tail))
    unfolding tagged
    segment_behind p ms is_tag [] tail asked plains tag behind = absurd (false≢true tag)
    segment_behind p ms is_tag ([] ∷ es) tail asked plains tag behind = absurd (false≢true tag)
    segment_behind p ms is_tag ((t ∷ []) ∷ es) tail asked plains tag behind =
        row_behind p f tag_row f ms t (further GS (map (element_parts element_row f) es) ++ tail) asked
        (elements_behind es tail (and_parts (plain_element (t ∷ [])) (every plain_element es) plains).1 behind tag_row (omega arith) (omega arith))
    segment_behind p ms is_tag ((t ∷ (s ∷ ss)) ∷ es) tail asked plains tag behind = absurd (false≢true tag)

    -- the FS that ends a segment, and the segments behind it
    segments_behind : (is_tag : Bytes → Bool) (ss : List Segment) (tail : List Part) → every (every plain_element) ss ≡ true → every (tagged is_tag) ss ≡ true
        → BehindSegment (mark FS ∷ tail) → BehindSegment (mark FS ∷ (ended FS (map (segment_parts f) ss) ++ tail))
    unfolding marks_between
    segments_behind is_tag [] tail plains tags behind p least most = behind p least most
    segments_behind is_tag (s ∷ ss) tail plains tags behind p least most =
        let later = mark FS ∷ ended FS (map (segment_parts f) ss) in
        let k = and_parts (every plain_element s) (every (every plain_element) ss) plains in
        let l = and_parts (tagged is_tag s) (every (tagged is_tag) ss) tags in
        subst⁻¹ (λ (ps : List Part). Behind p f (mark FS ∷ ps)) (append_assoc (segment_parts f s) later tail)
        (segment_behind p (FS ∷ []) is_tag s (later ++ tail) (ap (λ t. cond t (FS ∷ GS ∷ US ∷ []) (FS ∷ [])) (ne_eqb p value_row (λ is. omega arith))) k.0 l.0
        (segments_behind is_tag ss tail k.1 l.1 behind))

  -- Envelopes

  -- what follows an envelope of a format, behind its last row
  abbrev BehindEnvelope : ℕ → List Part → Type 0
  BehindEnvelope f rest = (k : ℕ) → Behind k f (marks (closing k) ++ rest)

  -- the kind of a row that a segment ends with asks for FS before the RS
  segment_closes : (f : ℕ) (rest : List Part) → BehindEnvelope f rest → BehindSegment f (mark FS ∷ mark RS ∷ rest)
  segment_closes f rest behind p least most =
      subst (λ (t : Bool). Behind p f (marks (cond t (FS ∷ RS ∷ []) (RS ∷ [])) ++ rest)) (both_true (le-leb tag_row p least) (le-leb p sub_element_row most)) (behind p)

  -- header values, the count and the payload stand as they are rendered behind an indicator
  module _ (f : ℕ) (n payload : Bytes) (rest : List Part) (behind : Behind body_row f (mark RS ∷ rest)) where
    abbrev count_parts : List Part
    count_parts = rowed value_row f n ∷ mark GS ∷ rowed body_row f payload ∷ mark RS ∷ rest

    count_behind : (p : ℕ) (ms : Bytes) → marks_between (rule_of widest f) p value_row ≡ ms → Behind p f (marks ms ++ count_parts)
    unfolding marks_between
    count_behind p ms asked =
        row_behind p f value_row f ms n (mark GS ∷ rowed body_row f payload ∷ mark RS ∷ rest) asked (row_behind value_row f body_row f (GS ∷ []) payload (mark RS ∷ rest) refl behind)

    values_behind : ((p : ℕ) → marks_between (rule_of widest f) p value_row ≡ GS ∷ []) → (p : ℕ) (v : Bytes) (vs : List Bytes)
        → Behind p f (mark GS ∷ (ended GS (rowed_each value_row f (v ∷ vs)) ++ count_parts))
    values_behind asked p v [] = row_behind p f value_row f (GS ∷ []) v (mark GS ∷ count_parts) (asked p) (count_behind value_row (GS ∷ []) (asked value_row))
    values_behind asked p v (u ∷ us) =
        row_behind p f value_row f (GS ∷ []) v (mark GS ∷ (ended GS (rowed_each value_row f (u ∷ us)) ++ count_parts)) (asked p) (values_behind asked value_row u us)

  counted_behind : (f : ℕ) (limits : List Limit) (vs : List Bytes) (n payload : Bytes) (rest : List Part) → rule_of widest f ≡ as_counted limits → header_values limits vs ≡ true
      → Behind body_row f (mark RS ∷ rest) → Behind indicator_row f (value_parts f vs ++ (rowed value_row f n ∷ mark GS ∷ rowed body_row f payload ∷ mark RS ∷ rest))
  unfolding marks_between
  counted_behind f [] [] n payload rest known are behind = count_behind f n payload rest behind indicator_row [] (ap before_value known)
  counted_behind f [] (v ∷ vs) n payload rest known are behind = absurd (false≢true are)
  counted_behind f (l ∷ ls) [] n payload rest known are behind = absurd (false≢true are)
  counted_behind f (l ∷ ls) (v ∷ vs) n payload rest known are behind = values_behind f n payload rest behind (λ p. ap before_value known) indicator_row v vs

  -- header and body of an envelope stand as they are rendered behind its indicator
  envelope_behind : (e : Envelope) (rest : List Part) → Within edition e → is_rest e ≡ false → BehindEnvelope (format_of e) rest
      → Behind indicator_row (format_of e) (inner e ++ (mark RS ∷ rest))
  unfolding parts marks_between
  envelope_behind (fields f v []) rest w closed behind =
      row_behind indicator_row f value_row f (GS ∷ []) (version_digits v) (mark RS ∷ rest) (ap before_value (known_in_widest edition f _ w.known refl)) (behind value_row)
  envelope_behind (fields f v (p ∷ ps)) rest w closed behind =
      row_behind indicator_row f value_row f (GS ∷ []) (version_digits v) (separated GS (rowed_each piece_row f (p ∷ ps)) ++ (mark RS ∷ rest)) (ap before_value (known_in_widest edition f _ w.known refl))
      (pieces_behind f value_row [] p ps (mark RS ∷ rest) refl (behind piece_row))
  envelope_behind (whole_rest f body) rest w closed behind = absurd (true≢false closed)
  envelope_behind (segments f h []) rest w closed behind = absurd (true≢false w.one_or_more)
  envelope_behind (segments f h (s ∷ ss)) rest w closed behind =
      let later = mark FS ∷ ended FS (map (segment_parts f) ss) in
      let k = and_parts (every plain_element s) (every (every plain_element) ss) w.plain_bytes in
      let l = and_parts (tagged w.is_tag s) (every (tagged w.is_tag) ss) w.all_tagged in
      subst⁻¹ (λ (ps : List Part). Behind indicator_row f (rowed value_row f h ∷ mark FS ∷ mark GS ∷ mark US ∷ ps)) (append_assoc (segment_parts f s) later (mark RS ∷ rest))
      (row_behind indicator_row f value_row f [] h (mark FS ∷ mark GS ∷ mark US ∷ (segment_parts f s ++ (later ++ (mark RS ∷ rest)))) (ap before_value (known_in_widest edition f _ w.known refl))
      (segment_behind f value_row (FS ∷ GS ∷ US ∷ []) w.is_tag s (later ++ (mark RS ∷ rest)) refl k.0 l.0
      (segments_behind f w.is_tag ss (mark RS ∷ rest) k.1 l.1 (segment_closes f rest behind))))
  envelope_behind (elements f []) rest w closed behind = absurd (true≢false w.one_or_more)
  envelope_behind (elements f (p ∷ ps)) rest w closed behind = pieces_behind f indicator_row (GS ∷ []) p ps (mark RS ∷ rest) refl (behind piece_row)
  envelope_behind (text f body) rest w closed behind = row_behind indicator_row f body_row f [] body (mark RS ∷ rest) refl (behind body_row)
  envelope_behind (counted f vs n payload) rest w closed behind =
      subst⁻¹ (Behind indicator_row f) (append_assoc (value_parts f vs) (rowed value_row f n ∷ mark GS ∷ rowed body_row f payload ∷ []) (mark RS ∷ rest))
      (counted_behind f w.limits vs n payload rest (known_in_widest edition f _ w.known refl) w.are_values (behind body_row))

  -- the format of an envelope that doesn't take all the rest asks for the message's end
  ends : (e : Envelope) → Within edition e → is_rest e ≡ false → (k : ℕ) → ending (rule_of widest (format_of e)) k ≡ closing k ++ (EOT ∷ [])
  ends (fields f v fs) w closed k = ap (λ r. ending r k) (known_in_widest edition f _ w.known refl)
  ends (whole_rest f body) w closed k = absurd (true≢false closed)
  ends (segments f h ss) w closed k = ap (λ r. ending r k) (known_in_widest edition f _ w.known refl)
  ends (elements f es) w closed k = ap (λ r. ending r k) (known_in_widest edition f _ w.known refl)
  ends (text f body) w closed k = ap (λ r. ending r k) (known_in_widest edition f _ w.known refl)
  ends (counted f vs n payload) w closed k = ap (λ r. ending r k) (known_in_widest edition f _ w.known refl)

  -- what follows an envelope, to the message's end
  envelopes_behind : (e : Envelope) (es : List Envelope) → Each (Within edition) (e ∷ es) → every (λ e. not (is_rest e)) (e ∷ es) ≡ true → BehindEnvelope (format_of e) (to_end es)
  unfolding marks_between rendered_after
  envelopes_behind e [] within closed k before =
      let c = and_parts (not (is_rest e)) true closed in
      bytes_append (marks (closing k)) (mark EOT ∷ [])
      ∙ ap (λ ms. ms ++ (EOT ∷ [])) (bytes_marks (closing k))
      ∙ sym (ends e within.0 (not-true (is_rest e) c.0) k)
      ∙ ap (rendered_after (record { kind = k; format = format_of e; content = before })) (sym (items_behind_marks (closing k) (mark EOT ∷ [])))
  envelopes_behind e (e' ∷ es) within closed k before =
      let c = and_parts (not (is_rest e)) (every (λ e. not (is_rest e)) (e' ∷ es)) closed in
      let c' = and_parts (not (is_rest e')) (every (λ e. not (is_rest e)) es) c.1 in
      subst⁻¹ (λ (ps : List Part). Behind k (format_of e) (marks (closing k) ++ ps)) (to_end_cons e' es)
      (row_behind k (format_of e) indicator_row (format_of e') (closing k) (two_digits (format_of e')) (inner e' ++ (mark RS ∷ to_end es)) refl
      (envelope_behind e' (to_end es) within.1.0 (not-true (is_rest e') c'.0) (envelopes_behind e' es within.1 c.1))) before

  -- a message that ends with EOT, and one whose envelope takes all the rest
  closed_rendered : (e : Envelope) (es : List Envelope) → Each (Within edition) (e ∷ es) → every (λ e. not (is_rest e)) (e ∷ es) ≡ true
      → rendered (items_of (marks header ++ to_end (e ∷ es))) ≡ bytes_of (marks header ++ to_end (e ∷ es))
  unfolding rendered
  closed_rendered e es within closed =
      let c = and_parts (not (is_rest e)) (every (λ e. not (is_rest e)) es) closed in
      subst⁻¹ (λ (ps : List Part). rendered (items_of (marks header ++ ps)) ≡ bytes_of (marks header ++ ps)) (to_end_cons e es)
      (ap (λ r. header ++ (two_digits (format_of e) ++ r))
      (sym (envelope_behind e (to_end es) within.0 (not-true (is_rest e) c.0) (envelopes_behind e es within closed) (two_digits (format_of e)))))

  alone_rendered : (e : Envelope) → Within edition e → is_rest e ≡ true → rendered (items_of (marks header ++ (parts e ++ []))) ≡ bytes_of (marks header ++ (parts e ++ []))
  unfolding rendered rendered_after marks_between parts
  alone_rendered (fields f v fs) w is = absurd (false≢true is)
  alone_rendered (whole_rest f body) w is = ap (λ r. header ++ (two_digits f ++ (body ++ ending r body_row))) (known_in_widest edition f _ w.known refl)
  alone_rendered (segments f h ss) w is = absurd (false≢true is)
  alone_rendered (elements f es) w is = absurd (false≢true is)
  alone_rendered (text f body) w is = absurd (false≢true is)
  alone_rendered (counted f vs n payload) w is = absurd (false≢true is)

  by_place : (es : List Envelope) (t : Bool) → is_rest_alone es ≡ t → is_empty es ≡ false → Each (Within edition) es → (t || every (λ e. not (is_rest e)) es) ≡ true
      → rendered (items_of (message_parts es)) ≡ message es
  unfolding message message_parts
  by_place [] t is some within or = absurd (true≢false some)
  by_place (e ∷ []) true is some within or =
      subst⁻¹ (λ (b : Bool). rendered (items_of (marks header ++ cond b (parts e ++ []) (to_end (e ∷ []))))
      ≡ bytes_of (marks header ++ cond b (parts e ++ []) (to_end (e ∷ [])))) is
      (alone_rendered e within.0 is)
  by_place (e ∷ (e' ∷ es)) true is some within or = absurd (false≢true is)
  by_place (e ∷ es) false is some within or =
      subst⁻¹ (λ (b : Bool). rendered (items_of (marks header ++ cond b (separated RS (map parts (e ∷ es))) (to_end (e ∷ es))))
      ≡ bytes_of (marks header ++ cond b (separated RS (map parts (e ∷ es))) (to_end (e ∷ es)))) is
      (closed_rendered e es within or)

-- the items of a good message are rendered to that message
pub rendered_good : (edition : Edition) (m : Bytes) (es : List Envelope) → Good edition m es → rendered (items_of (message_parts es)) ≡ m
rendered_good edition m es good = by_place edition es (is_rest_alone es) refl good.one_or_more good.within good.only_alone ∙ good.writes_out
