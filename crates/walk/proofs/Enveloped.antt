-- The walk over an envelope within the rules, and over the envelopes of a message.
use Prim.Native.Nat.{ℕ, ◌≤◌}
use mathlib.Core.Path.{◌≡◌, refl, sym, ap, ◌∙◌, subst}
use mathlib.Core.Bool.{true, false, not, ◌&&◌, false≢true, true≢false}
use mathlib.Core.Logic.{◌⊎◌, inl, inr}
use mathlib.Core.List.{List, [], ◌∷◌, ◌++◌, map, append_assoc, append-nil}
use native.Mathlib.Omega.{arith}
use borrow.Author.Tests.{leb-true, not-true}
use lib.ListN.{length}
use lib.Dec.{leb}
use Rattle.std.proofs.lemmas.Bool.{and_parts}
use Rattle.label.specs.declared.Limit.{Limit}
use Rattle.label.specs.Bytes.{Bytes, EOT, FS, GS, RS, US, plain, capital_or_digit, every}
use Rattle.label.specs.Limits.{longest, long_as, ◌to◌}
use Rattle.label.specs.Values.{version_digits, release_length, release, header_value, header_values}
use Rattle.label.specs.declared.Version.{Version}
use Rattle.label.specs.declared.Version.TheVariants.{Version02, Version96}
use Rattle.label.specs.Fields.{transport}
use Rattle.label.specs.declared.Edition.{Edition}
use Rattle.label.specs.Formats.{as_fields, as_rest, as_segments, as_elements, as_text, as_counted, unknown, Rule, widest, rule_of}
use Rattle.label.specs.Layout.{Part, mark, marks, bytes_of, separated, ended}
use Rattle.label.specs.Envelope.{Envelope, fields, whole_rest, segments, elements, text, counted, Within}
use Rattle.label.specs.Written.{value_row, body_row, piece_row, rowed, rowed_each, indicator, segment_parts, value_parts, parts}
use Rattle.label.specs.Message.{is_rest, Each}
use Rattle.label.proofs.Tests.{free_of}
use Rattle.label.proofs.Editions.{each_rule, known_in_widest}
use Rattle.label.proofs.EnvelopeComplete.{text_without}
use Rattle.leaves.specs.Seek.{seek}
use Rattle.walk.specs.declared.Stage.TheVariants.{VersionValue, ReleaseValue, TypeValue, CompressionValue, CountValue, Piece, Tag, Body}
use Rattle.walk.specs.Cursors.{standing, plain_row, indicator_at, opening, following}
use Rattle.walk.proofs.Walks.{Leads, marks_lead, mark_leads, row_yields}
use Rattle.walk.proofs.Shaped.{seek_stops, indicator_leads, pieces_lead, body_yields, segments_lead, value_leads, count_leads}

version_wide : (v : Version) → 2 ≡ length (version_digits v)
version_wide Version02 = refl
version_wide Version96 = refl

release_wide : (six : Bytes) → release six ≡ true → release_length ≡ length six
unfolding release long_as
release_wide six ok =
    let k = and_parts (leb 6 (length six)) (leb (length six) 6) (and_parts (long_as (6 to 6) six) (every capital_or_digit six) ok).0 in
    omega (arith, leb-true 6 (length six) k.0, leb-true (length six) 6 k.1)

-- a counted format has two header values in front of its count, or none
abbrev values_before : Rule → ℕ
values_before as_fields = 0
values_before (as_rest permitted) = 0
values_before (as_segments is_tag) = 0
values_before (as_elements is_element) = 0
values_before (as_text permitted) = 0
values_before (as_counted limits) = length limits
values_before unknown = 0

abbrev TwoOrNone : Rule → Type 0
TwoOrNone rule = (values_before rule ≡ 0) ⊎ (values_before rule ≡ 2)

two_or_none : (f : ℕ) (limits : List Limit) → rule_of widest f ≡ as_counted limits → TwoOrNone (as_counted limits)
two_or_none f limits is =
    subst TwoOrNone is
    (each_rule TwoOrNone (inl refl) widest f (inl refl, (inl refl, (inl refl, (inl refl, (inl refl, (inl refl, (inl refl, (inr refl, (inl refl, (inl refl, tt)))))))))))

module _ (m : Bytes) (f : ℕ) (tail : List Part) (count_due : Leads m (plain_row m CountValue f) tail) where
  -- type and compression
  two_lead : (k l : Limit) (t c : Bytes) → rule_of widest f ≡ as_counted (k ∷ l ∷ []) → header_value k t ≡ true → header_value l c ≡ true
      → Leads m (indicator_at m) (indicator f ∷ (value_parts f (t ∷ c ∷ []) ++ tail))
  unfolding opening following header_value
  two_lead k l t c known is_type is_compression =
      let ps₂ = rowed value_row f c ∷ mark GS ∷ tail in
      let ps₁ = rowed value_row f t ∷ mark GS ∷ ps₂ in
      indicator_leads m f (as_counted (k ∷ l ∷ [])) (mark GS ∷ ps₁) known
      (mark_leads m (plain_row m TypeValue f) GS ps₁
      (value_leads m f TypeValue CompressionValue (λ start end. refl) t (and_parts (long_as k t) (every plain t) is_type).1 ps₂
      (value_leads m f CompressionValue CountValue (λ start end. refl) c (and_parts (long_as l c) (every plain c) is_compression).1 tail count_due)))

  counted_leads : (limits : List Limit) (vs : List Bytes) → TwoOrNone (as_counted limits) → rule_of widest f ≡ as_counted limits → header_values limits vs ≡ true
      → Leads m (indicator_at m) (indicator f ∷ (value_parts f vs ++ tail))
  unfolding opening
  counted_leads [] [] of known are = indicator_leads m f (as_counted []) tail known count_due
  counted_leads [] (v ∷ vs) of known are = absurd (false≢true are)
  counted_leads (k ∷ []) vs (inl is) known are = absurd (omega arith)
  counted_leads (k ∷ []) vs (inr is) known are = absurd (omega arith)
  counted_leads (k ∷ (l ∷ [])) [] of known are = absurd (false≢true are)
  counted_leads (k ∷ (l ∷ [])) (t ∷ []) of known are = absurd (false≢true (and_parts (header_value k t) false are).1)
  counted_leads (k ∷ (l ∷ [])) (t ∷ (c ∷ [])) of known are =
      let h = and_parts (header_value k t) (header_value l c && true) are in
      two_lead k l t c known h.0 (and_parts (header_value l c) true h.1).0
  counted_leads (k ∷ (l ∷ [])) (t ∷ (c ∷ (v ∷ vs))) of known are =
      absurd (false≢true (and_parts (header_value l c) false (and_parts (header_value k t) (header_value l c && false) are).1).1)
  counted_leads (k ∷ (l ∷ (j ∷ ls))) vs (inl is) known are = absurd (omega arith)
  counted_leads (k ∷ (l ∷ (j ∷ ls))) vs (inr is) known are = absurd (omega arith)

module _ (edition : Edition) (m : Bytes) (short : length m ≤ longest) where
  module _ (later : List Part) (next : Leads m (indicator_at m) later) where
    envelope_leads : (e : Envelope) → Within edition e → is_rest e ≡ false → Leads m (indicator_at m) (parts e ++ (mark RS ∷ later))
    unfolding parts opening following transport
    envelope_leads (fields f v []) w closed = absurd (false≢true w.as_stated)
    envelope_leads (fields f v (p ∷ ps)) w closed =
        let k = and_parts (every plain p) (every (every plain) ps) w.plain_bytes in
        let qs = separated GS (rowed_each piece_row f (p ∷ ps)) ++ (mark RS ∷ later) in
        indicator_leads m f as_fields (mark GS ∷ rowed value_row f (version_digits v) ∷ qs) (known_in_widest edition f _ w.known refl)
        (mark_leads m (λ at. standing VersionValue f at 2) GS (rowed value_row f (version_digits v) ∷ qs) λ at h.
        row_yields m VersionValue f at 2 (version_digits v) qs (version_wide v) h (pieces_lead m f later next p ps k.0 k.1))
    envelope_leads (whole_rest f body) w closed = absurd (true≢false closed)
    envelope_leads (segments f six ss) w closed =
        let qs = ended FS (map (segment_parts f) ss) ++ (mark RS ∷ later) in
        let bs = FS ∷ GS ∷ US ∷ [] in
        indicator_leads m f (as_segments w.is_tag) (rowed value_row f six ∷ (marks bs ++ qs)) (known_in_widest edition f _ w.known refl) λ at h.
        row_yields m ReleaseValue f at release_length six (marks bs ++ qs) (release_wide six w.six_bytes) h
        (marks_lead m (plain_row m Tag f) bs qs (segments_lead m f later next w.is_tag ss w.one_or_more w.plain_bytes w.all_tagged))
    envelope_leads (elements f []) w closed = absurd (true≢false w.one_or_more)
    envelope_leads (elements f (p ∷ ps)) w closed =
        let k = and_parts (every plain p) (every (every plain) ps) w.plain_bytes in
        let qs = separated GS (rowed_each piece_row f (p ∷ ps)) ++ (mark RS ∷ later) in
        indicator_leads m f (as_elements w.is_element) (mark GS ∷ qs) (known_in_widest edition f _ w.known refl)
        (mark_leads m (plain_row m Piece f) GS qs (pieces_lead m f later next p ps k.0 k.1))
    envelope_leads (text f body) w closed =
        let ok = free_of RS w.permitted (text_without edition f w.permitted w.known) body w.permitted_bytes in
        indicator_leads m f (as_text w.permitted) (rowed body_row f body ∷ mark RS ∷ later) (known_in_widest edition f _ w.known refl) λ at h.
        body_yields m f later next at _ body (ap (λ bs. seek RS bs) h ∙ seek_stops RS body (bytes_of later) ok refl) h
    envelope_leads (counted f vs n payload) w closed =
        let known = known_in_widest edition f _ w.known refl in
        subst (λ (ps : List Part). Leads m (indicator_at m) (indicator f ∷ ps)) (sym (append_assoc (value_parts f vs) (rowed value_row f n ∷ mark GS ∷ rowed body_row f payload ∷ []) (mark RS ∷ later)))
        (counted_leads m f (rowed value_row f n ∷ mark GS ∷ rowed body_row f payload ∷ mark RS ∷ later) (count_leads m f later next short n payload w.is_count w.counts)
        w.limits vs (two_or_none f w.limits known) known w.are_values)

  pub envelopes_lead : (es : List Envelope) → Each (Within edition) es → every (λ e. not (is_rest e)) es ≡ true → Leads m (indicator_at m) (ended RS (map parts es) ++ (mark EOT ∷ []))
  envelopes_lead [] within closed = λ at h. tt
  envelopes_lead (e ∷ es) within closed =
      let k = and_parts (not (is_rest e)) (every (λ e. not (is_rest e)) es) closed in
      let later = ended RS (map parts es) ++ (mark EOT ∷ []) in
      subst (Leads m (indicator_at m)) (sym (append_assoc (parts e) (mark RS ∷ ended RS (map parts es)) (mark EOT ∷ [])))
      (envelope_leads later (envelopes_lead es within.1 k.1) e within.0 (not-true (is_rest e) k.0))

  -- the one envelope of format 02
  pub alone_leads : (e : Envelope) → Within edition e → is_rest e ≡ true → Leads m (indicator_at m) (parts e)
  unfolding parts opening
  alone_leads (fields f v fs) w is = absurd (false≢true is)
  alone_leads (whole_rest f body) w is =
      indicator_leads m f (as_rest w.permitted) (rowed body_row f body ∷ []) (known_in_widest edition f _ w.known refl) λ at h.
      row_yields m Body f at _ body [] (ap length (h ∙ append-nil body)) h λ end h'. tt
  alone_leads (segments f six ss) w is = absurd (false≢true is)
  alone_leads (elements f es) w is = absurd (false≢true is)
  alone_leads (text f body) w is = absurd (false≢true is)
  alone_leads (counted f vs n payload) w is = absurd (false≢true is)
