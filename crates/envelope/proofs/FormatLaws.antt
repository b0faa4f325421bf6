-- What reading each format behind its indicator shows is what is found of it by offsets.
use Rattle.std.specs.Prelude.{None, Some, Option}
use Prim.Native.Nat.{ℕ, suc, ◌+◌, ◌-◌, ◌≤◌, ◌<◌}
use mathlib.Core.Path.{◌≡◌, refl, sym, ap, ◌∙◌}
use mathlib.Core.Bool.{Bool, true, false, not, ◌&&◌, cond}
use mathlib.Core.List.{[], ◌∷◌, ◌++◌, List}
use native.Mathlib.Omega.{arith}
use borrow.Author.Tests.{le-leb, lt-leb, ltb-true, ltb-false, lt-ltb, le-ltb, eqb-true, eqb-false}
use lib.ListN.{length, get_or, take, drop, take-append-drop, length-take, length-drop}
use lib.Seq.{drop-drop, length-take-le}
use lib.Dec.{leb, ltb, eqb, eqb-zero-suc, eqb-suc-suc}
use Rattle.std.proofs.lemmas.Bool.{and_parts, cond-true, cond-false}
use Rattle.std.specs.Cmp.Derive.{both_true}
use Rattle.label.specs.declared.Reason.{Reason}
use Rattle.label.specs.declared.Reason.TheVariants.{BadFormatHeader, PayloadDoesNotFit, ByteNotPermitted, BodyBreaksRules, NoRecordSeparator}
use Rattle.label.specs.Bytes.{Bytes, ascii, FS, GS, RS, US, plain, digit, capital_or_digit, every, is_empty}
use Rattle.label.specs.Limits.{long_as, ◌to◌}
use Rattle.label.specs.Pieces.{pieces, last_is_empty, Cut, cut}
use Rattle.label.specs.Values.{version_digits, release_length, release, type_length, compression_length, header_value, count, value}
use Rattle.label.specs.declared.Version.{Version}
use Rattle.label.specs.declared.Version.TheVariants.{Version02, Version96}
use Rattle.label.specs.Faults.{elements_fault, whole_fault, in_piece}
use Rattle.label.specs.Segments.{tagged}
use Rattle.label.specs.Formats.{rest_byte, text_byte}
use Rattle.label.specs.Envelope.{Envelope, fields, whole_rest, segments, elements, text, counted}
use Rattle.label.specs.Layout.{mark}
use Rattle.label.specs.Written.{body_row, piece_row, parts, value_parts, rowed, value_row}
use Rattle.label.specs.ReadEnvelope.{Step, closed, whole, refuse, must, opened, valued_at, valued, broken, body_at, bodied, plain_or_gs, segment_byte, version_of, read_fields, read_transport, read_rest, segments_in, are_segments, read_segments, read_elements, read_text, read_payload, read_values, read_count, read_counted}
use Rattle.label.specs.ReadMessage.{agreement}
use Rattle.label.proofs.EnvelopeSound.{version_so}
use Rattle.label.proofs.ReadingSound.{begins}
use Rattle.leaves.specs.Seek.{seek, tally_of}
use Rattle.pieces.specs.declared.Kind.{Kind}
use Rattle.pieces.specs.declared.Kind.TheVariants.{Fields, Text}
use Rattle.pieces.proofs.SeekLaws.{cut_found, cut_absent}
use Rattle.bodies.specs.Kinds.{permitted_of, rules_of, rows_of_body}
use Rattle.bodies.proofs.RuleLaws.{pieces_count}
use Rattle.bodies.proofs.PieceLaws.{leb_same}
use Rattle.faults.specs.PieceFaults.{fault_of}
use Rattle.faults.proofs.FaultLaws.{fault_inside}
use Rattle.envelope.specs.Judged.{Judged, closed_at, no_envelope, no_envelope_at}
use Rattle.envelope.specs.Shown.{row_count, shown}
use Rattle.envelope.specs.Bodies.{fault_found, body_found}
use Rattle.envelope.specs.Headers.{value_end}
use Rattle.envelope.specs.Formats.{begins_at, transport_found, rest_found, segments_found, elements_found, payload_found, after_value, count_found, count_only_found, compression_found, counted_found}
use Rattle.envelope.proofs.ValueLaws.{begins_long}
use Rattle.envelope.proofs.RowCounts.{items_pieces, rows_segments, items_append, items_values}
use Rattle.label.specs.declared.Refusal.{Refusal}

-- what a refusal unless a test holds shows
shown_must : (m : Bytes) (t : Bool) (r : Reason) (s : Step) → shown m (must t r s) ≡ cond t (shown m s) (no_envelope r)
shown_must m true r s = refl
shown_must m false r s = refl

-- Bodies

module _ (k : Kind) (before : ℕ) (m : Bytes) (at : ℕ) (made : Bytes → Envelope) (inside : at ≤ length m)
    (counts : (body : Bytes) → rules_of k body ≡ true → row_count (made body) ≡ before + rows_of_body k body) where
  -- a body that breaks its rules
  shown_broken : (fault : Option Refusal) → ((r : Reason) (n : ℕ) → fault ≡ in_piece r n → n ≤ length (drop at m)) → shown m (broken (drop at m) fault) ≡ fault_found at fault
  shown_broken (Some fault) fits =
      let least = fits fault.reason fault.place refl in
      let place : length m - length (drop fault.place (drop at m)) ≡ at + fault.place = omega (arith, length-drop fault.place (drop at m), length-drop at m) in
      ap (no_envelope_at fault.reason) place
  shown_broken None fits = refl

  judged_body : (body left : Bytes) (end : ℕ) → length m - length left ≡ end → length body ≤ length (drop at m)
      → shown m (must (every (permitted_of k) body) ByteNotPermitted (cond (rules_of k body) (closed (made body) left) (broken (drop at m) (fault_of k body))))
      ≡ cond (every (permitted_of k) body) (cond (rules_of k body) (closed_at end (before + rows_of_body k body)) (fault_found at (fault_of k body))) (no_envelope ByteNotPermitted)
  judged_body body left end is fits = by (every (permitted_of k) body) (rules_of k body) refl
    where
      by : (s t : Bool) → rules_of k body ≡ t
          → shown m (must s ByteNotPermitted (cond t (closed (made body) left) (broken (drop at m) (fault_of k body))))
          ≡ cond s (cond t (closed_at end (before + rows_of_body k body)) (fault_found at (fault_of k body))) (no_envelope ByteNotPermitted)
      by true true h = λ i. closed_at (is i) (counts body h i)
      by true false h = shown_broken (fault_of k body) (λ r n found. let least = fault_inside k body r n found in omega arith)
      by false t h = refl

  pub shown_body : shown m (bodied (permitted_of k) (rules_of k) (fault_of k) made (drop at m)) ≡ body_found k before m at
  unfolding bodied body_found
  shown_body = by (ltb (seek RS (drop at m)) (length (drop at m))) refl
    where
      bs : Bytes
      bs = drop at m

      n : ℕ
      n = seek RS bs

      step : Cut → Step
      step = body_at (permitted_of k) (rules_of k) (λ body. broken bs (fault_of k body)) made

      by : (t : Bool) → ltb n (length bs) ≡ t → shown m (step (cut RS bs))
          ≡ cond t (cond (every (permitted_of k) (take n bs)) (cond (rules_of k (take n bs)) (closed_at (at + n + 1) (before + rows_of_body k (take n bs))) (fault_found at (fault_of k (take n bs)))) (no_envelope ByteNotPermitted)) (no_envelope NoRecordSeparator)
      by true here =
          let less = ltb-true n (length bs) here in
          let long = length-drop at m in
          let left = length-drop (n + 1) bs in
          ap (λ c. shown m (step c)) (cut_found RS bs less)
          ∙ judged_body (take n bs) (drop (n + 1) bs) (at + n + 1) (omega arith) (omega (arith, length-take n bs))
      by false past = ap (λ c. shown m (step c)) (cut_absent RS bs (ltb-false n (length bs) past))

-- Headers

opened_with : (t : Bool) (hs bs : Bytes) (next : Bytes → Step) → opened hs bs next ≡ cond (eqb (agreement hs bs) (length hs)) (next (drop (length hs) bs)) (refuse BadFormatHeader)
    → must t BadFormatHeader (opened hs bs next) ≡ cond (eqb (cond t (suc (agreement hs bs)) 0) (suc (length hs))) (next (drop (length hs) bs)) (refuse BadFormatHeader)
opened_with true hs bs next later = later ∙ ap (λ t. cond t (next (drop (length hs) bs)) (refuse BadFormatHeader)) (sym (eqb-suc-suc (agreement hs bs) (length hs)))
opened_with false hs bs next later = sym (cond-false _ _ _ (eqb-zero-suc (length hs)))

opened_by : (hs bs : Bytes) (next : Bytes → Step) → opened hs bs next ≡ cond (eqb (agreement hs bs) (length hs)) (next (drop (length hs) bs)) (refuse BadFormatHeader)
opened_by [] bs next = refl
opened_by (h ∷ hs) [] next = sym (cond-false _ _ _ (eqb-zero-suc (length hs)))
opened_by (h ∷ hs) (b ∷ bs) next = opened_with (eqb b h) hs bs next (opened_by hs bs next)

-- a header that bytes begin with, and then what is found behind it
shown_opened : (m hs : Bytes) (at : ℕ) (next : Bytes → Step) (there : Judged) → at ≤ length m → (at + length hs ≤ length m → shown m (next (drop (at + length hs) m)) ≡ there)
    → shown m (opened hs (drop at m) next) ≡ cond (begins_at hs m at) there (no_envelope BadFormatHeader)
shown_opened m hs at next there inside then = ap (shown m) (opened_by hs (drop at m) next) ∙ by (begins_at hs m at) refl
  where
    by : (t : Bool) → begins_at hs m at ≡ t → shown m (cond t (next (drop (length hs) (drop at m))) (refuse BadFormatHeader)) ≡ cond t there (no_envelope BadFormatHeader)
    by true is = ap (λ l. shown m (next l)) (drop-drop (length hs) at m) ∙ then (begins_long hs m at inside (eqb-true _ _ is))
    by false is = refl

-- 05, 06, 12

pieces_rows : (f : ℕ) (body : Bytes) → row_count (elements f (pieces GS body)) ≡ 1 + (tally_of GS body + 1)
unfolding parts
pieces_rows f body = omega (arith, items_pieces GS piece_row f (pieces GS body), pieces_count GS body)

pub shown_elements : (k : Kind) (is_element : Bytes → Bool) (f : ℕ) (m : Bytes) (at : ℕ) → at ≤ length m
    → bodied plain_or_gs (λ body. every is_element (pieces GS body)) (elements_fault is_element) ≡ bodied (permitted_of k) (rules_of k) (fault_of k) → ((body : Bytes) → rows_of_body k body ≡ tally_of GS body + 1)
    → shown m (read_elements is_element f (drop at m)) ≡ elements_found k m at
unfolding read_elements
shown_elements k is_element f m at inside same counts =
    shown_opened m (GS ∷ []) at _ (body_found k 1 m (at + 1)) inside
    (λ long. ap (λ read. shown m (read (λ body. elements f (pieces GS body)) (drop (at + 1) m))) same
    ∙ shown_body k 1 m (at + 1) (λ body. elements f (pieces GS body)) long (λ body kept. pieces_rows f body ∙ ap (λ n. 1 + n) (sym (counts body))))

-- 07

pub shown_text : (f : ℕ) (m : Bytes) (at : ℕ) → at ≤ length m → shown m (read_text text_byte f (drop at m)) ≡ body_found Text 1 m at
unfolding read_text parts
shown_text f m at inside = shown_body Text 1 m at (text f) inside (λ body kept. refl)

-- 02

not_empty : (m : Bytes) (at : ℕ) → not (is_empty (drop at m)) ≡ ltb at (length m)
not_empty m at = by (drop at m) (length-drop at m)
  where
    by : (bs : Bytes) → length bs ≡ length m - at → not (is_empty bs) ≡ ltb at (length m)
    by [] is = sym (le-ltb at (length m) (omega arith))
    by (b ∷ bs) is = sym (lt-ltb at (length m) (omega arith))

pub shown_rest : (f : ℕ) (m : Bytes) (at : ℕ) → shown m (read_rest rest_byte f (drop at m)) ≡ rest_found m at
unfolding read_rest parts
shown_rest f m at =
    shown_must m (not (is_empty (drop at m))) _ _
    ∙ (λ i. cond (not_empty m at i) (shown_must m (every rest_byte (drop at m)) ByteNotPermitted (whole (whole_rest f (drop at m))) i) (no_envelope BodyBreaksRules))

-- 03, 04

segment_rows : (f : ℕ) (header : Bytes) (is_tag : Bytes → Bool) (body : Bytes) → are_segments is_tag body ≡ true → row_count (segments f header (segments_in body)) ≡ 2 + (tally_of FS body + tally_of GS body + tally_of US body)
unfolding parts are_segments
segment_rows f header is_tag body kept =
    let k = and_parts (last_is_empty (pieces FS body) && not (is_empty (segments_in body))) (every (tagged is_tag) (segments_in body)) kept in
    let ends = (and_parts (last_is_empty (pieces FS body)) (not (is_empty (segments_in body))) k.0).0 in
    omega (arith, rows_segments f body ends)

-- six bytes are there, and of the class
six_there : (bs : Bytes) → release (take release_length bs) ≡ (not (ltb (length bs) release_length) && every capital_or_digit (take release_length bs))
unfolding release long_as
six_there bs = by (ltb (length bs) release_length) refl
  where
    by : (t : Bool) → ltb (length bs) release_length ≡ t
        → (leb release_length (length (take release_length bs)) && leb (length (take release_length bs)) release_length && every capital_or_digit (take release_length bs)) ≡ (not t && every capital_or_digit (take release_length bs))
    by true short =
        let less = ltb-true (length bs) release_length short in
        let long = length-take release_length bs in
        ap (λ t. t && leb (length (take release_length bs)) release_length && every capital_or_digit (take release_length bs)) (lt-leb release_length (length (take release_length bs)) (omega arith))
    by false enough =
        let more = ltb-false (length bs) release_length enough in
        let six = length-take-le release_length bs more in
        (λ i. le-leb release_length (length (take release_length bs)) (omega arith) i && le-leb (length (take release_length bs)) release_length (omega arith) i && every capital_or_digit (take release_length bs))

shown_six : (m : Bytes) (at : ℕ) (next : Bytes → Step) (there : Judged) → at ≤ length m → (at + release_length + 3 ≤ length m → shown m (next (drop (at + release_length + 3) m)) ≡ there)
    → shown m (must (release (take release_length (drop at m))) BadFormatHeader (opened (FS ∷ GS ∷ US ∷ []) (drop release_length (drop at m)) next))
    ≡ cond (not (ltb (length m) (at + release_length)) && every capital_or_digit (take release_length (drop at m)) && begins_at (FS ∷ GS ∷ US ∷ []) m (at + release_length)) there (no_envelope BadFormatHeader)
shown_six m at next there inside then =
    shown_must m (release (take release_length (drop at m))) BadFormatHeader _
    ∙ ap (λ t. cond t (shown m (opened (FS ∷ GS ∷ US ∷ []) (drop release_length (drop at m)) next)) (no_envelope BadFormatHeader)) (six_there (drop at m))
    ∙ ap (λ t. cond (not t && every capital_or_digit (take release_length (drop at m))) (shown m (opened (FS ∷ GS ∷ US ∷ []) (drop release_length (drop at m)) next)) (no_envelope BadFormatHeader)) same_length
    ∙ by (ltb (length m) (at + release_length)) (every capital_or_digit (take release_length (drop at m))) refl
  where
    same_length : ltb (length (drop at m)) release_length ≡ ltb (length m) (at + release_length)
    same_length = let long = length-drop at m in leb_same (suc (length (drop at m))) release_length (suc (length m)) (at + release_length) (λ h. omega arith) (λ h. omega arith)

    by : (t u : Bool) → ltb (length m) (at + release_length) ≡ t
        → cond (not t && u) (shown m (opened (FS ∷ GS ∷ US ∷ []) (drop release_length (drop at m)) next)) (no_envelope BadFormatHeader)
        ≡ cond (not t && u && begins_at (FS ∷ GS ∷ US ∷ []) m (at + release_length)) there (no_envelope BadFormatHeader)
    by true u short = refl
    by false false enough = refl
    by false true enough =
        let long = ltb-false (length m) (at + release_length) enough in
        ap (λ l. shown m (opened (FS ∷ GS ∷ US ∷ []) l next)) (drop-drop release_length at m)
        ∙ shown_opened m (FS ∷ GS ∷ US ∷ []) (at + release_length) next there long then

pub shown_segments : (k : Kind) (is_tag : Bytes → Bool) (f : ℕ) (m : Bytes) (at : ℕ) → at ≤ length m
    → bodied segment_byte (are_segments is_tag) whole_fault ≡ bodied (permitted_of k) (rules_of k) (fault_of k)
    → ((body : Bytes) → rules_of k body ≡ true → are_segments is_tag body ≡ true) → ((body : Bytes) → rows_of_body k body ≡ tally_of FS body + tally_of GS body + tally_of US body)
    → shown m (read_segments is_tag f (drop at m)) ≡ segments_found k m at
unfolding read_segments
shown_segments k is_tag f m at inside same are counts =
    let six = take release_length (drop at m) in
    shown_six m at _ (body_found k 2 m (at + release_length + 3)) inside
    (λ long. ap (λ read. shown m (read (λ body. segments f six (segments_in body)) (drop (at + release_length + 3) m))) same
    ∙ shown_body k 2 m (at + release_length + 3) (λ body. segments f six (segments_in body)) long (λ body kept. segment_rows f six is_tag body (are body kept) ∙ ap (λ n. 2 + n) (sym (counts body))))

-- 01

field_rows : (f : ℕ) (v : Version) (body : Bytes) → row_count (fields f v (pieces GS body)) ≡ 2 + (tally_of GS body + 1)
unfolding parts
field_rows f v body = omega (arith, items_pieces GS piece_row f (pieces GS body), pieces_count GS body)

-- with its version
transport_with : (v : Version) (f : ℕ) (bs : Bytes) → agreement (GS ∷ version_digits v) bs ≡ 3 → read_transport f bs ≡ read_fields f (Some v) (drop 3 bs)
unfolding read_transport version_of
transport_with Version02 f bs is = ap (read_transport f) (begins (GS ∷ version_digits Version02) bs (omega arith))
transport_with Version96 f bs is = ap (read_transport f) (begins (GS ∷ version_digits Version96) bs (omega arith))

-- with neither
transport_without : (f : ℕ) (bs : Bytes) → ((v : Version) → agreement (GS ∷ version_digits v) bs ≡ 3 → ⊥) → read_transport f bs ≡ refuse BadFormatHeader
unfolding read_transport read_fields
transport_without f [] none_there = refl
transport_without f (b ∷ bs) none_there = by (eqb b GS) refl
  where
    full : (v : Version) (rest : Bytes) → agreement (GS ∷ version_digits v) (GS ∷ (version_digits v ++ rest)) ≡ 3
    full Version02 rest = refl
    full Version96 rest = refl

    by_version : (o : Option Version) → b ≡ GS → version_of (take 2 bs) ≡ o → read_fields f o (drop 2 bs) ≡ refuse BadFormatHeader
    by_version None is e = refl
    by_version (Some v) is e =
        absurd (none_there v ((λ i. agreement (GS ∷ version_digits v) (is i ∷ (sym (take-append-drop 2 bs) ∙ ap (λ x. x ++ drop 2 bs) (version_so (take 2 bs) v e)) i)) ∙ full v (drop 2 bs)))

    by : (t : Bool) → eqb b GS ≡ t → must t BadFormatHeader (read_fields f (version_of (take 2 bs)) (drop 2 bs)) ≡ refuse BadFormatHeader
    by true is = by_version (version_of (take 2 bs)) (eqb-true b GS is) refl
    by false is = refl

-- with a version's digits its fields are shown
shown_version : (f : ℕ) (v : Version) (m : Bytes) (at : ℕ) → at ≤ length m → agreement (GS ∷ version_digits v) (drop at m) ≡ 3 → shown m (read_transport f (drop at m)) ≡ body_found (Fields v) 2 m (at + 3)
unfolding read_fields
shown_version f v m at inside is =
    ap (shown m) (transport_with v f (drop at m) is ∙ ap (read_fields f (Some v)) (drop-drop 3 at m))
    ∙ shown_body (Fields v) 2 m (at + 3) (λ body. fields f v (pieces GS body)) (long v is) (λ body kept. field_rows f v body)
  where
    long : (v : Version) → agreement (GS ∷ version_digits v) (drop at m) ≡ 3 → at + 3 ≤ length m
    long Version02 is = begins_long (GS ∷ version_digits Version02) m at inside is
    long Version96 is = begins_long (GS ∷ version_digits Version96) m at inside is

pub shown_transport : (f : ℕ) (m : Bytes) (at : ℕ) → at ≤ length m → shown m (read_transport f (drop at m)) ≡ transport_found m at
shown_transport f m at inside = by (begins_at (GS ∷ ascii "02") m at) (begins_at (GS ∷ ascii "96") m at) refl refl
  where
    by : (s t : Bool) → begins_at (GS ∷ ascii "02") m at ≡ s → begins_at (GS ∷ ascii "96") m at ≡ t
        → shown m (read_transport f (drop at m)) ≡ cond s (body_found (Fields Version02) 2 m (at + 3)) (cond t (body_found (Fields Version96) 2 m (at + 3)) (no_envelope BadFormatHeader))
    by true t p q = shown_version f Version02 m at inside (eqb-true _ 3 p)
    by false true p q = shown_version f Version96 m at inside (eqb-true _ 3 q)
    by false false p q = ap (shown m) (transport_without f (drop at m) neither)
      where
        neither : (v : Version) → agreement (GS ∷ version_digits v) (drop at m) ≡ 3 → ⊥
        neither Version02 is = eqb-false _ 3 p is
        neither Version96 is = eqb-false _ 3 q is

-- 09, 15

-- whatever the header values before are called, the same is shown
pub shown_payload : (rows : ℕ) (m : Bytes) (at n : ℕ) (made : Bytes → Envelope) → at ≤ length m → ((payload : Bytes) → row_count (made payload) ≡ rows) → shown m (read_payload n made (drop at m)) ≡ payload_found rows n m at
unfolding read_payload
shown_payload rows m at n made inside counts = shown_must m (ltb n (length (drop at m)) && eqb (get_or (drop at m) n 0) RS) _ _ ∙ by (ltb n (length (drop at m))) (eqb (get_or (drop at m) n 0) RS) refl
  where
    by : (s t : Bool) → ltb n (length (drop at m)) ≡ s → cond (s && t) (shown m (closed (made (take n (drop at m))) (drop (n + 1) (drop at m)))) (no_envelope PayloadDoesNotFit) ≡ cond (s && t) (closed_at (at + n + 1) rows) (no_envelope PayloadDoesNotFit)
    by true true h =
        let fits = ltb-true n (length (drop at m)) h in
        let long = length-drop at m in
        let left = length-drop (n + 1) (drop at m) in
        let end : length m - length (drop (n + 1) (drop at m)) ≡ at + n + 1 = omega arith in
        λ i. closed_at (end i) (counts (take n (drop at m)) i)
    by true false h = refl
    by false t h = refl

-- a header value that runs to the next GS: it ends before the message does, or is no_envelope
module _ (least most : ℕ) (class : ℕ → Bool) (m : Bytes) (at : ℕ) (inside : at ≤ length m) (next : Bytes → Bytes → Step) (there : ℕ → Judged)
    (then : (end : ℕ) → end ≡ value_end least most class m at → end < length m → shown m (next (take (end - at) (drop at m)) (drop (end + 1) m)) ≡ there (end + 1)) where
  shown_valued : shown m (valued (λ v. long_as (least to most) v && every class v) (drop at m) next) ≡ after_value m (value_end least most class m at) there
  unfolding long_as
  shown_valued = by_gs (ltb n (length bs)) refl
    where
      bs : Bytes
      bs = drop at m

      n : ℕ
      n = seek GS bs

      refused_there : (end : ℕ) → end ≡ length m → no_envelope BadFormatHeader ≡ after_value m end there
      refused_there end is = sym (cond-false _ _ _ (le-ltb end (length m) (omega arith)))

      by_test : (a w : Bool) → (leb least n && leb n most) ≡ a → every class (take n bs) ≡ w → n < length bs
          → shown m (must (a && w) BadFormatHeader (next (take n bs) (drop (n + 1) bs))) ≡ after_value m (cond (true && a && w) (at + n) (length m)) there
      by_test true true p q here =
          let long = length-drop at m in
          let less : at + n < length m = omega arith in
          let first : at + n - at ≡ n = omega arith in
          let behind : at + (n + 1) ≡ at + n + 1 = omega arith in
          (λ i. shown m (next (take (sym first i) bs) ((drop-drop (n + 1) at m ∙ ap (λ k. drop k m) behind) i)))
          ∙ then (at + n) (sym (cond-true _ _ _ (both_true (both_true (lt-ltb n (length bs) here) p) q))) less
          ∙ sym (cond-true _ _ _ (lt-ltb (at + n) (length m) less))
      by_test true false p q here = refused_there (length m) refl
      by_test false w p q here = refused_there (length m) refl

      by_gs : (t : Bool) → ltb n (length bs) ≡ t → shown m (valued_at (λ v. long_as (least to most) v && every class v) next (cut GS bs)) ≡ after_value m (cond (t && (leb least n && leb n most) && every class (take n bs)) (at + n) (length m)) there
      by_gs true here =
          let less = ltb-true n (length bs) here in
          let long = length-take-le n bs (omega arith) in
          ap (λ c. shown m (valued_at (λ v. long_as (least to most) v && every class v) next c)) (cut_found GS bs less)
          ∙ ap (λ l. shown m (must (leb least l && leb l most && every class (take n bs)) BadFormatHeader (next (take n bs) (drop (n + 1) bs)))) long
          ∙ by_test (leb least n && leb n most) (every class (take n bs)) refl refl less
      by_gs false past = ap (λ c. shown m (valued_at (λ v. long_as (least to most) v && every class v) next c)) (cut_absent GS bs (ltb-false n (length bs) past)) ∙ refused_there (length m) refl

-- how many rows header values, a count and a payload are, behind an indicator
counted_rows : (f : ℕ) (vs : List Bytes) (n payload : Bytes) → row_count (counted f vs n payload) ≡ 3 + length vs
unfolding parts
counted_rows f vs n payload = omega (arith, items_append (value_parts f vs) (rowed value_row f n ∷ mark GS ∷ rowed body_row f payload ∷ []), items_values f vs)

shown_count : (f : ℕ) (vs : List Bytes) (m : Bytes) (at : ℕ) → at ≤ length m → shown m (read_count f vs (drop at m)) ≡ count_found (3 + length vs) m at
unfolding read_count count
shown_count f vs m at inside =
    shown_valued 1 15 digit m at inside (λ n rest. read_payload (value n) (counted f vs n) rest) (payload_found (3 + length vs) (value (take (value_end 1 15 digit m at - at) (drop at m))) m)
    (λ end is less.
    shown_payload (3 + length vs) m (end + 1) (value (take (end - at) (drop at m))) (counted f vs (take (end - at) (drop at m))) (omega arith) (counted_rows f vs (take (end - at) (drop at m)))
    ∙ ap (λ e. payload_found (3 + length vs) (value (take (e - at) (drop at m))) m (end + 1)) is)

pub shown_count_only : (f : ℕ) (m : Bytes) (at : ℕ) → at ≤ length m → shown m (read_counted [] f (drop at m)) ≡ count_only_found m at
unfolding read_counted
shown_count_only f m at inside = shown_count f [] m at inside

compression_step : (f : ℕ) (m : Bytes) (at : ℕ) (t : Bytes) → at ≤ length m
    → shown m (read_values (compression_length ∷ []) (drop at m) λ vs. read_count f (t ∷ vs)) ≡ compression_found m at
unfolding header_value
compression_step f m at t inside =
    shown_valued 0 30 plain m at inside (λ c. read_count f (t ∷ c ∷ [])) (count_found 5 m)
    (λ end is less. shown_count f (t ∷ take (end - at) (drop at m) ∷ []) m (end + 1) (omega arith))

pub shown_counted : (f : ℕ) (m : Bytes) (at : ℕ) → at ≤ length m → shown m (read_counted (type_length ∷ compression_length ∷ []) f (drop at m)) ≡ counted_found m at
unfolding read_counted header_value
shown_counted f m at inside =
    shown_opened m (GS ∷ []) at _ (after_value m (value_end 1 30 plain m (at + 1)) (compression_found m)) inside
    (λ long.
    shown_valued 1 30 plain m (at + 1) long (λ t rest. read_values (compression_length ∷ []) rest λ vs. read_count f (t ∷ vs)) (compression_found m)
    (λ end is less. compression_step f m (end + 1) (take (end - (at + 1)) (drop (at + 1) m)) (omega arith)))
