-- An envelope with a fault in a field or an element, written and then RS, is refused with that, where the faulty one starts.
use Prim.Native.Nat.{ℕ, ◌+◌}
use mathlib.Core.Path.{◌≡◌, refl, ap, ◌∙◌}
use mathlib.Core.Bool.{Bool, true, false, not, ◌||◌}
use mathlib.Core.List.{List, ◌∷◌, ◌++◌, append_assoc}
use native.Mathlib.Omega.{arith}
use lib.ListN.{length, drop, length-append, length-drop}
use Rattle.label.specs.declared.Reason.{Reason}
use Rattle.label.specs.Bytes.{Bytes, GS, RS, every}
use Rattle.label.specs.Values.{version_digits}
use Rattle.label.specs.declared.Version.{Version}
use Rattle.label.specs.Fields.{transport}
use Rattle.label.specs.Faults.{first_fault, element_fault, fields_fault_by, fields_fault, elements_fault}
use Rattle.label.specs.declared.Edition.{Edition}
use Rattle.label.specs.Formats.{as_fields, as_elements}
use Rattle.label.specs.Layout.{bytes_of}
use Rattle.label.specs.Envelope.{Envelope, fields, whole_rest, segments, elements, text, counted}
use Rattle.label.specs.Written.{piece_row, two_digits, parts}
use Rattle.label.specs.Message.{is_transport}
use Rattle.label.specs.ReadEnvelope.{Step, refuse_at, broken, read_fields, read_transport, read_elements, read_by, read_envelope}
use Rattle.label.specs.Lacking.{FaultInFields, FaultInElements, FaultIn}
use Rattle.label.proofs.Tests.{or_not}
use Rattle.label.proofs.Splitting.{joined, terminated}
use Rattle.label.proofs.Laid.{bytes_each_ended, bytes_envelope}
use Rattle.label.proofs.Faults.{Ahead, elements_fault_pass, elements_ahead, fields_fault_pass, fields_ahead}
use Rattle.label.proofs.EnvelopeComplete.{must_pass, pieces_back, pieces_broken, fields_read, indicator_pass}

-- the last bytes at which it is refused, and what stands before them
pub record Refuses (s : Step) (bs : Bytes) (r : Reason) (ahead : Bytes) : Type 0 where
  pub from : Bytes
  pub is : s ≡ refuse_at r from
  pub bytes : length bs ≡ length ahead + length from

-- the offset of a fault in a body is as long as the pieces in front of it
offset_inside : (body left : Bytes) (front : List Bytes) → Ahead body front → length (body ++ (RS ∷ left)) ≡ length (terminated GS front) + length (drop (length (terminated GS front)) (body ++ (RS ∷ left)))
offset_inside body left front a =
    omega (arith, length-drop (length (terminated GS front)) (body ++ (RS ∷ left)), length-append body (RS ∷ left), ap length a.is, length-append (terminated GS front) a.tail)

fields_refused : (edition : Edition) (f : ℕ) (v : Version) (fs : List Bytes) (left : Bytes) (r : Reason) (ahead : Bytes) (w : FaultInFields edition f v fs r ahead)
    → read_transport f (GS ∷ (version_digits v ++ (joined GS fs ++ (RS ∷ left)))) ≡ refuse_at r (drop (length (terminated GS w.front)) (joined GS fs ++ (RS ∷ left)))
unfolding read_fields fields_fault
fields_refused edition f v fs left r ahead w =
    let told = fields_fault_pass v fs w.front r w.fault in
    let back = pieces_back (transport v) (fields_fault v) (fields f v) fs left w.one_or_more w.plain_bytes in
    fields_read f v (joined GS fs ++ (RS ∷ left))
    ∙ pieces_broken (transport v) (fields_fault v) (fields f v) fs left w.one_or_more w.plain_bytes told.broken
    ∙ ap (broken (joined GS fs ++ (RS ∷ left))) (ap (fields_fault_by v (length (joined GS fs))) back ∙ told.is)

elements_refused : (edition : Edition) (f : ℕ) (es : List Bytes) (left : Bytes) (r : Reason) (ahead : Bytes) (w : FaultInElements edition f es r ahead)
    → read_elements w.is_element f (GS ∷ (joined GS es ++ (RS ∷ left))) ≡ refuse_at r (drop (length (terminated GS w.front)) (joined GS es ++ (RS ∷ left)))
unfolding read_elements elements_fault
elements_refused edition f es left r ahead w =
    let told = elements_fault_pass w.is_element es w.front r w.fault in
    let back = pieces_back (every w.is_element) (elements_fault w.is_element) (elements f) es left w.one_or_more w.plain_bytes in
    pieces_broken (every w.is_element) (elements_fault w.is_element) (elements f) es left w.one_or_more w.plain_bytes told.broken
    ∙ ap (broken (joined GS es ++ (RS ∷ left))) (ap (first_fault (element_fault w.is_element) 0 0) back ∙ told.is)

pub fault_pass : (edition : Edition) (first : Bool) (e : Envelope) (left : Bytes) (r : Reason) (ahead : Bytes) → FaultIn edition e r ahead → (first || not (is_transport e)) ≡ true
    → Refuses (read_envelope edition first (bytes_of (parts e) ++ (RS ∷ left))) (bytes_of (parts e) ++ (RS ∷ left)) r ahead
unfolding read_by
fault_pass edition first (fields f v fs) left r ahead w in_place =
    let a = fields_ahead v fs w.front r w.fault in
    let written : bytes_of (parts (fields f v fs)) ++ (RS ∷ left) ≡ two_digits f ++ (GS ∷ (version_digits v ++ (joined GS fs ++ (RS ∷ left)))) =
    ap (λ x. x ++ (RS ∷ left)) (bytes_envelope (fields f v fs)) ∙ ap (λ x. two_digits f ++ (GS ∷ x)) (append_assoc (version_digits v) (joined GS fs) (RS ∷ left)) in
    record {
      from = drop (length (terminated GS w.front)) (joined GS fs ++ (RS ∷ left));
      is = ap (read_envelope edition first) written
          ∙ indicator_pass edition first f as_fields _ w.known refl
          ∙ must_pass first _ _ (or_not first false in_place refl)
          ∙ fields_refused edition f v fs left r ahead w;
      bytes = ap length written ∙ omega (arith, offset_inside (joined GS fs) left w.front a, ap length (w.in_front_of_it ∙ ap (λ x. two_digits f ++ (GS ∷ (version_digits v ++ x))) (bytes_each_ended GS piece_row f w.front)), length-append (version_digits v) (terminated GS w.front), length-append (version_digits v) (joined GS fs ++ (RS ∷ left)));
    }
fault_pass edition first (whole_rest f body) left r ahead w in_place = absurd w
fault_pass edition first (segments f header ss) left r ahead w in_place = absurd w
fault_pass edition first (elements f es) left r ahead w in_place =
    let a = elements_ahead w.is_element es w.front r w.fault in
    let written : bytes_of (parts (elements f es)) ++ (RS ∷ left) ≡ two_digits f ++ (GS ∷ (joined GS es ++ (RS ∷ left))) = ap (λ x. x ++ (RS ∷ left)) (bytes_envelope (elements f es)) in
    record {
      from = drop (length (terminated GS w.front)) (joined GS es ++ (RS ∷ left));
      is = ap (read_envelope edition first) written
          ∙ indicator_pass edition first f (as_elements w.is_element) _ w.known refl
          ∙ elements_refused edition f es left r ahead w;
      bytes = ap length written ∙ omega (arith, offset_inside (joined GS es) left w.front a, ap length (w.in_front_of_it ∙ ap (λ x. two_digits f ++ (GS ∷ x)) (bytes_each_ended GS piece_row f w.front)));
    }
fault_pass edition first (text f body) left r ahead w in_place = absurd w
fault_pass edition first (counted f vs n payload) left r ahead w in_place = absurd w
