-- A counted payload is free: the message around it, every row and every ordinal depend on its length alone.
use Prim.Native.Nat.{ℕ, ◌+◌, ◌≤◌}
use mathlib.Core.Path.{◌≡◌, refl, sym, ap, ◌∙◌, subst}
use mathlib.Core.Bool.{Bool, false, not, ◌&&◌, ◌||◌, cond}
use mathlib.Core.List.{List, [], ◌∷◌, ◌++◌, map, append_assoc}
use native.Mathlib.Omega.{arith}
use lib.ListN.{length, length-append}
use Rattle.label.specs.Bytes.{Bytes, EOT, GS, RS, every, is_empty}
use Rattle.label.specs.Limits.{longest, most_rows}
use Rattle.label.specs.declared.Edition.{Edition}
use Rattle.label.specs.Layout.{Part, mark, item, marks, Row, bytes_of, items_of, row_at, rows_from, separated, ended}
use Rattle.label.specs.Envelope.{Envelope, counted, Within}
use Rattle.label.specs.Written.{rowed, indicator, value_row, body_row, parts, value_parts}
use Rattle.label.specs.Message.{header, is_transport, is_rest, is_rest_alone, transport_only_first, message_parts, message, rows_of, ordinals_from, ordinals_of, Each, Good}
use Rattle.label.specs.Promised.{with_payload, Freed}
use Rattle.label.proofs.Laid.{bytes_append}

-- the rows of parts behind others begin where those end
pub rows_append : (at : ℕ) (ps qs : List Part) → rows_from at (ps ++ qs) ≡ rows_from at ps ++ rows_from (at + length (bytes_of ps)) qs
rows_append at [] qs = ap (λ n. rows_from n qs) (omega arith)
rows_append at (mark b ∷ ps) qs = rows_append (at + 1) ps qs ∙ ap (λ n. rows_from (at + 1) ps ++ rows_from n qs) (omega arith)
rows_append at (item i ∷ ps) qs =
    ap (λ r. row_at at i ∷ r)
    (rows_append (at + length i.content) ps qs
    ∙ ap (λ n. rows_from (at + length i.content) ps ++ rows_from n qs) (omega (arith, length-append i.content (bytes_of ps))))

-- the parts before and behind a payload
module _ (before after : List Envelope) (f : ℕ) (vs : List Bytes) (n : Bytes) where
  abbrev pub front : List Part
  front = marks header ++ (ended RS (map parts before) ++ (indicator f ∷ (value_parts f vs ++ (rowed value_row f n ∷ mark GS ∷ []))))

  abbrev pub back : List Part
  back = mark RS ∷ (ended RS (map parts after) ++ (mark EOT ∷ []))

not_alone : (before after : List Envelope) (e : Envelope) → is_rest e ≡ false → is_rest_alone (before ++ (e ∷ after)) ≡ false
not_alone [] [] e is = is
not_alone [] (a ∷ after) e is = refl
not_alone (b ∷ []) after e is = refl
not_alone (b ∷ (b' ∷ before)) after e is = refl

pub ended_append : (es es' : List Envelope) → ended RS (map parts (es ++ es')) ≡ ended RS (map parts es) ++ ended RS (map parts es')
ended_append [] es' = refl
ended_append (e ∷ es) es' = ap (λ r. parts e ++ (mark RS ∷ r)) (ended_append es es') ∙ sym (append_assoc (parts e) (mark RS ∷ ended RS (map parts es)) (ended RS (map parts es')))

each_swap : {A : Type 0} (Fact : A → Type 0) (before after : List A) (x y : A) → Each Fact (before ++ (x ∷ after)) → (Fact x → Fact y) → Each Fact (before ++ (y ∷ after))
each_swap Fact [] after x y all h = (h all.0, all.1)
each_swap Fact (b ∷ before) after x y all h = (all.0, each_swap Fact before after x y all.1 h)

every_swap : {A : Type 0} (test : A → Bool) (before after : List A) (x y : A) → test x ≡ test y → every test (before ++ (x ∷ after)) ≡ every test (before ++ (y ∷ after))
every_swap test [] after x y same = ap (λ t. t && every test after) same
every_swap test (b ∷ before) after x y same = ap (λ t. test b && t) (every_swap test before after x y same)

only_first_swap : (before after : List Envelope) (x y : Envelope) → is_transport x ≡ is_transport y → transport_only_first (before ++ (x ∷ after)) ≡ transport_only_first (before ++ (y ∷ after))
only_first_swap [] after x y same = refl
only_first_swap (b ∷ before) after x y same = every_swap (λ e. not (is_transport e)) before after x y (ap not same)

some_append : {A : Type 0} (xs ys : List A) (y : A) → is_empty (xs ++ (y ∷ ys)) ≡ false
some_append [] ys y = refl
some_append (x ∷ xs) ys y = refl

module _ (before after : List Envelope) (f : ℕ) (vs : List Bytes) (n : Bytes) where
  parts_around : (payload : Bytes) → message_parts (with_payload before after f vs n payload) ≡ front before after f vs n ++ (rowed body_row f payload ∷ back before after f vs n)
  unfolding message_parts parts
  parts_around payload =
      let e = counted f vs n payload in
      ap (λ b. marks header ++ cond b (separated RS (map parts (before ++ (e ∷ after)))) (ended RS (map parts (before ++ (e ∷ after))) ++ (mark EOT ∷ []))) (not_alone before after e refl)
      ∙ ap (λ r. marks header ++ (r ++ (mark EOT ∷ []))) (ended_append before (e ∷ after))
      ∙ simp append_assoc

  bytes_around : (payload : Bytes) → message (with_payload before after f vs n payload) ≡ bytes_of (front before after f vs n) ++ (payload ++ bytes_of (back before after f vs n))
  unfolding message
  bytes_around payload = ap bytes_of (parts_around payload) ∙ bytes_append (front before after f vs n) (rowed body_row f payload ∷ back before after f vs n)

  -- the payload's own row, and those before and behind it
  pub rows_around : (payload : Bytes) → rows_of (with_payload before after f vs n payload)
      ≡ rows_from 0 (front before after f vs n)
      ++ (row_at (length (bytes_of (front before after f vs n))) (record { kind = body_row; format = f; content = payload })
      ∷ rows_from (length (bytes_of (front before after f vs n)) + length payload) (back before after f vs n))
  unfolding rows_of
  rows_around payload =
      ap (rows_from 0) (parts_around payload)
      ∙ rows_append 0 (front before after f vs n) (rowed body_row f payload ∷ back before after f vs n)
      ∙ ap (λ k. rows_from 0 (front before after f vs n) ++ rows_from k (rowed body_row f payload ∷ back before after f vs n)) (omega arith)

  module _ (payload payload' : Bytes) (same : length payload' ≡ length payload) where
    same_rows : rows_of (with_payload before after f vs n payload') ≡ rows_of (with_payload before after f vs n payload)
    same_rows =
        rows_around payload'
        ∙ ap (λ k. rows_from 0 (front before after f vs n)
        ++ (record { kind = body_row; format = f; start = length (bytes_of (front before after f vs n)); length = k }
        ∷ rows_from (length (bytes_of (front before after f vs n)) + k) (back before after f vs n))) same
        ∙ sym (rows_around payload)

    same_ordinals_lem : ordinals_of (with_payload before after f vs n payload') ≡ ordinals_of (with_payload before after f vs n payload)
    unfolding ordinals_of parts
    same_ordinals_lem = from 0 before
      where
        -- one ordinal for each item, whatever the last one's content
        of_each : (o : ℕ) (ps : List Part) → map (λ i. o) (items_of (ps ++ (rowed value_row f n ∷ mark GS ∷ rowed body_row f payload' ∷ [])))
            ≡ map (λ i. o) (items_of (ps ++ (rowed value_row f n ∷ mark GS ∷ rowed body_row f payload ∷ [])))
        of_each o [] = refl
        of_each o (mark b ∷ ps) = of_each o ps
        of_each o (item i ∷ ps) = ap (λ os. o ∷ os) (of_each o ps)

        from : (o : ℕ) (before : List Envelope) → ordinals_from o (with_payload before after f vs n payload') ≡ ordinals_from o (with_payload before after f vs n payload)
        from o [] = ap (λ os. o ∷ (os ++ ordinals_from (o + 1) after)) (of_each o (value_parts f vs))
        from o (e ∷ before) = ap (λ os. map (λ i. o) (items_of (parts e)) ++ os) (from (o + 1) before)

    same_length : length (message (with_payload before after f vs n payload')) ≡ length (message (with_payload before after f vs n payload))
    same_length =
        let F = bytes_of (front before after f vs n) in
        let B = bytes_of (back before after f vs n) in
        omega (arith, ap length (bytes_around payload), ap length (bytes_around payload'), length-append F (payload ++ B), length-append F (payload' ++ B), length-append payload B, length-append payload' B)

    still_within : (edition : Edition) → Within edition (counted f vs n payload) → Within edition (counted f vs n payload')
    still_within edition w = record { limits = w.limits; known = w.known; are_values = w.are_values; is_count = w.is_count; counts = w.counts ∙ sym same }

    still_good : (edition : Edition) (m : Bytes) → Good edition m (with_payload before after f vs n payload)
        → Good edition (message (with_payload before after f vs n payload')) (with_payload before after f vs n payload')
    still_good edition m good =
        let x = counted f vs n payload in
        let y = counted f vs n payload' in
        record {
          one_or_more = some_append before after y;
          within = each_swap (Within edition) before after x y good.within (still_within edition);
          only_first = only_first_swap before after y x refl ∙ good.only_first;
          only_alone =
              (λ i. (not_alone before after y refl ∙ sym (not_alone before after x refl)) i || every_swap (λ e. not (is_rest e)) before after y x refl i) ∙ good.only_alone;
          not_too_long = subst (λ (k : ℕ). k ≤ longest) (ap length (sym good.writes_out) ∙ sym same_length) good.not_too_long;
          not_too_many = subst (λ (rows : List Row). length rows ≤ most_rows) (sym same_rows) good.not_too_many;
          writes_out = refl;
        }

    pub freed : (edition : Edition) (m : Bytes) → Good edition m (with_payload before after f vs n payload) → Freed before after f vs n payload payload' edition m
    freed edition m good = record {
      around = bytes_of (front before after f vs n);
      behind = bytes_of (back before after f vs n);
      stood = sym good.writes_out ∙ bytes_around payload;
      good = subst (λ (x : Bytes). Good edition x (with_payload before after f vs n payload')) (bytes_around payload') (still_good edition m good);
      envelopes = length-append before _ ∙ sym (length-append before _);
      rows = same_rows;
      ordinals = same_ordinals_lem;
    }
