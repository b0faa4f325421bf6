-- Formats 09 and 15 by offsets: what a run of bytes of a class and the byte behind it say of a header value, what the digits of a count make, and the rows one behind
-- the other.
use Prim.Native.Nat.{ℕ, suc, ◌+◌, ◌-◌, ◌*◌, ◌≤◌, ◌<◌}
use mathlib.Core.Path.{◌≡◌, refl, sym, ap, ◌∙◌, subst}
use mathlib.Core.Bool.{Bool, true, false, ◌||◌, cond, false≢true}
use mathlib.Core.List.{List, [], ◌∷◌}
use native.Mathlib.Omega.{arith}
use borrow.Author.Tests.{lt-ltb, ltb-false, eq-eqb}
use lib.ListN.{length, get_or, take, drop, length-drop}
use lib.Seq.{get_or-drop}
use lib.Dec.{ltb}
use Rattle.std.specs.Cmp.Derive.{both_true}
use Rattle.std.proofs.lemmas.Bool.{cond-true}
use Rattle.label.specs.Bytes.{Bytes, GS, RS, EOT, plain, digit, between, every}
use Rattle.label.specs.Limits.{longest, most_rows}
use Rattle.label.specs.Values.{value_after, value}
use Rattle.label.specs.Formats.{widest, rule_of}
use Rattle.label.specs.ReadEnvelope.{read_by}
use Rattle.label.specs.ReadMessage.{agreement}
use Rattle.label.proofs.Tests.{Implies, Without, plain_without}
use Rattle.leaves.specs.declared.Class.TheVariants.{Plain, Digit}
use Rattle.leaves.specs.Classes.{class_of}
use Rattle.leaves.specs.Seek.{seek}
use Rattle.tallies.proofs.Agreement.{agree_on}
use Rattle.envelope.specs.Judged.{Judged, closed_at}
use Rattle.envelope.specs.Shown.{shown}
use Rattle.envelope.specs.Headers.{value_end}
use Rattle.envelope.specs.Formats.{payload_found, after_value, count_found, compression_found, counted_found}
use Rattle.envelope.proofs.ValueLaws.{value_bytes_lem}
use Rattle.envelope.proofs.FormatLaws.{shown_counted, shown_count_only}
use Rattle.walk.specs.declared.Stage.{Stage}
use Rattle.walk.specs.declared.Stage.TheVariants.{TypeValue, CompressionValue, CountValue, Body}
use Rattle.walk.specs.declared.Cursor.{Cursor}
use Rattle.sweeps.specs.declared.Value.{Value}
use Rattle.sweeps.specs.declared.Wanted.{Wanted}
use Rattle.walk.specs.Cursors.{ahead, run_of, plain_run, count_from, standing, plain_row, indicator_at, opening, following, next_cursor}
use Rattle.sweeps.specs.Quick.{Passed, Framed, RunsTo, Noted, NotedOne, FormatSwept}
use Rattle.sweeps.specs.Counted.{ValueDue, PlainBytes, ValueSwept, PartSwept, CountSwept}
use Rattle.walk.proofs.Offsets.{ahead_inside}
use Rattle.sweeps.proofs.Framing.{byte_behind}
use Rattle.sweeps.proofs.PieceTurns.{run_every}

-- Runs

-- a run that stops at a byte which its class lacks is as long as the bytes before that byte
run_seeks : (c : ℕ) (class : ℕ → Bool) → Without c class → (bs : Bytes) → get_or bs (run_of class bs) 0 ≡ c → seek c bs ≡ run_of class bs
run_seeks c class without [] stops = refl
run_seeks c class without (b ∷ bs) stops = by (class b) refl stops (run_seeks c class without bs)
  where
    by : (t : Bool) → class b ≡ t → get_or (b ∷ bs) (cond t (suc (run_of class bs)) 0) 0 ≡ c → (get_or bs (run_of class bs) 0 ≡ c → seek c bs ≡ run_of class bs)
        → seek c (b ∷ bs) ≡ cond t (suc (run_of class bs)) 0
    by true is stops later = ap (λ t. cond t 0 (suc (seek c bs))) (without b is) ∙ ap suc (later stops)
    by false is stops later = ap (λ t. cond t 0 (suc (seek c bs))) (eq-eqb b c stops)

-- a run of a class of plain bytes that stops at a byte which is not plain is all plain bytes in front
pub run_plain : (class : ℕ → Bool) → Implies class plain → (bs : Bytes) → plain (get_or bs (run_of class bs) 0) ≡ false → plain_run bs ≡ run_of class bs
run_plain class narrow [] stops = refl
run_plain class narrow (b ∷ bs) stops = by (class b) refl stops (run_plain class narrow bs)
  where
    by : (t : Bool) → class b ≡ t → plain (get_or (b ∷ bs) (cond t (suc (run_of class bs)) 0) 0) ≡ false → (plain (get_or bs (run_of class bs) 0) ≡ false → plain_run bs ≡ run_of class bs)
        → plain_run (b ∷ bs) ≡ cond t (suc (run_of class bs)) 0
    by true is stops later = ap (λ t. cond t (suc (plain_run bs)) 0) (narrow b is) ∙ ap suc (later stops)
    by false is stops later = ap (λ t. cond t (suc (plain_run bs)) 0) stops

-- Counts

count_least : (n : ℕ) (bs : Bytes) → n ≤ count_from n bs
count_least n [] = omega arith
count_least n (b ∷ bs) = by (digit b) (ltb n longest) (count_least (10 * n + (b - 0x30)) bs) (count_least n bs)
  where
    by : (t s : Bool) → 10 * n + (b - 0x30) ≤ count_from (10 * n + (b - 0x30)) bs → n ≤ count_from n bs → n ≤ cond t (count_from (cond s (10 * n + (b - 0x30)) n) bs) n
    by true true more same = omega arith
    by true false more same = same
    by false s more same = omega arith

-- a number below 10,000 that digits are counted to is the number that they make
count_made : (n : ℕ) (bs : Bytes) → count_from n bs < longest → value_after n (take (run_of digit bs) bs) ≡ count_from n bs
count_made n [] small = refl
count_made n (b ∷ bs) small = by (digit b) (ltb n longest) refl small (count_made (10 * n + (b - 0x30)) bs)
  where
    by : (t s : Bool) → ltb n longest ≡ s → cond t (count_from (cond s (10 * n + (b - 0x30)) n) bs) n < longest
        → (count_from (10 * n + (b - 0x30)) bs < longest → value_after (10 * n + (b - 0x30)) (take (run_of digit bs) bs) ≡ count_from (10 * n + (b - 0x30)) bs)
        → value_after n (take (cond t (suc (run_of digit bs)) 0) (b ∷ bs)) ≡ cond t (count_from (cond s (10 * n + (b - 0x30)) n) bs) n
    by true true is small later = later small
    by true false is small later = absurd (omega (arith, count_least n bs, ltb-false n longest is))
    by false s is small later = refl

-- Header values

plain_not_gs : plain GS ≡ false
unfolding plain between
plain_not_gs = refl

-- a class of plain bytes lacks EOT
pub without_end : (class : ℕ → Bool) → Implies class plain → class EOT ≡ false
unfolding plain between
without_end class narrow = by (class EOT) refl
  where
    by : (t : Bool) → class EOT ≡ t → t ≡ false
    by true is = absurd (false≢true (narrow EOT is))
    by false is = refl

module _ (f : ℕ) (class : ℕ → Bool) (narrow : Implies class plain) (m : Bytes) (at end : ℕ) (runs : RunsTo class m at end) (gs : get_or m end 0 ≡ GS) where
  size : end - at ≡ run_of class (drop at m)
  size = omega (arith, runs.runs)

  stops : get_or (drop at m) (run_of class (drop at m)) 0 ≡ GS
  stops = get_or-drop at m (run_of class (drop at m)) 0 ∙ ap (λ i. get_or m i 0) (sym runs.runs) ∙ gs

  value_ends : (least most : ℕ) → (ltb (end - at) least || ltb most (end - at)) ≡ false → end ≡ value_end least most class m at
  value_ends least most sized =
      let without : Without GS class = λ b is. plain_without GS (omega arith) b (narrow b is) in
      let found : end ≡ at + seek GS (drop at m) = runs.runs ∙ ap (λ n. at + n) (sym (run_seeks GS class without (drop at m) stops)) in
      value_bytes_lem least most class m at end (omega (arith, runs.runs, runs.inside)) found runs.inside sized
      (ap (λ n. every class (take n (drop at m))) size ∙ run_every class (drop at m))

  -- its row, and the step behind it
  value_row_lem : (stage : Stage) → standing stage f at (end - at) ≡ plain_row m stage f at
  unfolding plain_row
  value_row_lem stage = ap (standing stage f at) (size ∙ sym (run_plain class narrow (drop at m) (ap plain stops ∙ plain_not_gs)))

  value_step : (stage : Stage) → next_cursor m (standing stage f at (end - at)) ≡ following m f at end stage
  unfolding next_cursor
  value_step stage =
      let there : at + (end - at) ≡ end = omega (arith, runs.runs) in
      ap (λ e. following m f at e stage) (sym (ahead_inside m at (end - at) (omega (arith, runs.runs, runs.inside))) ∙ there)

  value_noted : (from : ℕ) (old new : List ℕ) (rows : ℕ) (stage : Stage) (c : Cursor) → c ≡ standing stage f at (end - at) → NotedOne from old new rows c
      → Noted m from old rows (plain_row m stage f at) → Noted m from new (rows + 1) (following m f at end stage)
  value_noted from old new rows stage c is one noted =
      subst (λ (d : Cursor). Noted m from new (rows + 1) d) (ap (next_cursor m) is ∙ value_step stage)
      (one m (subst (λ (d : Cursor). Noted m from old rows d) (sym (is ∙ value_row_lem stage)) noted))

-- a header value that is swept
pub value_swept : (m : Bytes) (w : Wanted) (v : Value) (at rows end : ℕ) (old new : List ℕ) (c : Cursor) → ValueDue m w v.format v.stage at rows old → PlainBytes v
    → RunsTo (class_of v.class) m at end → (ltb (end - at) v.least || ltb v.most (end - at)) ≡ false → get_or m end 0 ≡ GS
    → c ≡ standing v.stage v.format at (end - at) → NotedOne w.from old new rows c → ValueSwept m w.from v at rows (end + 1) new
value_swept m w v at rows end old new c due narrow runs sized gs is one = record {
  end = end;
  behind = refl;
  ends = value_ends v.format (class_of v.class) narrow m at end runs gs v.least v.most sized;
  runs = runs;
  inside = byte_behind m due.framed end runs.inside GS gs (λ e. omega arith);
  noted = value_noted v.format (class_of v.class) narrow m at end runs gs w.from old new rows v.stage c is one due.noted;
}

-- Behind a header value's GS

module _ (f : ℕ) (m : Bytes) (at end next : ℕ) (is : next ≡ end + 1) (inside : next < length m) where
  behind : ahead m end 1 ≡ next
  behind = sym (ahead_inside m end 1 (omega arith)) ∙ sym is

  pub behind_type : following m f at end TypeValue ≡ plain_row m CompressionValue f next
  unfolding following
  behind_type = ap (plain_row m CompressionValue f) behind

  pub behind_compression : following m f at end CompressionValue ≡ plain_row m CountValue f next
  unfolding following
  behind_compression = ap (plain_row m CountValue f) behind

  behind_count : following m f at end CountValue ≡ standing Body f next (count_from 0 (drop at m))
  unfolding following
  behind_count = ap (λ s. standing Body f s (count_from 0 (drop at m))) behind

  after_value_lem : (there : ℕ → Judged) → after_value m end there ≡ there next
  after_value_lem there = cond-true _ _ _ (lt-ltb end (length m) (omega arith)) ∙ ap there (sym is)

  compression_closes : end ≡ value_end 0 30 plain m at → compression_found m at ≡ count_found 5 m next
  compression_closes ends = ap (λ e. after_value m e (count_found 5 m)) (sym ends) ∙ after_value_lem (count_found 5 m)

  -- the count's number is the payload's length
  count_closes : length m ≤ longest → (total n : ℕ) → end ≡ value_end 1 15 digit m at → RunsTo digit m at end → n ≡ count_from 0 (drop at m) → n < length m - next → get_or m (next + n) 0 ≡ RS
      → count_found total m at ≡ closed_at (next + n + 1) total
  count_closes short total n ends runs counted fits rs =
      let size : end - at ≡ run_of digit (drop at m) = omega (arith, runs.runs) in
      let made : value (take (end - at) (drop at m)) ≡ n = ap (λ k. value (take k (drop at m))) size ∙ count_made 0 (drop at m) (omega arith) ∙ sym counted in
      ap (λ e. after_value m e (payload_found total (value (take (e - at) (drop at m))) m)) (sym ends)
      ∙ after_value_lem (payload_found total (value (take (end - at) (drop at m))) m)
      ∙ ap (λ k. payload_found total k m next) made
      ∙ cond-true _ _ _ (both_true (lt-ltb n (length (drop next m)) (omega (arith, length-drop next m))) (eq-eqb _ RS (get_or-drop next m n 0 ∙ rs)))

-- a header value is due behind the one that is swept
pub value_due : (m : Bytes) (w : Wanted) (v : Value) (at rows next now : ℕ) (notes : List ℕ) (stage : Stage)
    → ((end : ℕ) → next ≡ end + 1 → next < length m → following m v.format at end v.stage ≡ plain_row m stage v.format next)
    → Framed m → w.most ≤ most_rows → v.format ≤ 99 → (now ≡ rows + 1) × ValueSwept m w.from v at rows next notes → ValueDue m w v.format stage next now notes
value_due m w v at rows next now notes stage step framed few known swept = record {
  framed = framed;
  inside = swept.1.inside;
  few = few;
  known = known;
  noted = subst (λ (n : ℕ). Noted m w.from notes n (plain_row m stage v.format next)) (sym swept.0)
      (subst (λ (c : Cursor). Noted m w.from notes (rows + 1) c) (step swept.1.end swept.1.behind swept.1.inside) swept.1.noted);
}

-- the row of a payload, and the step behind it
body_step : (f : ℕ) (m : Bytes) (at n : ℕ) → at + n + 1 < length m → next_cursor m (standing Body f at n) ≡ indicator_at m (at + n + 1)
unfolding next_cursor following
body_step f m at n inside =
    ap (λ e. indicator_at m (ahead m e 1)) (sym (ahead_inside m at n (omega arith))) ∙ ap (indicator_at m) (sym (ahead_inside m (at + n) 1 (omega arith)))

-- the count, and the payload
abbrev count_value : ℕ → Value
count_value f = record { format = f; stage = CountValue; class = Digit; least = 1; most = 15 }

pub payload_swept : (f : ℕ) (m : Bytes) (from count rows at n : ℕ) (mid new : List ℕ) (c : Cursor) → Framed m → ValueSwept m from (count_value f) count rows at mid
    → n ≡ count_from 0 (drop count m) → n < length m - at → get_or m (at + n) 0 ≡ RS → c ≡ standing Body f at n → NotedOne from mid new (rows + 1) c
    → CountSwept m from count rows (record { next = at + n + 1; rows = rows + 2 }) new
payload_swept f m from count rows at n mid new c framed swept counted fits rs is one total =
    let less = byte_behind m framed (at + n) (omega arith) RS rs (λ e. omega arith) in
    let two : rows + 1 + 1 ≡ rows + 2 = omega arith in
    let step = behind_count f m count swept.end at swept.behind swept.inside ∙ ap (standing Body f at) (sym counted) ∙ sym is in
    record {
      counts = refl;
      inside = less;
      closes = count_closes f m count swept.end at swept.behind swept.inside framed.short total n swept.ends swept.runs counted fits rs;
      noted = subst (λ (d : Cursor). Noted m from new (rows + 2) d) (ap (next_cursor m) is ∙ body_step f m at n less)
          (subst (λ (k : ℕ). Noted m from new k (next_cursor m c)) two (one m (subst (λ (d : Cursor). Noted m from mid (rows + 1) d) step swept.noted)));
    }

-- the compression, and what follows it
abbrev pub compression_value : Value
compression_value = record { format = 9; stage = CompressionValue; class = Plain; least = 0; most = 30 }

pub compression_swept : (m : Bytes) (from at rows count : ℕ) (mid new : List ℕ) (p : Passed) → ValueSwept m from compression_value at rows count mid
    → PartSwept m from (count_found 5 m count) 5 (rows + 1 + 2) p new → PartSwept m from (compression_found m at) 5 (rows + 3) p new
compression_swept m from at rows count mid new p swept part = record {
  counts = omega (arith, part.counts);
  inside = part.inside;
  closes = compression_closes 9 m at swept.end count swept.behind swept.inside swept.ends ∙ part.closes;
  noted = part.noted;
}

-- Behind the indicator

module _ (m : Bytes) (at : ℕ) (inside : at + 1 < length m) where
  behind_indicator : opening m 9 at (rule_of widest 9) ≡ plain_row m TypeValue 9 (at + 1)
  unfolding opening rule_of
  behind_indicator = ap (plain_row m TypeValue 9) (sym (ahead_inside m at 1 (omega arith)))

  counted_closes : (end next : ℕ) → get_or m at 0 ≡ GS → next ≡ end + 1 → next < length m → end ≡ value_end 1 30 plain m (at + 1) → counted_found m at ≡ compression_found m next
  counted_closes end next gs is less ends =
      let begins : agreement (GS ∷ []) (drop at m) ≡ 1 = agree_on (GS ∷ []) m 0 at (omega arith) (omega arith) gs in
      cond-true _ _ _ (eq-eqb _ 1 begins)
      ∙ ap (λ e. after_value m e (compression_found m)) (sym ends)
      ∙ after_value_lem 9 m at end next is less (compression_found m)

  counted_shown : (first : Bool) → shown m (read_by (rule_of widest 9) first 9 (drop at m)) ≡ counted_found m at
  unfolding rule_of read_by
  counted_shown first = shown_counted 9 m at (omega arith)

-- the type, and what follows it
abbrev pub type_value : Value
type_value = record { format = 9; stage = TypeValue; class = Plain; least = 1; most = 30 }

module _ (m : Bytes) (from at rows : ℕ) (framed : Framed m) (inside : at < length m) (gs : get_or m at 0 ≡ GS) where
  more : at + 1 < length m
  more = byte_behind m framed at inside GS gs (λ e. omega arith)

  pub type_due : (w : Wanted) (notes : List ℕ) → w.most ≤ most_rows → Noted m w.from notes rows (opening m 9 at (rule_of widest 9)) → ValueDue m w 9 TypeValue (at + 1) rows notes
  type_due w notes few noted = record {
    framed = framed;
    inside = more;
    few = few;
    known = omega arith;
    noted = subst (λ (c : Cursor). Noted m w.from notes rows c) (behind_indicator m at more) noted;
  }

  pub counted_swept : (next : ℕ) (mid new : List ℕ) (p : Passed) → ValueSwept m from type_value (at + 1) rows next mid → PartSwept m from (compression_found m next) 5 (rows + 1 + 3) p new → FormatSwept m from 9 at rows p new
  counted_swept next mid new p swept part =
      let five : 5 ≡ 1 + (p.rows - rows) = omega (arith, part.counts) in
      record {
        more = omega (arith, part.counts);
        inside = part.inside;
        closes = λ first only.
            counted_shown m at more first ∙ counted_closes m at more swept.end next gs swept.behind swept.inside swept.ends ∙ part.closes ∙ ap (closed_at p.next) five;
        noted = part.noted;
      }

-- 15: the count right behind the indicator
pub count_due : (m : Bytes) (w : Wanted) (at rows : ℕ) (notes : List ℕ) → Framed m → at < length m → w.most ≤ most_rows → Noted m w.from notes rows (opening m 15 at (rule_of widest 15)) → ValueDue m w 15 CountValue at rows notes
unfolding opening rule_of
count_due m w at rows notes framed inside few noted = record { framed = framed; inside = inside; few = few; known = omega arith; noted = noted }

pub count_only_swept : (m : Bytes) (from at rows : ℕ) (new : List ℕ) (p : Passed) → at < length m → CountSwept m from at rows p new → FormatSwept m from 15 at rows p new
unfolding rule_of read_by
count_only_swept m from at rows new p inside swept =
    let part = swept 3 in
    let three : 3 ≡ 1 + (p.rows - rows) = omega (arith, part.counts) in
    record {
      more = omega (arith, part.counts);
      inside = part.inside;
      closes = λ first only. shown_count_only 15 m at (omega arith) ∙ part.closes ∙ ap (closed_at p.next) three;
      noted = part.noted;
    }
