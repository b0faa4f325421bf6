-- What two calls that read from the same reader into buffers of one size leave: the same count, the same bytes, and the same bytes left, where both came to
-- their end and what was left is known.
use Rattle.std.specs.Prelude.{◌≡◌, ◌+◌, ◌<◌, ◌≤◌, ℕ, List, ◌++◌, length, take, None, Some, Ok, IfOk}
use Rattle.std.specs.Io.KnownBytes.{Consumes, IsAtEnd}
use Rattle.std.specs.declared.result.Result.{Result}
use Rattle.std.specs.declared.option.Option.{Option}
use Rattle.std.proofs.Common.{sym, ap, ◌∙◌, subst, arith, length-append, length-take-le}
use Rattle.std.proofs.Math.Seq.{take-append_seam, drop-append_seam}
use Rattle.std.proofs.Math.ListN.{drop}
use Rattle.std.proofs.lemmas.Result.{IfOk-at_ok}

-- n of the bytes that were left stand at the front of a buffer of so many
pub record Filled (left : List ℕ) (n size : ℕ) (buffer : List ℕ) (new : Option (List ℕ)) : Type 0 where
  pub within : n ≤ length buffer
  pub bytes : Consumes (Some left) new (take n buffer)
  pub end : n < length buffer → IsAtEnd new
  pub kept : length buffer ≡ size

same_count : (all n n' rest rest' size : ℕ) → all ≡ n + rest → all ≡ n' + rest' → n ≤ size → n' ≤ size → (n < size → rest ≡ 0) → (n' < size → rest' ≡ 0) → n ≡ n'
same_count all n n' rest rest' size e e' le le' none none' = grind arith

-- the count and the bytes left go together with the bytes that were left, whatever the buffer
count_once : (size n n' : ℕ) (left xs ys b b' : List ℕ) → Filled left n size b (Some xs) → Filled left n' size b' (Some ys) → n ≡ n'
count_once size n n' left xs ys b b' one two =
    let long : length left ≡ n + length xs = ap length one.bytes ∙ length-append (take n b) xs ∙ ap (λ k. k + length xs) (length-take-le n b one.within) in
    let long' : length left ≡ n' + length ys = ap length two.bytes ∙ length-append (take n' b') ys ∙ ap (λ k. k + length ys) (length-take-le n' b' two.within) in
    let le : n ≤ size = subst (λ k. n ≤ k) one.kept one.within in
    let le' : n' ≤ size = subst (λ k. n' ≤ k) two.kept two.within in
    same_count (length left) n n' (length xs) (length ys) size long long' le le'
    (λ p. ap length (one.end (subst (λ k. n < k) (sym one.kept) p)))
    (λ p. ap length (two.end (subst (λ k. n' < k) (sym two.kept) p)))

front_once : (n : ℕ) (left xs ys b b' : List ℕ) → n ≤ length b → n ≤ length b' → left ≡ take n b ++ xs → left ≡ take n b' ++ ys → (take n b ≡ take n b') × (xs ≡ ys)
front_once n left xs ys b b' le le' e e' =
    let front : (c zs : List ℕ) → n ≤ length c → left ≡ take n c ++ zs → take n c ≡ take n left =
    λ c zs h d. sym (take-append_seam (take n c) zs) ∙ ap (λ k. take k (take n c ++ zs)) (length-take-le n c h) ∙ ap (take n) (sym d) in
    let back : (c zs : List ℕ) → n ≤ length c → left ≡ take n c ++ zs → zs ≡ drop n left =
    λ c zs h d. sym (drop-append_seam (take n c) zs) ∙ ap (λ k. drop k (take n c ++ zs)) (length-take-le n c h) ∙ ap (drop n) (sym d) in
    (front b xs le e ∙ sym (front b' ys le' e'), back b xs le e ∙ sym (back b' ys le' e'))

pub filled_once : (size : ℕ) (left : List ℕ) (n n' : ℕ) (b b' : List ℕ) (new new' : Option (List ℕ)) → Filled left n size b new → Filled left n' size b' new'
    → (n ≡ n') × (take n b ≡ take n' b') × (new ≡ new')
filled_once size left n n' b b' None new' one two = absurd one.bytes
filled_once size left n n' b b' (Some xs) None one two = absurd two.bytes
filled_once size left n n' b b' (Some xs) (Some ys) one two =
    let same = count_once size n n' left xs ys b b' one two in
    let fits : n ≤ length b' = omega (arith, same, two.within) in
    let as_one : left ≡ take n b' ++ ys = two.bytes ∙ ap (λ k. take k b' ++ ys) (sym same) in
    let both = front_once n left xs ys b b' one.within fits one.bytes as_one in
    (same, both.0 ∙ ap (λ k. take k b') same, ap (λ (l : List ℕ). Some l) both.1)

-- that of what a call says
pub filled : {E : Type 0} (r : Result ℕ E) (n size : ℕ) (old new : Option (List ℕ)) (b left : List ℕ) → old ≡ Some left → r ≡ Ok n
    → IfOk r (λ k. k ≤ length b) → IfOk r (λ k. Consumes old new (take k b)) → IfOk r (λ k. k < length b → IsAtEnd new) → length b ≡ size → Filled left n size b new
filled r n size old new b left known ended within bytes end kept =
    record {
      within = IfOk-at_ok _ ended within;
      bytes = subst (λ o. Consumes o new (take n b)) known (IfOk-at_ok _ ended bytes);
      end = IfOk-at_ok _ ended end;
      kept = kept;
    }
