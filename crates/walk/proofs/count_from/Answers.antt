-- `count_from` folds what the digits in front are worth.
use Rattle.std.proofs.Common.{ℕ, ◌-◌, ◌+◌, ◌*◌, ◌≡◌, ◌∙◌, ap, sym, refl, subst, Bool, true, false, cond, List, [], ◌∷◌, length, drop, ltb, Option, Some, None, Bor, Iter, arith, rules}
use Rattle.std.specs.Fn.{Called}
use Rattle.std.specs.List.{fold}
use Rattle.std.specs.Option.{MatchOption}
use Rattle.std.specs.Iterator.Adapters.{map_while_source, map_while_callee, map_while_steps}
use Rattle.std.specs.declared.iter.MapWhile.{MapWhile}
use Rattle.std.proofs.lemmas.Fn.{fronts}
use Rattle.std.proofs.lemmas.Grind.{common_steps}
use Rattle.std.proofs.lemmas.Iterator.{YieldsList}
use Rattle.std.proofs.lemmas.Iterator.Consumers.{fold_from_yields_List}
use Rattle.std.proofs.lemmas.Iterator.Splits.{YieldsList-from_shown_while}
use Rattle.std.proofs.lemmas.List.{nil_from_length}
use borrow.Author.Tests.{tests}
use denote.Param.Members.{Mut}
use Rattle.label.specs.Bytes.{Bytes, digit}
use Rattle.label.specs.Limits.{longest}
use Rattle.leaves.specs.Classes.{digit_of}
use Rattle.walk.specs.Cursors.{count_from}
use Rattle.walk.proofs.count_from.Goals as goal

-- a digit's worth in front of others; none where there is no digit
abbrev in_front : Option ℕ → List ℕ → List ℕ
in_front None ds = []
in_front (Some d) ds = d ∷ ds

-- what the digits in front are worth
abbrev digits_in : Bytes → List ℕ
digits_in [] = []
digits_in (b ∷ bs) = in_front (digit_of b) (digits_in bs)

module _ {F : Type 0} (g : Mut F (Bor ℕ × Unit {0}) (Option ℕ)) (f : F) (tells : (x : Bor ℕ) (r : Option ℕ) (q : F) → Called g f (x, tt) r q → (q ≡ f) × (r ≡ digit_of x.now)) where
  step : (r : Option ℕ) (o : Option (Bor ℕ)) (s t : MapWhile (Iter ℕ) F) → map_while_callee s ≡ f → fronts (map_while_source s) o (map_while_source t)
      → MatchOption o ((r ≡ None) × (map_while_callee t ≡ map_while_callee s)) (λ x. Called g (map_while_callee s) (x, tt) r (map_while_callee t))
      → (map_while_callee t ≡ f) × (digits_in (map_while_source s).rest.now ≡ in_front r (digits_in (map_while_source t).rest.now))
  step r None s t is gives asked = (asked.1 ∙ is, ap digits_in (nil_from_length (map_while_source s).rest.now gives.0) ∙ sym (ap (λ o. in_front o (digits_in (map_while_source t).rest.now)) asked.0))
  step r (Some x) s t is gives asked =
      let told = tells x r (map_while_callee t) (subst (λ q. Called g q (x, tt) r (map_while_callee t)) is asked) in
      (told.0, ap digits_in gives ∙ sym (ap (λ o. in_front o (digits_in (map_while_source t).rest.now)) told.1))

  digits_given : (s : MapWhile (Iter ℕ) F) → map_while_callee s ≡ f → YieldsList (map_while_steps fronts g) (λ d. d) s (digits_in (map_while_source s).rest.now)
  digits_given = YieldsList-from_shown_while (map_while_steps fronts g) (λ d. d) (λ s. digits_in (map_while_source s).rest.now) (λ s. map_while_callee s ≡ f)
      (λ s t is k. ap length (step None k.0 s t is k.1 k.2).1)
      (λ s d t is k. step (Some d) k.0 s t is k.1 k.2)

-- a count by a digit more
abbrev grown : ℕ → ℕ → ℕ
grown n d = cond (ltb n longest) (10 * n + d) n

grown_by : (n : ℕ) (bs : Bytes) → fold grown n (digits_in bs) ≡ count_from n bs
grown_by n [] = refl
grown_by n (b ∷ bs) = by (digit b) (grown_by (grown n (b - 0x30)) bs)
  where
    by : (t : Bool) → fold grown (grown n (b - 0x30)) (digits_in bs) ≡ count_from (grown n (b - 0x30)) bs
        → fold grown n (in_front (cond t (Some (b - 0x30)) None) (digits_in bs)) ≡ cond t (count_from (grown n (b - 0x30)) bs) n
    by true same = same
    by false same = refl

pub returns : goal.returns
returns c =
    let m = c.map_while.result.iter.rest.now in
    let behind : m ≡ drop c.args.at c.args.m.now = grind (arith, common_steps, c.map_while.ensures.source) in
    fold_from_yields_List _ grown 0 c.fold.result c.fold.ensures.ran (digits_given _ _ (λ x r q k. search (rules, tests)) c.map_while.result c.map_while.ensures.closure) (λ a x b q k. search (rules, tests))
    ∙ grown_by 0 m ∙ ap (count_from 0) behind
