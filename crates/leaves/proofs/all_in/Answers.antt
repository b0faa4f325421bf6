-- `all_in` is a fold over the bytes: what it has after some of them is the test of these.
use Rattle.std.proofs.Common.{◌≡◌, refl, subst, rules}
use Rattle.std.proofs.lemmas.Fn.{fold_over, slice_gives, fronts}
use Rattle.label.specs.Bytes.{every}
use Rattle.leaves.specs.Classes.{class_of}
use Rattle.leaves.proofs.Turns.{every_push}
use Rattle.leaves.proofs.all_in.Goals as goal

pub returns : goal.returns
returns c =
    let p = class_of c.args.k in
    subst (λ l. c.fold.result ≡ every p l) c.iter.ensures.rest
    (fold_over fronts (λ y. y.now) _ (λ ys t. t ≡ every p ys) _ (λ ys a x b f' j k. let more = every_push p ys x.now in search rules)
    _ _ _ _ (slice_gives c.iter.result) refl c.fold.ensures.ran)
