-- What the bytes of a transport field are, by the tests that the code makes.
use Prim.Native.Nat.{ℕ, zero, suc, ◌-◌, ◌<◌}
use mathlib.Core.Path.{◌≡◌, refl, sym}
use mathlib.Core.Bool.{false, ◌||◌, true≢false}
use mathlib.Core.List.{[], ◌∷◌}
use native.Mathlib.Omega.{arith}
use borrow.Author.Tests.{ne_eqb}
use lib.ListN.{length, get_or, take, drop, length-drop}
use lib.Dec.{eqb}
use Rattle.std.proofs.lemmas.Bool.{and_right}
use Rattle.label.specs.Bytes.{Bytes, ascii, plain, every, is_empty}
use Rattle.label.specs.declared.Version.{Version}
use Rattle.label.specs.declared.Version.TheVariants.{Version02}
use Rattle.label.specs.Fields.{amount, unit, unit_length, weight, yes_or_no, field_bytes}
use Rattle.pieces.proofs.TagLaws.{other_length}

pub no_bytes : (s : Bytes) → eqb (length s) 0 ≡ is_empty s
no_bytes [] = refl
no_bytes (b ∷ s) = ne_eqb (suc (length s)) 0 (λ is. omega arith)

pub no_unit : (s : Bytes) → (length s ≡ 2 → ⊥) → false ≡ unit s
unfolding unit
no_unit s other = λ i. other_length s (ascii "LB") other i || other_length s (ascii "KG") other i

pub no_room_for_unit : (s : Bytes) → length s < unit_length → false ≡ weight Version02 s
unfolding weight
no_room_for_unit s short = sym (and_right (amount (take (length s - unit_length) s)) _ (sym (no_unit (drop (length s - unit_length) s) (λ is. omega (arith, length-drop (length s - unit_length) s)))))

pub no_letter : (s : Bytes) → (length s ≡ 1 → ⊥) → false ≡ yes_or_no s
unfolding yes_or_no
no_letter s other = λ i. other_length s (ascii "Y") other i || other_length s (ascii "N") other i

pub plain_column : (v : Version) (i : ℕ) → (i ≡ 8 → ⊥) → (i ≡ 9 → ⊥) → (i ≡ 10 → ⊥) → (eqb i 1 || eqb i 6) ≡ false → every plain ≡ get_or (field_bytes v) i (every plain)
plain_column v zero h8 h9 h10 h = refl
plain_column v (suc zero) h8 h9 h10 h = absurd (true≢false h)
plain_column v (suc (suc zero)) h8 h9 h10 h = refl
plain_column v (suc (suc (suc zero))) h8 h9 h10 h = refl
plain_column v (suc (suc (suc (suc zero)))) h8 h9 h10 h = refl
plain_column v (suc (suc (suc (suc (suc zero))))) h8 h9 h10 h = refl
plain_column v (suc (suc (suc (suc (suc (suc zero)))))) h8 h9 h10 h = absurd (true≢false h)
plain_column v (suc (suc (suc (suc (suc (suc (suc zero))))))) h8 h9 h10 h = refl
plain_column v (suc (suc (suc (suc (suc (suc (suc (suc zero)))))))) h8 h9 h10 h = absurd (h8 refl)
plain_column v (suc (suc (suc (suc (suc (suc (suc (suc (suc zero))))))))) h8 h9 h10 h = absurd (h9 refl)
plain_column v (suc (suc (suc (suc (suc (suc (suc (suc (suc (suc zero)))))))))) h8 h9 h10 h = absurd (h10 refl)
plain_column v (suc (suc (suc (suc (suc (suc (suc (suc (suc (suc (suc i))))))))))) h8 h9 h10 h = later i
  where
    later : (i : ℕ) → every plain ≡ get_or (every plain ∷ every plain ∷ every plain ∷ every plain ∷ []) i (every plain)
    later zero = refl
    later (suc zero) = refl
    later (suc (suc zero)) = refl
    later (suc (suc (suc zero))) = refl
    later (suc (suc (suc (suc i)))) = refl
