-- A field whose bytes are plain, and for which the column Bytes asks no more, is right by its length alone.
use Prim.Native.Nat.{ℕ}
use mathlib.Core.Path.{◌≡◌, refl, sym, ap, ◌∙◌}
use mathlib.Core.Bool.{Bool, true, false, ◌&&◌, ◌||◌, true≢false, and-true}
use borrow.Author.Tests.{eqb-false}
use lib.ListN.{length, get_or}
use lib.Dec.{leb, eqb}
use Rattle.label.specs.Bytes.{Bytes, plain, every, is_empty}
use Rattle.label.specs.Limits.{limit_of, long_as}
use Rattle.label.specs.declared.Version.{Version}
use Rattle.label.specs.Fields.{field_bytes, least_fields, version_row, field}
use Rattle.pieces.proofs.FieldLaws.{plain_column, no_bytes}
use Rattle.sweeps.specs.Transport.{fits_in}

module _ (i : ℕ) (other : ((((eqb i 8 || eqb i 9) || eqb i 10) || eqb i 1) || eqb i 6) ≡ false) (p : Bytes) (ok : every plain p ≡ true) where
  column : (v : Version) → get_or (field_bytes v) i (every plain) p ≡ true
  column v = by (eqb i 8) (eqb i 9) (eqb i 10) (eqb i 1) (eqb i 6) refl refl refl refl refl other
    where
      by : (s t u w x : Bool) → eqb i 8 ≡ s → eqb i 9 ≡ t → eqb i 10 ≡ u → eqb i 1 ≡ w → eqb i 6 ≡ x → ((((s || t) || u) || w) || x) ≡ false → get_or (field_bytes v) i (every plain) p ≡ true
      by true t u w x h8 h9 h10 h1 h6 is = absurd (true≢false is)
      by false true u w x h8 h9 h10 h1 h6 is = absurd (true≢false is)
      by false false true w x h8 h9 h10 h1 h6 is = absurd (true≢false is)
      by false false false true x h8 h9 h10 h1 h6 is = absurd (true≢false is)
      by false false false false true h8 h9 h10 h1 h6 is = absurd (true≢false is)
      by false false false false false h8 h9 h10 h1 h6 is =
          sym (ap (λ test. test p) (plain_column v i (eqb-false i 8 h8) (eqb-false i 9 h9) (eqb-false i 10 h10) (λ j. h1 j || h6 j))) ∙ ok

  version_sized : (v : Version) → fits_in v i (length p) ≡ field v i p
  unfolding field long_as
  version_sized v =
      let long : Bool = leb (limit_of (version_row v) i).0 (length p) && leb (length p) (limit_of (version_row v) i).1 in
      (λ j. sym (and-true long) j || (leb least_fields i && no_bytes p j)) ∙ ap (λ t. (long && t) || (leb least_fields i && is_empty p)) (sym (column v))

  pub field_sized : (v : Version) (n : ℕ) → length p ≡ n → fits_in v i n ≡ true → field v i p ≡ true
  field_sized v n long fits = sym (version_sized v) ∙ ap (fits_in v i) long ∙ fits
