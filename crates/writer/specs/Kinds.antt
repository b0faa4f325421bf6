-- Which row a number stands for.
use Rattle.std.specs.Prelude.{ℕ, ◌≡◌, ◌≢◌}
use Rattle.label.specs.Written.{indicator_row, value_row, piece_row, tag_row, element_row, sub_element_row}
use Rattle.writer.specs.declared.marks.RowKind.{RowKind}
use Rattle.writer.specs.declared.marks.RowKind.TheVariants.{Indicator, HeaderValue, Piece, Tag, LaterElement, FurtherSubElement, Body}

-- a number that is no other row's is taken as a body's
pub record IsOther (n : ℕ) : Type 0 where
  pub no_indicator : n ≢ indicator_row
  pub no_value : n ≢ value_row
  pub no_piece : n ≢ piece_row
  pub no_tag : n ≢ tag_row
  pub no_element : n ≢ element_row
  pub no_sub_element : n ≢ sub_element_row

abbrev pub IsKind : ℕ → RowKind → Type 0
IsKind n Indicator = n ≡ indicator_row
IsKind n HeaderValue = n ≡ value_row
IsKind n Piece = n ≡ piece_row
IsKind n Tag = n ≡ tag_row
IsKind n LaterElement = n ≡ element_row
IsKind n FurtherSubElement = n ≡ sub_element_row
IsKind n Body = IsOther n
