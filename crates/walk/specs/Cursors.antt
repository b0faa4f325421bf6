-- Where the walk over the rows of a message stands, and where it goes: for every list of bytes and every cursor (01, Envelope rules and Rows).
use Rattle.std.specs.Prelude.{ℕ, suc, ◌+◌, ◌-◌, ◌*◌, Bool, cond, [], ◌∷◌, length, get_or, take, drop, eqb, ltb}
use Rattle.label.specs.Limits.{longest}
use Rattle.label.specs.Bytes.{Bytes, GS, RS, US, plain, digit}
use Rattle.label.specs.Values.{release_length}
use Rattle.label.specs.Formats.{Rule, as_fields, as_rest, as_segments, as_elements, as_text, as_counted, unknown, widest, rule_of}
use Rattle.label.specs.Layout.{Row}
use Rattle.label.specs.Written.{indicator_row, value_row, piece_row, tag_row, element_row, sub_element_row, body_row}
use Rattle.label.specs.Message.{header}
use Rattle.leaves.specs.Seek.{seek}
use Rattle.walk.specs.declared.Stage.{Stage}
use Rattle.walk.specs.declared.Stage.TheVariants.{Indicator, VersionValue, ReleaseValue, TypeValue, CompressionValue, CountValue, Piece, Tag, LaterElement, FurtherSubElement, Body}
use Rattle.walk.specs.declared.Cursor.{Cursor}

-- the offset n bytes further, or the message's end where that comes first
abbrev pub ahead : Bytes → ℕ → ℕ → ℕ
ahead m at n = at + length (take n (drop at m))

-- how many bytes of a class stand in front, and how many plain bytes
abbrev pub run_of : (ℕ → Bool) → Bytes → ℕ
run_of class [] = 0
run_of class (b ∷ bs) = cond (class b) (suc (run_of class bs)) 0

abbrev pub plain_run : Bytes → ℕ
plain_run bs = run_of plain bs

-- the number that digits in front make behind those that make n; a number of 10,000 or more, longer than any message, grows no further
abbrev pub count_from : ℕ → Bytes → ℕ
count_from n [] = n
count_from n (b ∷ bs) = cond (digit b) (count_from (cond (ltb n longest) (10 * n + (b - 0x30)) n) bs) n

-- the kind of a row
abbrev pub kind_of : Stage → ℕ
kind_of Indicator = indicator_row
kind_of VersionValue = value_row
kind_of ReleaseValue = value_row
kind_of TypeValue = value_row
kind_of CompressionValue = value_row
kind_of CountValue = value_row
kind_of Piece = piece_row
kind_of Tag = tag_row
kind_of LaterElement = element_row
kind_of FurtherSubElement = sub_element_row
kind_of Body = body_row

-- a cursor at a row, and that row
abbrev pub standing : Stage → ℕ → ℕ → ℕ → Cursor
standing stage f at n = record { stage = stage; format = f; start = at; length = n }

abbrev pub row_of : Cursor → Row
row_of c = record { kind = kind_of c.stage; format = c.format; start = c.start; length = c.length }

-- a row of plain bytes ends before the first byte that is not plain
unfoldable pub plain_row : Bytes → Stage → ℕ → ℕ → Cursor
plain_row m stage f at = standing stage f at (plain_run (drop at m))

-- an indicator: two bytes, and the format that they say
unfoldable pub indicator_at : Bytes → ℕ → Cursor
indicator_at m at = standing Indicator (10 * (get_or m at 0 - 0x30) + (get_or m (at + 1) 0 - 0x30)) at 2

-- a body that ends before the next RS, and one that ends with the message
abbrev pub text_row : Bytes → ℕ → ℕ → Cursor
text_row m f at = standing Body f at (seek RS (drop at m))

abbrev pub rest_row : Bytes → ℕ → ℕ → Cursor
rest_row m f at = standing Body f at (length (drop at m))

-- the first row behind an indicator that ends at an offset, by the format's rule
unfoldable pub opening : Bytes → ℕ → ℕ → Rule → Cursor
opening m f end as_fields = standing VersionValue f (ahead m end 1) 2
opening m f end (as_rest permitted) = rest_row m f end
opening m f end (as_segments is_tag) = standing ReleaseValue f end release_length
opening m f end (as_elements is_element) = plain_row m Piece f (ahead m end 1)
opening m f end (as_text permitted) = text_row m f end
opening m f end (as_counted []) = plain_row m CountValue f end
opening m f end (as_counted (l ∷ ls)) = plain_row m TypeValue f (ahead m end 1)
opening m f end unknown = standing Body f end 0

-- behind a field of 01 or an element of 05, 06 or 12: the next one behind GS, else the next indicator behind RS
unfoldable pub after_piece : Bytes → ℕ → ℕ → Cursor
after_piece m f end = cond (eqb (get_or m end 0) GS) (plain_row m Piece f (ahead m end 1)) (indicator_at m (ahead m end 1))

-- behind a segment's FS: the next indicator where RS stands, else the next tag
unfoldable pub after_segment : Bytes → ℕ → ℕ → Cursor
after_segment m f at = cond (eqb (get_or m at 0) RS) (indicator_at m (ahead m at 1)) (plain_row m Tag f at)

-- behind a tag or a sub-element: US and a further sub-element, GS and a later element, or FS, the segment's end
unfoldable pub after_sub_element : Bytes → ℕ → ℕ → Cursor
after_sub_element m f end =
    cond (eqb (get_or m end 0) US) (plain_row m FurtherSubElement f (ahead m end 1))
    (cond (eqb (get_or m end 0) GS) (plain_row m LaterElement f (ahead m end 1))
    (after_segment m f (ahead m end 1)))

-- behind a row that starts and ends at offsets, by its stage
unfoldable pub following : Bytes → ℕ → ℕ → ℕ → Stage → Cursor
following m f start end Indicator = opening m f end (rule_of widest f)
following m f start end VersionValue = plain_row m Piece f end
following m f start end ReleaseValue = plain_row m Tag f (ahead m end 3)
following m f start end TypeValue = plain_row m CompressionValue f (ahead m end 1)
following m f start end CompressionValue = plain_row m CountValue f (ahead m end 1)
following m f start end CountValue = standing Body f (ahead m end 1) (count_from 0 (drop start m))
following m f start end Piece = after_piece m f end
following m f start end Tag = after_sub_element m f end
following m f start end LaterElement = after_sub_element m f end
following m f start end FurtherSubElement = after_sub_element m f end
following m f start end Body = indicator_at m (ahead m end 1)

-- the first row of a message, and the row behind a row
unfoldable pub first_cursor : Bytes → Cursor
first_cursor m = indicator_at m (length header)

unfoldable pub next_cursor : Bytes → Cursor → Cursor
next_cursor m c = following m c.format c.start (ahead m c.start c.length) c.stage
