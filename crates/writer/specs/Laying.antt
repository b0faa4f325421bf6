-- What is laid before a row, and what a message laid out comes to.
use Rattle.std.specs.Prelude.{[], ◌++◌, Option, Some, None}
use Rattle.label.specs.Bytes.{Bytes}
use Rattle.label.specs.Formats.{widest, rule_of}
use Rattle.label.specs.Layout.{Row}
use Rattle.label.specs.Rendered.{marks_between}
use Rattle.label.specs.Writing.{item_in}

-- behind the row before it, if there is one; before the first nothing, since the header stands there
abbrev pub marks_before : Option Row → Row → Bytes
marks_before None row = []
marks_before (Some before) row = marks_between (rule_of widest row.format) before.kind row.kind

-- and that and the row's content
abbrev pub laid : Bytes → Option Row → Row → Bytes
laid held before row = marks_before before row ++ (item_in held row).content
