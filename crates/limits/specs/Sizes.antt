-- Whether a length keeps a limit, as `long_as` has it of bytes.
use Rattle.std.specs.Prelude.{ℕ, Bool, ◌&&◌, leb}
use Rattle.label.specs.declared.Limit.{Limit}

abbrev pub size_within : Limit → ℕ → Bool
size_within l n = leb l.0 n && leb n l.1
