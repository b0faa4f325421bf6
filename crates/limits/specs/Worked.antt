-- How version 96's limits are worked out from version 02's (document 02, No. 5).
use Rattle.std.specs.Prelude.{ℕ, cond, eqb}
use Rattle.label.specs.declared.Limit.{Limit}
use Rattle.label.specs.Limits.{◌to◌}

-- a field's limits in version 96, from those in version 02: No. 1 and No. 10 have another least length, and there is no No. 15
abbrev pub for96 : ℕ → Limit → Limit
for96 field l = cond (eqb field 0) (3 to l.1) (cond (eqb field 9) (1 to l.1) (cond (eqb field 14) (0 to 0) l))
