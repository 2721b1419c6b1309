-- Two words as one number. Definitions only.
use Rattle.std.specs.Prelude.{ℕ, ◌+◌, ◌*◌, ◌^◌}
use Rattle.fused_integer.specs.declared.Wide.{Wide}

abbrev pub words : Wide → ℕ
words w = w.hi * 2 ^ 64 + w.lo
