-- What a worker asks of its caller. No promise rests on this page.
use Rattle.std.specs.Prelude.{not, T, Float, Option, Some, None}
use Rattle.std.specs.Float.Ieee.{is_nan}

-- a reading that is a number: only that has a bit pattern of its own
abbrev pub NoNan : Option Float → Type 0
NoNan (Some hertz) = T (not (is_nan hertz))
NoNan None = Unit {0}
