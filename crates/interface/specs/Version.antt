-- The version of what is exported, CUY_VERSION of `include/cuyenalot.h`: `examples/run` holds the header to it.
-- Assumes nothing: this is a definition.
use Rattle.std.specs.Prelude.{ℕ}

-- raised by each change of an answer's numbers, of a function's parameters or of the table's length
abbrev pub version_now : ℕ
version_now = 4
