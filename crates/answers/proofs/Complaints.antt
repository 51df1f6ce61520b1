-- A law of what is said of the headers (`specs/Complaints.antt`).
--     none_told      where no line was refused
-- Assumes nothing.
use Prim.Native.Nat.{ℕ}
use mathlib.Core.List.{List}
use mathlib.Core.Path.{◌≡◌, refl}
use Rattle.std.specs.Prelude.{None}
use Rattle.text.specs.Texts.{bytes}
use Rattle.text.specs.Decimals.{decimal_of}
use Rattle.flaws.specs.Said.{plural_said}
use Rattle.answers.specs.Complaints.{lines_refused_said}

pub none_told : (path : List ℕ) (d : ℕ) → lines_refused_said path d None ≡ bytes "0 lines refused, the first is line 0"
unfolding decimal_of plural_said
none_told path d = refl
