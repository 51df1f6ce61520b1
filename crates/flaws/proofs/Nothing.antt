-- Laws of no flaw (`specs/Numbered.antt`, `specs/Said.antt`).
--     none_number, none_said      its number is 0, and nothing is said of it
-- Assumes nothing.
use Prim.Native.Nat.{ℕ}
use mathlib.Core.List.{List, []}
use mathlib.Core.Path.{◌≡◌, refl}
use Rattle.std.specs.Prelude.{None}
use Rattle.flaws.specs.Numbered.{number_of_flaw}
use Rattle.flaws.specs.Said.{flaw_said}

pub none_number : number_of_flaw None ≡ 0
none_number = refl

pub none_said : (path : List ℕ) → flaw_said path None ≡ []
none_said path = refl
