-- Laws of the lines that are printed (`specs/Said.antt`).
--     number_said   a lookup that is refused by a number is printed with that number, whether a row has it or not
--     refused_line  the line of a refusal is that of the number that is said of it
-- Assumes nothing.
use Prim.Native.Nat.{ℕ}
use mathlib.Core.Path.{◌≡◌, refl}
use Rattle.std.specs.Prelude.{Err}
use Rattle.ranges.specs.Refusals.{refusing}
use Rattle.text.specs.declared.put.Out.{Out}
use Rattle.answers.specs.Said.{refused_said, looked_said, PutLine}

pub number_said : (number at then : ℕ) → looked_said (λ n. n) (Err (refusing number at then)) ≡ refused_said number
number_said number at then = refl

pub refused_line : (number : ℕ) {n : ℕ} {o p : Out} → PutLine o (refused_said n) p → n ≡ number → PutLine o (refused_said number) p
refused_line number put said = rw (← said) put
