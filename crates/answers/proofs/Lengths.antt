-- No line that is printed is longer than `line_most` bytes (`specs/Said.antt`), since no number that the code holds has more than
-- 20 digits.
-- Assumes nothing.
use Prim.Native.Nat.{ℕ, ◌+◌, ◌^◌, ◌≤◌, ◌<◌}
use mathlib.Core.List.{List, ◌++◌}
use native.Mathlib.Omega.{arith}
use lib.ListN.{length, length-append}
use Rattle.std.specs.Prelude.{Option}
use Rattle.text.specs.Texts.{bytes}
use Rattle.text.specs.Decimals.{decimal_of}
use Rattle.text.proofs.Decimals.{decimal_short}
use Rattle.lookup.specs.declared.lookup.Match.{Match}
use Rattle.answers.specs.Said.{refused_said, found_said, tests_said, line_most}

pub few_digits : (n : ℕ) → n < 2 ^ 64 → length (decimal_of n) ≤ 20
few_digits n small = decimal_short 19 n (omega arith)

-- bytes before, a number, bytes after
around : (xs : List ℕ) (n : ℕ) (ys : List ℕ) → n < 2 ^ 64 → length (xs ++ decimal_of n ++ ys) ≤ length xs + 20 + length ys
around xs n ys small =
    let few = few_digits n small in
    rw (length-append (xs ++ decimal_of n) ys, length-append xs (decimal_of n)) (omega arith)

pub refused_short : (n : ℕ) → n < 2 ^ 64 → length (refused_said n) ≤ line_most
refused_short n small = omega (arith, around (bytes "refused,") n (bytes "\r\n") small)

pub tests_short : (t : ℕ) → t < 2 ^ 64 → length (tests_said t) ≤ 23
tests_short t small = omega (arith, around (bytes ",") t (bytes "\r\n") small)

pub looked_short : (found : Option Match) (t : ℕ) → length (found_said found) ≤ 20 → length (tests_said t) ≤ 23 → length (found_said found ++ tests_said t) ≤ line_most
looked_short found t few rest = rw (length-append (found_said found) (tests_said t)) (omega arith)
