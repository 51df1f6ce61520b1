-- Scaffolding: only contracts of private functions cite this; nothing here has to be believed.
-- A walk's answer as one number, and back: what the walk that calls itself hands out (`src/lib.rt`, What it costs).
-- No part of 01: the contracts of `walk` and of what unpacks its answer cite it, and the contract of a visit does not.
-- Assumes nothing: these are definitions.
use Rattle.std.specs.Prelude.{ℕ, ◌+◌, ◌*◌, ◌/◌, ◌%◌, Some, None, Ok, Err, unwrap_or, eqb}
use Rattle.ranges.specs.Numbers.{pick}
use Rattle.lookup.specs.Walk.{Walked, ran, broken_walk}

-- 65536 times the rule number, and the tests; 65534 stands for no rule, 65535 for a broken table
-- (rule 1 after 6 tests is 65542)
abbrev pub packed : Walked → ℕ
packed (Ok x) = unwrap_or x.found 65534 * 65536 + x.tests
packed (Err x) = 65535 * 65536

-- the answer that a number stands for
unfoldable pub unpacked : ℕ → Walked
unpacked c =
    pick (eqb (c / 65536) 65535) broken_walk
    (pick (eqb (c / 65536) 65534) (ran None (c % 65536)) (ran (Some (c / 65536)) (c % 65536)))
