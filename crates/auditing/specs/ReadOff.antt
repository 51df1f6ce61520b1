-- 02, W4: the run of partition numbers that is read off a table: of a table that a list and a choice make, the choice (`off_back`).
-- Assumes nothing: these are definitions.
use Rattle.std.specs.Prelude.{ℕ, suc, List, ltb, eqb}
use Rattle.ranges.specs.Numbers.{least, tab}
use Rattle.lists.specs.Rules.{Rules, rules_in}
use Rattle.tables.specs.Layout.{View}
use Rattle.tables.specs.Opening.{view_of}

-- the partition of place p: the first that ends past it; b where none does
unfoldable pub part_at : View → ℕ → ℕ
part_at v p = least v.b (λ q. ltb p (v.start (suc q)))

-- the place of rule i: the first of the n at which it stands; n where it stands at none
unfoldable pub place_in : ℕ → View → ℕ → ℕ
place_in n v i = least n (λ p. eqb (v.order p) i)

-- each of the n rules' partition number
unfoldable pub run_off : ℕ → View → List ℕ
run_off n v = tab n (λ i. part_at v (place_in n v i))

-- the run read off a table that is lent with this list
abbrev pub read_off : Rules → List ℕ → List ℕ
read_off R T = run_off (rules_in R) (view_of R T)
