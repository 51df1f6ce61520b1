-- Scaffolding: only contracts of private functions cite this; nothing here has to be believed.
-- What the walk is lent: a list and a table that the opening let through, and a group of places of that table. The
-- functions below `lookup` require these; `lookup` itself requires nothing.
-- Assumes nothing: these are definitions.
use Rattle.std.specs.Prelude.{ℕ, ◌+◌, ◌-◌, ◌≤◌, ◌<◌, ◌≡◌}
use Rattle.lists.specs.Rules.{Rules, fields_of, rules_in, Shaped}
use Rattle.tables.specs.Layout.{TableFor}
use Rattle.tables.specs.declared.read.Table.{Table}

-- a list whose shape stands, and a table of the right length, which has room for its rules of so many fields
pub record Ready (R : Rules) (t : Table) : Type 0 where
  pub rules : t.room ≡ rules_in R
  pub fields : t.d ≡ fields_of R
  pub shape_stands : Shaped R
  pub sized : TableFor t.room t.d t.numbers.now

-- a group that is not empty, of places s to before e of n, at a field f of d
pub record Group (n d s e f : ℕ) : Type 0 where
  pub some : s < e
  pub in_table : e ≤ n
  pub in_row : f < d

-- the same where a walk goes on with t tests made: the group may be empty, the field may be d, and the count stays small
pub record Going (n d s e f t : ℕ) : Type 0 where
  pub in_table : e ≤ n
  pub in_row : f ≤ d
  pub few_tests : t + (e - s) + (d - f) ≤ 4096
