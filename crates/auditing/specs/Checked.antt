-- The local facts of a table, each of a place and the next, of a partition or of a partition and the next: those that a linear audit tests. A table has
-- them exactly where some choice of partitions makes it (`proofs/Laid.antt`, `checked_made`, `made_checked`).
-- Assumes nothing: these are definitions.
use Rattle.std.specs.Prelude.{ℕ, suc, ◌≤◌, ◌<◌, true, ◌≡◌, ltb}
use Rattle.ranges.specs.Numbers.{pick}
use Rattle.lists.specs.Rules.{Rules, fields_of, rules_in}
use Rattle.ordering.specs.Order.{before, alike_fields}
use Rattle.tables.specs.Layout.{View}
use Rattle.sorting.specs.Promise.{Smallest}

-- places p and p + 1 are both of partition q
pub record Neighbours (v : View) (q p : ℕ) : Type 0 where
  pub part : q < v.b
  pub from_start : v.start q ≤ p
  pub to_next : suc p < v.start (suc q)

-- how many first fields the rules at places p and p + 1 have alike
abbrev pub joined : Rules → View → ℕ → ℕ
joined R v p = alike_fields R (v.order p) (v.order (suc p))

pub record Checked (R : Rules) (v : View) : Type 0 where
  -- n and d are right, and b is at most n
  pub rules : v.n ≡ rules_in R
  pub fields : v.d ≡ fields_of R
  pub few_parts : v.b ≤ rules_in R
  -- the starts ascend strictly from 0 to n, zeros behind
  pub first_start : v.start 0 ≡ 0
  pub last_start : v.start v.b ≡ rules_in R
  pub ascend : (q : ℕ) → q < v.b → v.start q < v.start (suc q)
  pub zeros : (q : ℕ) → v.b < q → q ≤ rules_in R → v.start q ≡ 0
  -- the stored number of each partition is its smallest, zeros behind
  pub smallest : (q : ℕ) → q < v.b → Smallest v q (v.least q)
  pub no_least : (q : ℕ) → v.b ≤ q → q < rules_in R → v.least q ≡ 0
  -- each rule stands at one place
  pub order_rule : (p : ℕ) → p < rules_in R → v.order p < rules_in R
  pub order_once : (p r : ℕ) → p < rules_in R → r < rules_in R → v.order p ≡ v.order r → p ≡ r
  -- neighbours of one partition ascend
  pub sorted : (q p : ℕ) → Neighbours v q p → before R (v.order p) (v.order (suc p)) ≡ true
  -- a row of run-froms by the place before: it begins anew at a partition's first place
  pub from_first : (q f : ℕ) → q < v.b → f < fields_of R → v.from (v.start q) f ≡ v.start q
  pub from_next : (q p f : ℕ) → Neighbours v q p → f < fields_of R → v.from (suc p) f ≡ pick (ltb f (joined R v p)) (v.from p f) (suc p)
  -- a row of run-tos by the place after: it ends at a partition's last place
  pub to_last : (q p f : ℕ) → q < v.b → suc p ≡ v.start (suc q) → f < fields_of R → v.to p f ≡ suc p
  pub to_next : (q p f : ℕ) → Neighbours v q p → f < fields_of R → v.to p f ≡ pick (ltb f (joined R v p)) (v.to (suc p) f) (suc p)
