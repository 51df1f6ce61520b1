-- What the walk reads of a list and a table that the opening let through (`specs/Lent.antt`) lies within them.
--     few_rules, few_fields                at most 1,024 rules of at most eight fields
--     start_read, least-read               a partition's start and smallest rule number
--     order_read, from_read, to_read       a place's row
--     field_read                           a rule's range in a field
-- Assumes nothing.
use Prim.Native.Nat.{ℕ, ◌≤◌, ◌<◌}
use native.Mathlib.Omega.{arith}
use lib.ListN.{length}
use Rattle.lists.specs.Limits.{most_fields, most_rules}
use Rattle.lists.specs.Rules.{Rules, fields_of, rules_in}
use Rattle.lists.specs.Asked.{HasField}
use Rattle.lists.proofs.Rules.{has_rule, has_field}
use Rattle.tables.specs.Layout.{order_at, start_at, least_at, from_at, to_at}
use Rattle.tables.proofs.Offsets.{order_inside, start_inside, least_inside, from_inside, to_inside}
use Rattle.tables.specs.declared.read.Table.{Table}
use Rattle.lookup.specs.Lent.{Ready}

module _ {R : Rules} {t : Table} (lent : Ready R t) where
  pub few_rules : rules_in R ≤ most_rules
  few_rules = lent.shape_stands.few_rules

  pub few_fields : fields_of R ≤ most_fields
  few_fields = lent.shape_stands.few_fields

  pub start_read : (q : ℕ) → q ≤ t.room → start_at t.room q < length t.numbers.now
  start_read q le = omega (arith, start_inside t.room (t.d) q le, lent.sized.long)

  pub least-read : (q : ℕ) → q < t.room → least_at t.room q < length t.numbers.now
  least-read q lt = omega (arith, least_inside t.room (t.d) q lt, lent.sized.long)

  pub order_read : (p : ℕ) → p < t.room → order_at p < length t.numbers.now
  order_read p lt = omega (arith, order_inside t.room (t.d) p lt, lent.sized.long)

  pub from_read : (p f : ℕ) → p < t.room → f < t.d → from_at t.room (t.d) p f < length t.numbers.now
  from_read p f lt in_row = omega (arith, from_inside t.room (t.d) p f lt in_row, lent.sized.long)

  pub to_read : (p f : ℕ) → p < t.room → f < t.d → to_at t.room (t.d) p f < length t.numbers.now
  to_read p f lt in_row = omega (arith, to_inside t.room (t.d) p f lt in_row, lent.sized.long)

  pub field_read : (i f : ℕ) → i < t.room → f < t.d → HasField R i f
  field_read i f lt in_row = has_field (has_rule lent.shape_stands (omega (arith, lent.rules))) (omega (arith, lent.fields))
