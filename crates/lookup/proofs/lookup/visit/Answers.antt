-- `lookup::lookup::visit` meets its contract: a partition that its starts break is not walked through, and any other is.
-- Assumes nothing.
use mathlib.Core.Path.{sym}
use native.Mathlib.Omega.{arith}
use Rattle.lists.specs.Rules.{lent}
use Rattle.tables.specs.Layout.{seen}
use Rattle.lookup.proofs.Within.{few_rules, few_fields, start_read}
use Rattle.lookup.proofs.Visits.{by-none, by_past, by_going, by_walk}
use Rattle.lookup.proofs.lookup.visit.Goals as goal

pub start_in-s-requires : goal.start_in-s-requires
start_in-s-requires c = start_read c.requires.0 _ (omega (arith, c.requires.1))

pub overflow_add-q : goal.overflow_add-q
overflow_add-q c = omega (arith, c.requires.1, c.requires.0.rules, few_rules c.requires.0)

pub start_in-e-requires : goal.start_in-e-requires
start_in-e-requires c = start_read c.requires.0 _ (omega (arith, c.requires.1))

-- no place
pub returns-then-e-s : goal.returns-then-e-s
returns-then-e-s c =
    let a = c.args in
    sym
    (by-none (lent a.list.now) (seen a.table.now) a.header.now a.table.now.room a.q c.requires.0.rules
    c.start_in-s.ensures c.start_in-e.ensures c.if-e-s.true)

-- an end past n
pub returns-then-table-e : goal.returns-then-table-e
returns-then-table-e c =
    let a = c.args in
    sym
    (by_past (lent a.list.now) (seen a.table.now) a.header.now a.table.now.room a.q c.requires.0.rules
    c.start_in-s.ensures c.start_in-e.ensures c.if-e-s.false c.if-table-e.true)

pub walk-requires : goal.walk-requires
walk-requires c =
    let a = c.args in
    let ready = c.requires.0 in record {
      ready = ready;
      going = by_going (lent a.list.now) (seen a.table.now) a.header.now a.table.now.room a.q ready.rules
          c.start_in-s.ensures c.start_in-e.ensures c.if-e-s.false c.if-table-e.false (omega arith) (omega (arith, ready.rules, few_rules ready)) (omega (arith, ready.fields, few_fields ready));
    }

-- the walk
pub returns : goal.returns
returns c =
    let a = c.args in
    let ready = c.requires.0 in
    by_walk (lent a.list.now) (seen a.table.now) a.header.now a.table.now.room a.q ready.rules
    c.start_in-s.ensures c.start_in-e.ensures c.if-e-s.false c.if-table-e.false (few_rules ready) (few_fields ready) _
    (λ k lt. c.walk.ensures k (omega (arith, ready.fields))) _ c.unpack.ensures
