-- `auditing::checks::ends_fine` meets its contract: each field in turn.
-- Assumes nothing.
use Rattle.std.proofs.Common.{rules}
use borrow.Author.Tests.{tests}
use Rattle.tables.specs.Layout.{view}
use Rattle.auditing.specs.Checks.{end_fine}
use Rattle.auditing.proofs.Checking.{tested_all}
use Rattle.auditing.proofs.checks.ends_fine.Goals as goal

pub returns : goal.returns
returns c =
    let a = c.args in
    tested_all (end_fine (view a.table.now.room a.table.now.d a.table.now.numbers.now) a.s a.e) a.table.now.d _ _ _ c.all.ensures.ran (λ x b q k. search (rules, tests))
