-- `auditing::checks::leasts_fine` meets its contract: each number stored in turn.
-- Assumes nothing.
use Rattle.std.proofs.Common.{rules}
use lib.ListN.{get_or}
use borrow.Author.Tests.{tests}
use Rattle.tables.specs.Layout.{b_at, order_in, start_in, least_in}
use Rattle.auditing.specs.Checks.{least_fine}
use Rattle.auditing.proofs.Checking.{tested_all}
use Rattle.auditing.proofs.checks.leasts_fine.Goals as goal

pub returns : goal.returns
returns c =
    let a = c.args in
    let P = least_fine a.table.now.room (get_or a.table.now.numbers.now b_at 0) (order_in a.table.now.numbers.now) (start_in a.table.now.room a.table.now.numbers.now) (least_in a.table.now.room a.table.now.numbers.now) in
    tested_all P a.table.now.room _ _ _ c.all.ensures.ran (λ x b q k. search (rules, tests))
