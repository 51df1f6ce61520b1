-- `sorting::run_fault::is_apart` meets its contract: rules of different partitions are not compared.
-- Assumes nothing.
use Rattle.lists.specs.Rules.{lent}
use Rattle.sorting.proofs.Partitions.Compared.{clash_told}
use Rattle.sorting.proofs.Answering.RunTests.{apart_same}
use Rattle.sorting.proofs.run_fault.is_apart.Goals as goal

pub returns : goal.returns
returns c =
    let a = c.args in
    apart_same (lent a.list.now) a.run.now a.i a.j c.if-run-j.false (clash_told c.requires.1 c.rules_clash.ensures)
