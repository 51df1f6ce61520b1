-- `auditing::audit::audit` meets its contract: the tests say yes exactly where the run read off makes the table.
-- Assumes nothing.
use mathlib.Core.Path.{sym, ap, ◌∙◌}
use Rattle.std.specs.Prelude.{Ok}
use Rattle.ranges.proofs.InARow.{or_ok}
use Rattle.sorting.proofs.Answering.BuildFaults.{buildable}
use Rattle.auditing.proofs.Audits.{checks_laid}
use Rattle.auditing.proofs.audit.audit.Goals as goal

pub returns : goal.returns
returns c =
    ap Ok (c.is_laid.ensures ∙ checks_laid _ _ (buildable _ _ (sym c.in_ok-build_fault.ensures))) ∙ or_ok c.in_ok-build_fault.ensures _
