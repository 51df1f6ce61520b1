-- `sorting::run_fault::run_fault` meets its contract: at each way out the tests that led there give the law of that refusal.
-- Assumes nothing.
use mathlib.Core.Bool.{not}
use mathlib.Core.Path.{ap, ◌∙◌}
use Rattle.std.specs.Prelude.{Err}
use Rattle.sorting.proofs.Answering.RunFaults.{by-numbered, by_few, by_number, by_fitting, by_gap, by-clash, by-fine}
use Rattle.sorting.proofs.run_fault.run_fault.Goals as goal

pub numbers_fit-requires : goal.numbers_fit-requires
numbers_fit-requires c = by_few _ _ c.in_ok-length_fault.ensures c.requires

-- 16
pub returns-then-not-numbers_fit : goal.returns-then-not-numbers_fit
returns-then-not-numbers_fit c =
    ap Err c.refuse.ensures ∙ by_number _ _ c.in_ok-length_fault.ensures c.numbers_fit.ensures (ap not c.if-not-numbers_fit.true)

pub no_gap-requires : goal.no_gap-requires
no_gap-requires c =
    by_fitting _ _ c.in_ok-length_fault.ensures c.requires c.numbers_fit.ensures (ap not c.if-not-numbers_fit.false)

-- 17
pub returns-then-not-no_gap : goal.returns-then-not-no_gap
returns-then-not-no_gap c =
    ap Err c.refuse-then-not-no_gap.ensures
    ∙ by_gap _ _ c.in_ok-length_fault.ensures c.numbers_fit.ensures (ap not c.if-not-numbers_fit.false) c.no_gap.ensures
    (ap not c.if-not-no_gap.true)

pub no_clash-requires : goal.no_clash-requires
no_clash-requires c = by-numbered _ _ c.in_ok-length_fault.ensures c.requires

-- 18
pub returns-then-not-no_clash : goal.returns-then-not-no_clash
returns-then-not-no_clash c =
    ap Err c.refuse-then-not-no_clash.ensures
    ∙ by-clash _ _ c.in_ok-length_fault.ensures c.numbers_fit.ensures (ap not c.if-not-numbers_fit.false) c.no_gap.ensures
    (ap not c.if-not-no_gap.false) c.no_clash.ensures (ap not c.if-not-no_clash.true)

-- none of them
pub returns : goal.returns
returns c =
    by-fine _ _ c.in_ok-length_fault.ensures c.numbers_fit.ensures (ap not c.if-not-numbers_fit.false) c.no_gap.ensures
    (ap not c.if-not-no_gap.false) c.no_clash.ensures (ap not c.if-not-no_clash.false)
