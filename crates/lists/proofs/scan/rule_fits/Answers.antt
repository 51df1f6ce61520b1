-- `lists::scan::rule_fits` meets its contract: a rule that the list does not have does not fit, and one that it has is tested.
-- Assumes nothing.
use Rattle.lists.specs.Scan.{fits_in}
use Rattle.lists.proofs.InList.{in_told_by, listed-rule, unlisted, if_listed}
use Rattle.lists.proofs.scan.rule_fits.Goals as goal

-- no such rule
pub returns-then-not-in_list : goal.returns-then-not-in_list
unfolding fits_in
returns-then-not-in_list c = unlisted _ _ c.in_list.ensures _ c.if-not-in_list.true

pub fits_at-requires : goal.fits_at-requires
fits_at-requires c = listed-rule _ _ (in_told_by _ _ c.in_list.ensures c.if-not-in_list.false)

-- a rule of the list
pub returns : goal.returns
unfolding fits_in
returns c =
    if_listed _ _ c.in_list.ensures c.if-not-in_list.false c.fits_at.ensures
