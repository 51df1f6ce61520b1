-- The table that the build writes keeps the promise: first fit is a choice (`FirstFits.antt`), and the table of any choice keeps
-- it (`Kept.antt`).
--     built_keeps_promise      for a list whose ranges all hold a number
--     list_keeps_promise       for a list that meets none of the refusals 1 to 4
-- Assumes nothing.
use mathlib.Core.Path.{◌≡◌}
use Rattle.lists.specs.Rules.{Rules}
use Rattle.lists.specs.Faults.{list_fault}
use Rattle.tables.specs.Opening.{view_of}
use Rattle.sorting.specs.Promise.{Promise}
use Rattle.sorting.specs.Table.{built_table}
use Rattle.ranges.specs.Refusals.{none}
use Rattle.lists.proofs.Sound.{Sound, list_sound}
use Rattle.sorting.proofs.Sorted.Kept.{choice_keeps_promise}
use Rattle.sorting.proofs.Partitions.FirstFits.{first_fit_choice}

module _ (R : Rules) where
  pub built_keeps_promise : Sound R → Promise R (view_of R (built_table R))
  built_keeps_promise sound = choice_keeps_promise sound (first_fit_choice R)

  pub list_keeps_promise : list_fault R ≡ none → Promise R (view_of R (built_table R))
  list_keeps_promise stands = built_keeps_promise (list_sound R stands)
