-- `sorting::build::write_built` meets its contract: the run is first fit's, the rules are put in order by it, and the table is written with
-- them (`Building.antt`).
-- Assumes nothing.
use mathlib.Core.Path.{sym, ◌∙◌}
use Rattle.lists.specs.Limits.{most_rules}
use Rattle.sorting.proofs.Writing.Room.{room_long}
use Rattle.sorting.proofs.Answering.Building.{room_few, room_run, chosen_fits, chosen_count, chosen_laying}
use Rattle.sorting.proofs.build.write_built.Goals as goal

pub slice_bounds-run-end : goal.slice_bounds-run-end
slice_bounds-run-end c = room_few c.requires c.rules_in-n.ensures

pub slice_bounds-first_fit-end : goal.slice_bounds-first_fit-end
slice_bounds-first_fit-end c = room_long most_rules _ (room_few c.requires c.rules_in-n.ensures)

pub first_fit-b-requires : goal.first_fit-b-requires
first_fit-b-requires c = room_run c.requires c.rules_in-n.ensures

pub slice_bounds-run-end-2 : goal.slice_bounds-run-end-2
slice_bounds-run-end-2 c =
    chosen_fits c.requires c.rules_in-n.ensures c.first_fit-b.ensures _

pub slice_bounds-sort_out-end : goal.slice_bounds-sort_out-end
slice_bounds-sort_out-end c =
    chosen_count c.requires c.rules_in-n.ensures c.first_fit-b.ensures _

pub slice_bounds-order-end : goal.slice_bounds-order-end
slice_bounds-order-end c =
    room_few c.requires c.rules_in-n.ensures

pub slice_bounds-sort_out-end-2 : goal.slice_bounds-sort_out-end-2
slice_bounds-sort_out-end-2 c =
    room_long most_rules _ (room_few c.requires c.rules_in-n.ensures)

pub sort_out-requires : goal.sort_out-requires
sort_out-requires c =
    let pre = c.requires in (
      (chosen_laying pre c.rules_in-n.ensures c.first_fit-b.ensures _).dealt,
      sym (room_long most_rules _ (room_few pre c.rules_in-n.ensures)) ∙ chosen_count pre c.rules_in-n.ensures c.first_fit-b.ensures _,
    )
