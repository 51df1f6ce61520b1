-- `sorting::run_fault::no_gap` meets its contract: each number below b has a mark.
-- Assumes nothing.
use Rattle.sorting.proofs.Partitions.Seen.{seen_none}
use Rattle.sorting.proofs.Answering.RunTests.{parts_few, gap_told}
use Rattle.sorting.proofs.run_fault.no_gap.Goals as goal

pub mark_used-requires : goal.mark_used-requires
mark_used-requires c = (c.requires, seen_none _)

pub all_marked-requires : goal.all_marked-requires
all_marked-requires c = parts_few c.requires c.parts_in-b.ensures

pub returns : goal.returns
returns c =
    gap_told c.requires c.parts_in-b.ensures c.mark_used.ensures c.all_marked.ensures
