-- The answers that the check does not find alone: the room is as long as the longest table.
use mathlib.Core.Path.{sym}
use Rattle.words.proofs.Longest.{table_most_lem}
use Rattle.words.proofs.Narrowing.{room_enough}
use Rattle.words.proofs.Parts.{table_few}
use Rattle.words.proofs.table_words.put_tabled.Goals as goal

pub slice_bounds-table-end : goal.slice_bounds-table-end
slice_bounds-table-end c = room_enough _ table_most_lem (table_few c.requires)

pub narrow-requires-clause-table_len : goal.narrow-requires-clause-table_len
narrow-requires-clause-table_len c = sym (room_enough _ table_most_lem (table_few c.requires))
