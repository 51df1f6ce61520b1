-- The answers that the check does not find alone: the room is as long as the longest table.
use mathlib.Core.Path.{sym}
use Rattle.words.proofs.Longest.{table_most_lem}
use Rattle.words.proofs.Narrowing.{room_enough}
use Rattle.words.proofs.choice_words.put_laid.Goals as goal

pub slice_bounds-table-end : goal.slice_bounds-table-end
slice_bounds-table-end c = room_enough c.args.numbers.now table_most_lem c.requires.few

pub narrow-requires-clause-table_len : goal.narrow-requires-clause-table_len
narrow-requires-clause-table_len c = sym (room_enough c.args.numbers.now table_most_lem c.requires.few)
