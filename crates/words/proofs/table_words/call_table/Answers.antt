-- The answer that the check does not find alone.
use mathlib.Core.Path.{sym}
use Rattle.words.proofs.Parts.{tables_told}
use Rattle.words.proofs.table_words.call_table.Goals as goal

pub put_tabled-requires : goal.put_tabled-requires
put_tabled-requires c = rw (← c.numbers_after.ensures) (tables_told _ _ (sym c.in-Some.ensures))
