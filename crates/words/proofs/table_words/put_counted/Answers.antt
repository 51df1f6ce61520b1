-- `words::table_words::put_counted` meets its contract: the count, the word, and the numbers.
-- Assumes nothing.
use Rattle.words.proofs.Words.{counted_put}
use Rattle.words.proofs.table_words.put_counted.Goals as goal

pub returns : goal.returns
returns c = counted_put _ _ c.put_count.ensures c.text.ensures c.put_table.ensures
