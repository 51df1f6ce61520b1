-- `words::prefix_words::put_expanded` meets its contract: the count, the word, and the run as the library left it.
-- Assumes nothing.
use Rattle.text.specs.Texts.{bytes}
use Rattle.words.proofs.Words.{counted_put}
use Rattle.words.proofs.prefix_words.put_expanded.Goals as goal

pub returns-clause-put_few : goal.returns-clause-put_few
returns-clause-put_few c =
    rw (← c.range_to_prefixes-count.ensures.value, ← c.range_to_prefixes-count.ensures.out_after, ← c.range_to_prefixes-count.auto.out)
    (counted_put (bytes " run") _ c.put_count.ensures c.text.ensures c.put_all.ensures)
