-- `answers::complain::put_headers_flaws` meets its contract: its parts one after the other.
-- Assumes nothing.
use borrow.Author.Rules.{rules}
use Rattle.text.proofs.Puts.{puts_then}
use Rattle.answers.proofs.Fronts.{puts_run}
use Rattle.answers.proofs.complain.put_headers_flaws.Goals as goal

pub returns : goal.returns
returns c =
    let puts = puts_then (puts_then (puts_then c.put_named.ensures c.text.ensures) c.put_refused_lines.ensures) c.text-2.ensures in
    puts_run puts (search (rules, puts.same_run))
