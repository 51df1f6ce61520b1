-- `flaws::say::put_complaint` meets its contract: its parts one after the other.
-- Assumes nothing.
use borrow.Author.Rules.{rules}
use Rattle.text.proofs.Puts.{puts_then}
use Rattle.flaws.proofs.say.put_complaint.Goals as goal

pub returns : goal.returns
returns c =
    let puts = puts_then (puts_then (puts_then c.put_named.ensures c.text.ensures) c.put_flaw.ensures) c.text-2.ensures in
    search (rules, puts.put, puts.same_run)
