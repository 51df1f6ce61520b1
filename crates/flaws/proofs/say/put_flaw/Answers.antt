-- `flaws::say::put_flaw` meets its contract, flaw by flaw.
-- Assumes nothing.
use borrow.Author.Rules.{rules}
use Rattle.flaws.proofs.say.put_flaw.Goals as goal

pub returns-in-NoLine : goal.returns-in-NoLine
returns-in-NoLine c = rw (c.in-Some.is, c.in-NoLine.is) (search rules)
