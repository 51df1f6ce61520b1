-- `flaws::say::put_plural` meets its contract.
-- Assumes nothing.
use borrow.Author.Tests.{ne_eqb}
use Rattle.text.proofs.Puts.{puts_then}
use Rattle.flaws.specs.Said.{plural_said}
use Rattle.flaws.proofs.say.put_plural.Goals as goal

pub returns-then-n-ne1 : goal.returns-then-n-ne1
unfolding plural_said
returns-then-n-ne1 c = rw (ne_eqb c.args.n 1 c.if-n-ne1.true) (puts_then c.text.ensures c.text-then-n-ne1.ensures)
