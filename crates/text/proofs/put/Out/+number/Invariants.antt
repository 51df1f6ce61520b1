-- `text::put::Out::number` calls itself on n / 10: the measure is the number.
-- Assumes nothing.
use Rattle.text.proofs.put.Out.+number.Given as goal

abbrev pub decreases-number : goal.decreases-number
decreases-number l = l.n
