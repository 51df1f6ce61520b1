-- `rulesfile::file::judged` meets its contract: a line without flaw leaves counts of 16 bits.
-- Assumes nothing.
use mathlib.Core.Path.{sym}
use native.Mathlib.Omega.{arith}
use Rattle.rulesfile.proofs.Steps.{fine_few}
use Rattle.rulesfile.proofs.file.judged.Goals as goal

pub overflow_add-result : goal.overflow_add-result
overflow_add-result c = omega (arith, fine_few c.args.rules c.args.line (omega arith) (sym c.in-None.ensures))

pub overflow_cast-result : goal.overflow_cast-result
overflow_cast-result c = omega (arith, fine_few c.args.rules c.args.line (omega arith) (sym c.in-None.ensures))
