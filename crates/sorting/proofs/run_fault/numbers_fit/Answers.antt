-- `sorting::run_fault::numbers_fit` meets its contract: each number is below n.
-- Assumes nothing.
use Prim.Native.Nat.{ℕ, ◌<◌}
use mathlib.Core.Logic.{◌↔◌}
use borrow.Author.Rules.{rules}
use lib.ListN.{length, get_or}
use Rattle.std.specs.Prelude.{IsTrue}
use Rattle.sorting.proofs.Answering.RunTests.{fit_all}
use Rattle.sorting.proofs.run_fault.numbers_fit.Goals as goal

pub returns : goal.returns
returns c =
    let told : IsTrue c.all.result ↔ ((k : ℕ) → k < length c.args.run.now → get_or c.args.run.now k 0 < length c.args.run.now) = search rules in
    fit_all c.args.run.now told
