-- `sorting::run_fault::all_marked` meets its contract: each of the first b marks is set.
-- Assumes nothing.
use Prim.Native.Nat.{ℕ, ◌<◌}
use mathlib.Core.Bool.{true, false}
use mathlib.Core.Path.{◌≡◌}
use mathlib.Core.Logic.{◌↔◌}
use borrow.Author.Rules.{rules}
use lib.ListN.{get_or, take}
use Rattle.std.specs.Prelude.{IsTrue}
use Rattle.sorting.proofs.Answering.RunTests.{marked_all}
use Rattle.sorting.proofs.run_fault.all_marked.Goals as goal

pub returns : goal.returns
returns c =
    let told : IsTrue c.all.result ↔ ((k : ℕ) → k < c.args.b → get_or (take c.args.b c.args.marks.now) k false ≡ true) = search rules in
    marked_all c.args.marks.now c.args.b told
