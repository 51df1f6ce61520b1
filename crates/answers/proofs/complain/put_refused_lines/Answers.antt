-- `answers::complain::put_refused_lines` meets its contract: its parts one after the other, of the lines that were refused or of none.
-- Assumes nothing.
use Prim.Native.Nat.{ℕ}
use mathlib.Core.List.{List}
use mathlib.Core.Path.{◌≡◌}
use Rattle.std.specs.Prelude.{Option}
use Rattle.std.proofs.Common.{rules}
use Rattle.std.specs.Option.{unwrap_or}
use Rattle.text.specs.Puts.{Puts}
use Rattle.text.specs.declared.put.Out.{Out}
use Rattle.text.proofs.Puts.{puts_then}
use Rattle.answers.specs.Complaints.{none_refused, why_said}
use Rattle.answers.specs.declared.answer.HeaderFlaw.{HeaderFlaw}
use Rattle.answers.proofs.complain.put_refused_lines.Goals as goal

-- why, where it is the same reason
why_put : (path : List ℕ) (d : ℕ) (g : Option HeaderFlaw) {f : Option HeaderFlaw} {o p : Out} → Puts o (why_said path d f) p → f ≡ g → Puts o (why_said path d g) p
why_put path d g put same = rw (← same) put

pub returns : goal.returns
returns c =
    let told : c.unwrap_or-refused.result ≡ unwrap_or c.args.headers.refused none_refused = c.unwrap_or-refused.ensures in
    let why = why_put c.args.path.now c.args.d c.unwrap_or-refused.result.flaw c.put_why.ensures (search rules) in
    rw (← told) (puts_then (puts_then (puts_then c.put_counted.ensures c.text.ensures) c.number.ensures) why)
