-- The answers that the check does not find alone.
use mathlib.Core.Path.{sym, ◌∙◌}
use native.Mathlib.Omega.{arith}
use Rattle.text.proofs.Lines.{going_ends, going_more, going_all}
use Rattle.text.proofs.line.read_line.Goals as goal

-- the line's end
pub returns-then-ends_line : goal.returns-then-ends_line
returns-then-ends_line c =
    going_ends _ _ _ _ c.loop-i.invariant c.loop-i-test.true (sym c.ends_line.ensures ∙ c.if-ends_line.true) c.end_cell.ensures

pub loop-i-preserved : goal.loop-i-preserved
loop-i-preserved c =
    going_more _ _ _ _ c.loop-i.invariant c.loop-i-test.true (sym c.ends_line.ensures ∙ c.if-ends_line.false) c.open_byte-present.ensures

-- all bytes
pub returns : goal.returns
returns c = going_all _ _ _ _ c.loop-i.invariant (omega arith)
