-- The answers that the check does not find alone. `same` says that the run which is given back is the one that was lent.
use mathlib.Core.Path.{refl, sym, ◌∙◌}
use native.Mathlib.Omega.{arith}
use Rattle.calls.proofs.Replies.{turn_most, turn_some, came_more, lines_full, lines_all}
use Rattle.std.proofs.Common.{rules}
use Rattle.calls.proofs.reply.serve_lines.Goals as goal

pub overflow_add-next : goal.overflow_add-next
overflow_add-next c =
    let most = turn_most c.loop-next.invariant c.serve_line-next.ensures in
    omega (arith, c.well_formed.1.0.0)

pub returns-then-not-has_room : goal.returns-then-not-has_room
returns-then-not-has_room c =
    let loop = c.loop-next in
    let same = loop.invariant.said.same_run in
    lines_full loop.invariant c.serve_line-next.ensures refl (sym c.has_room.ensures ∙ c.if-not-has_room.true) (search rules)

pub loop-next-smaller : goal.loop-next-smaller
loop-next-smaller c =
    let loop = c.loop-next in
    let most = turn_most loop.invariant c.serve_line-next.ensures in
    let some = turn_some loop.invariant c.serve_line-next.ensures c.loop-next-test.true in
    omega arith

-- there is room
pub loop-next-preserved : goal.loop-next-preserved
loop-next-preserved c =
    came_more c.loop-next.invariant c.serve_line-next.ensures (sym c.has_room.ensures ∙ c.if-not-has_room.false)

pub returns : goal.returns
returns c =
    let same = c.loop-next.invariant.said.same_run in
    lines_all refl c.loop-next.invariant c.loop-next-test.false (search rules)
