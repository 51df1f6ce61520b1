-- The answers that the check does not find alone.
use native.Mathlib.Omega.{arith}
use Rattle.words.proofs.Lent.{rest_long}
use Rattle.hearing.specs.Lines.{heard}
use Rattle.calls.proofs.Replies.{served_lines}
use Rattle.calls.proofs.serve.serve_piece.Goals as goal

pub overflow_add-next : goal.overflow_add-next
overflow_add-next c =
    let bytes = c.args.bytes.now in
    let loop = c.loop-next in
    let size = rest_long bytes loop.next in
    let turn = served_lines (heard loop.present loop.name loop.numbers) c.serve_lines-place.ensures (omega arith) in
    omega (arith, c.well_formed.1.1.0.0)

pub loop-next-preserved : goal.loop-next-preserved
loop-next-preserved c =
    let bytes = c.args.bytes.now in
    let loop = c.loop-next in
    let size = rest_long bytes loop.next in
    let turn = served_lines (heard loop.present loop.name loop.numbers) c.serve_lines-place.ensures (omega arith) in
    omega arith
