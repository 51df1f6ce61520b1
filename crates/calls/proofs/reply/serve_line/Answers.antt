-- `calls::reply::serve_line` meets its contract: each way out is the law of its case.
-- Assumes nothing.
use Prim.Native.Nat.{◌≤◌}
use mathlib.Core.Path.{sym}
use native.Mathlib.Omega.{arith}
use lib.ListN.{length}
use lib.Seq.{length-take-le}
use Rattle.hearing.proofs.Lines.{line_within}
use Rattle.calls.proofs.Serving.{served-within, served-ended, anew_is}
use Rattle.calls.proofs.reply.serve_line.Goals as goal

pub slice_bounds-hear-end : goal.slice_bounds-hear-end
slice_bounds-hear-end c =
    let bs = c.args.bytes.now in
    let le : c.line_in-k.result ≤ length bs = omega (arith, c.line_in-k.ensures, line_within bs) in
    sym (length-take-le _ _ le)

-- no line ends
pub returns-then-k-bytes : goal.returns-then-k-bytes
returns-then-k-bytes c =
    served-within _ _ _ c.line_in-k.ensures c.hear-more.ensures c.if-k-bytes.true

pub overflow_add-next : goal.overflow_add-next
overflow_add-next c =
    omega (arith, c.line_in-k.ensures, line_within c.args.bytes.now, c.well_formed.1.0.0)

-- a line ends
pub returns : goal.returns
returns c =
    served-ended _ _ _ c.line_in-k.ensures c.hear-more.ensures c.if-k-bytes.false c.answer.ensures.put_few (anew_is _ c.line_start-anew.ensures c.answer.ensures.numbers_after)
