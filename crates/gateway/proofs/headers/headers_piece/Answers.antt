-- The answers that the check does not find alone.
use native.Mathlib.Omega.{arith}
use Rattle.text.proofs.Files.{line_on_lem}
use Rattle.gateway.proofs.Printing.{wrote_long, going_more, piece_full}
use Rattle.gateway.proofs.headers.headers_piece.Goals as goal

pub overflow_add-i : goal.overflow_add-i
overflow_add-i c =
    let taken = line_on_lem _ c.args.bytes.now c.loop-i.i c.loop-i-test.true c.headers_line-next.ensures.used in
    omega (arith, taken.1, c.well_formed.1.0.0)

pub overflow_sub-out : goal.overflow_sub-out
overflow_sub-out c = omega (arith, wrote_long c.headers_line-next.ensures.printed.prints, c.loop-i.invariant.room)

pub returns-then-out : goal.returns-then-out
returns-then-out c = piece_full _ _ _ _ _ _ c.loop-i.invariant c.loop-i-test.true c.headers_line-next.ensures

pub loop-i-smaller : goal.loop-i-smaller
loop-i-smaller c =
    let taken = line_on_lem _ c.args.bytes.now c.loop-i.i c.loop-i-test.true c.headers_line-next.ensures.used in
    omega (arith, taken.0, taken.1)

pub loop-i-preserved : goal.loop-i-preserved
loop-i-preserved c =
    let long = wrote_long c.headers_line-next.ensures.printed.prints in
    going_more _ _ _ _ _ _ c.loop-i.invariant c.loop-i-test.true c.headers_line-next.ensures (omega (arith, c.loop-i.invariant.room))
