-- The answers that the check does not find alone.
use mathlib.Core.Path.{refl, ◌∙◌}
use lib.ListN.{take}
use Rattle.gateway.proofs.Serving.{headers_start, headers_more, headers_ended}
use Rattle.gateway.proofs.answer_headers.headers_all.Goals as goal

pub loop-init : goal.loop-init
loop-init c = (refl, headers_start _ _ _ _ c.headers_start-start.ensures)

pub returns-in-Err : goal.returns-in-Err
returns-in-Err c = headers_ended _ _ _ c.loop.invariant.1 c.in-Err.why c.end_headers.result c.end_headers.ensures

pub loop-preserved : goal.loop-preserved
loop-preserved c =
    let p = take c.in-Ok.n c.read_some.new.bytes in (
      c.read_some.auto.bytes ∙ c.loop.invariant.0,
      headers_more _ _ _ c.loop.invariant.1 p c.in-Some.ensures c.answer_piece.auto.out,
    )
