-- The answers that the check does not find alone.
use mathlib.Core.Path.{sym, ◌∙◌}
use lib.ListN.{take}
use Rattle.gateway.proofs.Serving.{on_more, on_flawed, on_ended}
use Rattle.gateway.proofs.read_rules.rules_all.Goals as goal

pub returns-in-Err : goal.returns-in-Err
returns-in-Err c = on_ended _ c.loop.invariant.1 c.in-Err.why c.end_rules.result c.end_rules.new.list c.end_rules.ensures

pub returns-then-is_some : goal.returns-then-is_some
returns-then-is_some c =
    let p = take c.in-Ok.n c.read_some.new.bytes in
    on_flawed _ c.loop.invariant.1 p c.rules_piece-file.ensures (sym c.is_some.ensures ∙ c.if-is_some.true) c.rules_end-rules.ensures

pub loop-preserved : goal.loop-preserved
loop-preserved c =
    let p = take c.in-Ok.n c.read_some.new.bytes in (
      c.read_some.auto.bytes ∙ c.loop.invariant.0,
      on_more _ c.loop.invariant.1 p c.rules_piece-file.ensures (sym c.is_some.ensures ∙ c.if-is_some.false) c.rules_piece-file.auto.list,
    )
