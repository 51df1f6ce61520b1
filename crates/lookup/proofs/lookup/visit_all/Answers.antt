-- The answers that the check does not find alone: the ways out first, so that a search that stops early fails by the contract.
use mathlib.Core.Path.{◌≡◌, sym, ◌∙◌}
use Rattle.std.proofs.Common.{rules}
use Rattle.ranges.specs.Refusals.{refused}
use Rattle.ranges.specs.declared.refusal.Cause.TheVariants.{BrokenTable}
use native.Mathlib.Omega.{arith}
use Rattle.lookup.proofs.Within.{few_rules, few_fields, least-read}
use Rattle.lookup.proofs.Turns.{visited_skipped, visited_broken, visited_on, ends_nothing, ends_match, searched}
use Rattle.lookup.proofs.lookup.visit_all.Goals as goal

-- none
pub returns-in_default : goal.returns-in_default
returns-in_default c = grind (arith, ends_nothing c.loop-q.invariant c.part_count-b.ensures)

-- a match
pub returns : goal.returns
returns c =
    grind (arith, ends_match c.loop-q.invariant c.part_count-b.ensures c.requires.ready.shape_stands c.in-Some.i c.rule_edge-edge.result c.rule_edge-edge.ensures)

-- a broken partition
pub returns-in_err-found : goal.returns-in_err-found
returns-in_err-found c =
    let told : c.from_residual.result ≡ refused BrokenTable = search rules in
    told
    ∙ sym (visited_broken c.loop-q.invariant (omega arith) c.if-is_skipped.ensures c.in_err-found.ensures)
    ∙ searched _ _ _ c.requires.ready.rules c.part_count-b.ensures

pub is_skipped-requires : goal.is_skipped-requires
is_skipped-requires c = least-read c.requires.ready _ (omega arith)

-- a hit or a miss
pub loop-q-preserved : goal.loop-q-preserved
loop-q-preserved c =
    let lent = c.requires.ready in
    rw (sym c.smaller-best.ensures) at (visited_on c.loop-q.invariant (omega arith) c.if-is_skipped.ensures (few_rules lent) (few_fields lent) _ _ c.in_ok-found.ensures)

-- skipped
pub loop-q-preserved-then-is_skipped : goal.loop-q-preserved-then-is_skipped
loop-q-preserved-then-is_skipped c = visited_skipped c.loop-q.invariant (omega arith) c.if-is_skipped.ensures
