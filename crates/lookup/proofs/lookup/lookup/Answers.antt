-- `lookup::lookup::lookup` meets its contract: a table that does not open is refused as `open_fault` says; one that opens is searched.
-- Assumes nothing.
use mathlib.Core.Path.{refl}
use native.Mathlib.Omega.{arith}
use Rattle.lookup.proofs.Lookups.{by_opened, by_few, by_ready, by_parts, by_search}
use Rattle.lookup.proofs.lookup.lookup.Goals as goal

-- all partitions
pub returns : goal.returns
returns c = by_search _ _ c.in_ok-open_fault.ensures _ c.rules_in-room.ensures _ _ c.visit_all.ensures

pub overflow_cast-room : goal.overflow_cast-room
overflow_cast-room c = omega (arith, by_few _ _ c.in_ok-open_fault.ensures _ c.rules_in-room.ensures)

pub overflow_cast-d : goal.overflow_cast-d
overflow_cast-d c = omega (arith, (by_opened _ _ c.in_ok-open_fault.ensures).shape_stands.few_fields)

pub visit_all-requires : goal.visit_all-requires
visit_all-requires c =
    record {
      ready = by_ready _ _ c.in_ok-open_fault.ensures _ c.rules_in-room.ensures refl refl;
      few_parts = by_parts _ _ c.in_ok-open_fault.ensures _ c.rules_in-room.ensures;
    }
