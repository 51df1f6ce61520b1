-- Laws of a rule's fields at an end of their ranges (`specs/Edges.antt`).
--     AtEdge, edge_at_iff         what it means that a rule has a field at an end
--     edge_listed                 of a rule of a list whose shape stands, whether the list has it need not be asked
--     edge_same                   only the first d numbers of a header are read
-- Assumes nothing.
use Prim.Native.Nat.{ℕ, ◌<◌}
use mathlib.Core.Bool.{true}
use mathlib.Core.List.{List}
use mathlib.Core.Logic.{◌↔◌}
use mathlib.Core.Path.{◌≡◌, ap}
use lib.ListN.{get_or}
use Rattle.ranges.specs.Spots.{spot_of, at_end}
use Rattle.ranges.proofs.Numbers.{any_yes, any_at, any_same}
use Rattle.ranges.proofs.Spots.{Edge, end_iff}
use Rattle.lists.specs.Rules.{Rules, Shaped, fields_of, rules_in, low_of, ends_at}
use Rattle.lists.specs.Edges.{end_at, edge_of, rule_edge}
use Rattle.lists.proofs.InList.{shaped_in}

-- in some field below d the number is inside rule i's range, and low or the last number of it
pub record AtEdge (R : Rules) (h : List ℕ) (i : ℕ) : Type 0 where
  pub field : ℕ
  pub in_row : field < fields_of R
  pub edge : Edge (low_of R i field) (ends_at R i field) (get_or h field 0)

pub edge_at_iff : (R : Rules) (h : List ℕ) (i : ℕ) → (edge_of R h i ≡ true) ↔ AtEdge R h i
unfolding edge_of
edge_at_iff R h i = (
  λ e.
      let at = any_at (end_at R h i) (fields_of R) e in
      record { field = at.0; in_row = at.1; edge = (end_iff (low_of R i at.0) (ends_at R i at.0) (get_or h at.0 0)).0 at.2 },
  λ at.
      let f = at.field in
      any_yes (end_at R h i) (fields_of R) f at.in_row ((end_iff (low_of R i f) (ends_at R i f) (get_or h f 0)).1 at.edge),
)

pub edge_listed : (R : Rules) (h : List ℕ) (i : ℕ) → Shaped R → i < rules_in R → rule_edge R h i ≡ edge_of R h i
unfolding rule_edge
edge_listed R h i shape rule = rw (shaped_in R i shape rule)

pub edge_same : (R : Rules) (h g : List ℕ) → ((f : ℕ) → f < fields_of R → get_or h f 0 ≡ get_or g f 0) → (i : ℕ) → edge_of R h i ≡ edge_of R g i
unfolding edge_of
edge_same R h g agree i =
    any_same (end_at R h i) (end_at R g i) (fields_of R) (λ f lt. ap (λ x. at_end (spot_of (low_of R i f) (ends_at R i f) x)) (agree f lt))
