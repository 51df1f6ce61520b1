-- 01, Refusal numbers: when a table is broken for the opening and for a partition, and the refusals with which a
-- lookup and a report begin: 1, 2, 3, 5, 6 for the opening.
-- b is held against n before start number b is read (docs/DECISIONS.md).
-- Assumes nothing: these are definitions.
use Rattle.std.specs.Prelude.{ℕ, suc, Bool, List, length, ltb, leb, eqb}
use Rattle.ranges.specs.Numbers.{pick, ◌and◌}
use Rattle.ranges.specs.Refusals.{Fault, none, refused, or_else}
use Rattle.ranges.specs.declared.refusal.Cause.TheVariants.{BadTableLength, BrokenTable}
use Rattle.lists.specs.Rules.{Rules, fields_of, rules_in}
use Rattle.lists.specs.Faults.{shape_fault}
use Rattle.tables.specs.Layout.{View, view, table_length}

-- the first two numbers are n and d, b is at most n, the first start is 0, and start number b is n
unfoldable pub opening : ℕ → ℕ → View → Bool
opening n d v = eqb v.n n and eqb v.d d and leb v.b n and eqb (v.start 0) 0 and eqb (v.start v.b) n

-- by the starts, partition q has a place and ends within the n places
abbrev pub part_stands : ℕ → (ℕ → ℕ) → ℕ → Bool
part_stands n start q = ltb (start q) (start (suc q)) and leb (start (suc q)) n

-- the view of a table lent with this list
abbrev pub view_of : Rules → List ℕ → View
view_of R T = view (rules_in R) (fields_of R) T

-- 5: the table's length is not exactly as it should be
abbrev pub table_fault : Rules → List ℕ → Fault
table_fault R T = pick (eqb (length T) (table_length (rules_in R) (fields_of R))) none (refused BadTableLength)

-- 1, 2, 3, 5, then 6 for the opening
unfoldable pub open_fault : Rules → List ℕ → Fault
open_fault R T =
    or_else (shape_fault R)
    (or_else (table_fault R T)
    (pick (opening (rules_in R) (fields_of R) (view_of R T)) none (refused BrokenTable)))
