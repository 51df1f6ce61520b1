-- 01, Other answers and Refusal numbers, and 02, W5: what a report on a partition answers. No place is read.
-- It refuses by 1, 2, 3, 5, 6 for the opening, 7, then 6 for that partition: its starts do not ascend or go past n, or its stored
-- number is n or more. With n = 0 and a fine opening that is 7 for every partition (docs/DECISIONS.md).
-- Assumes nothing: these are definitions.
use Rattle.std.specs.Prelude.{ℕ, suc, ◌-◌, List, [], ◌∷◌, Result, ltb}
use Rattle.ranges.specs.Numbers.{pick, ◌and◌}
use Rattle.ranges.specs.Refusals.{Refusal, Fault, none, refused, or_else, unless, Said, says}
use Rattle.ranges.specs.declared.refusal.Cause.TheVariants.{BrokenTable, NoSuchPartition}
use Rattle.lists.specs.Rules.{Rules, rules_in}
use Rattle.tables.specs.Layout.{View}
use Rattle.tables.specs.Opening.{part_stands, view_of, open_fault}
use Rattle.tables.specs.declared.report.Part.{Part}

-- how many places partition q has, by the starts
abbrev pub size_of : (ℕ → ℕ) → ℕ → ℕ
size_of start q = start (suc q) - start q

-- 6 for partition q: its starts, then its stored number
unfoldable pub part_fault : ℕ → (ℕ → ℕ) → (ℕ → ℕ) → ℕ → Fault
part_fault n start least q = pick (part_stands n start q and ltb (least q) n) none (refused BrokenTable)

-- 1, 2, 3, 5, 6 for the opening, 7, 6 for the partition
unfoldable pub report_fault : Rules → List ℕ → ℕ → Fault
report_fault R T q =
    or_else (open_fault R T)
    (pick (ltb q (view_of R T).b) (part_fault (rules_in R) (view_of R T).start (view_of R T).least q) (refused NoSuchPartition))

-- the partition's size and its smallest rule number as it is stored
abbrev pub part_in : View → ℕ → Part
part_in v q = record { size = size_of v.start q; least = v.least q }

-- the same, unless something is refused
abbrev pub report_of : Rules → List ℕ → ℕ → Result Part Refusal
report_of R T q = unless (report_fault R T q) (part_in (view_of R T) q)

-- what the answer says in the paper's words
abbrev pub says_part : Result Part Refusal → Said
says_part part = says (λ (p : Part). p.size ∷ p.least ∷ []) part
