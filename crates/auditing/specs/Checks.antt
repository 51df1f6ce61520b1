-- Scaffolding: only contracts of private functions cite this; nothing here has to be believed.
-- The tests of a linear audit, in the order in which the code makes them (`Checked.antt` has them as facts).
-- Assumes nothing: these are definitions.
use Rattle.std.specs.Prelude.{ℕ, zero, suc, min, ◌+◌, ◌-◌, ◌≤◌, ◌<◌, Bool, not, List, ◌≡◌, ltb, eqb}
use Rattle.ranges.specs.Numbers.{pick, ◌and◌, all}
use Rattle.ranges.specs.Refusals.{stands}
use Rattle.lists.specs.Limits.{most_fields}
use Rattle.lists.specs.Rules.{Rules, fields_of, rules_in, Shaped}
use Rattle.ordering.specs.Order.{before_by}
use Rattle.tables.specs.Layout.{View, TableFor, view, start_in}
use Rattle.tables.specs.Opening.{view_of, open_fault}
use Rattle.tables.specs.declared.read.Table.{Table}

-- of b partitions, the start after q: past start q where q is one of them, else 0
unfoldable pub start_fine : ℕ → (ℕ → ℕ) → ℕ → Bool
start_fine b start q = pick (ltb q b) (ltb (start q) (start (suc q))) (eqb (start (suc q)) 0)

-- the rule at place p is below n, and at none of the places before
unfoldable pub rule_fine : ℕ → (ℕ → ℕ) → ℕ → Bool
rule_fine n order p = ltb (order p) n and all p (λ r. not (eqb (order r) (order p)))

-- the smallest of x and g 0, g 1, .. g (m - 1)
unfoldable pub smallest : (ℕ → ℕ) → ℕ → ℕ → ℕ
smallest g x zero = x
smallest g x (suc m) = min (smallest g x m) (g m)

-- the smallest rule number of places s to before e, or n where none is smaller
-- (of the bench table's partition 0, at places 0 to 2: 0)
abbrev pub least_from : ℕ → (ℕ → ℕ) → ℕ → ℕ → ℕ
least_from n order s e = smallest (λ k. order (s + k)) n (e - s)

-- of b partitions, the number stored for q: the smallest rule number of its places where q is one of them, else 0
unfoldable pub least_fine : ℕ → ℕ → (ℕ → ℕ) → (ℕ → ℕ) → (ℕ → ℕ) → ℕ → Bool
least_fine n b order start least q = eqb (least q) (pick (ltb q b) (least_from n order (start q) (start (suc q))) 0)

-- field f of places p and p + 1, whose rules have their first a fields alike: the run-from of p + 1, the run-to of p
unfoldable pub meets : View → ℕ → ℕ → ℕ → Bool
meets v a p f =
    eqb (v.from (suc p) f) (pick (ltb f a) (v.from p f) (suc p)) and eqb (v.to p f) (pick (ltb f a) (v.to (suc p) f) (suc p))

-- places p and p + 1 of one partition, the rule at the first before that at the second by field a
abbrev pub next_by : Rules → View → ℕ → ℕ → Bool
next_by R v p a = ltb a most_fields and all (fields_of R) (meets v a p)

unfoldable pub next_fine : Rules → View → ℕ → Bool
next_fine R v p = next_by R v p (before_by R (v.order p) (v.order (suc p)))

-- the run-froms of a partition's first place s, and the run-tos of the place before e, where the next begins
unfoldable pub end_fine : View → ℕ → ℕ → ℕ → Bool
end_fine v s e f = eqb (v.from s f) s and eqb (v.to (e - 1) f) e

-- a partition, from place s to before e
unfoldable pub span_fine : Rules → View → ℕ → ℕ → Bool
span_fine R v s e = all (fields_of R) (end_fine v s e) and all (e - s - 1) (λ k. next_fine R v (s + k))

-- partition q
abbrev pub part_fine : Rules → View → ℕ → Bool
part_fine R v q = span_fine R v (v.start q) (v.start (suc q))

-- the table's starts, its order, its smallest numbers, and each partition
unfoldable pub parts_fine : Rules → View → Bool
parts_fine R v =
    all (rules_in R) (start_fine v.b v.start)
    and all (rules_in R) (rule_fine (rules_in R) v.order)
    and all (rules_in R) (least_fine (rules_in R) v.b v.order v.start v.least)
    and all v.b (part_fine R v)

-- all of it: the table opens, and then these
unfoldable pub checks : Rules → List ℕ → Bool
checks R T = stands (open_fault R T) and parts_fine R (view_of R T)

-- ---- what the functions ask
-- a list whose shape stands, its n and d, and a table of the right length for it
pub record Held (R : Rules) (n d : ℕ) (T : List ℕ) : Type 0 where
  pub shape_stands : Shaped R
  pub is_n : n ≡ rules_in R
  pub is_d : d ≡ fields_of R
  pub sized : TableFor n d T

-- place p and field f of a table of the right length
pub record Cell (n d : ℕ) (T : List ℕ) (p f : ℕ) : Type 0 where
  pub sized : TableFor n d T
  pub place : p < n
  pub field : f < d

-- places p and p + 1 of a table of the right length
pub record Pair (n d : ℕ) (T : List ℕ) (p : ℕ) : Type 0 where
  pub sized : TableFor n d T
  pub inside : suc p < n

-- some of its places, from s to before e
pub record Span (R : Rules) (n d : ℕ) (T : List ℕ) (s e : ℕ) : Type 0 where
  pub held : Held R n d T
  pub some : s < e
  pub within : e ≤ n

-- its b partitions each have a place, and end within the n
pub record Parted (R : Rules) (n d : ℕ) (T : List ℕ) : Type 0 where
  pub held : Held R n d T
  pub few : (view n d T).b ≤ n
  pub ascend : (q : ℕ) → q < (view n d T).b → start_in n T q < start_in n T (suc q)
  pub within : (q : ℕ) → q < (view n d T).b → start_in n T (suc q) ≤ n

-- ---- the same of a table as it is lent, which has room for its n rules
abbrev pub HeldIn : Rules → Table → Type 0
HeldIn R t = Held R t.room t.d t.numbers.now

abbrev pub CellIn : Table → ℕ → ℕ → Type 0
CellIn t p f = Cell t.room t.d t.numbers.now p f

abbrev pub PairIn : Table → ℕ → Type 0
PairIn t p = Pair t.room t.d t.numbers.now p

abbrev pub SpanIn : Rules → Table → ℕ → ℕ → Type 0
SpanIn R t s e = Span R t.room t.d t.numbers.now s e

abbrev pub PartedIn : Rules → Table → Type 0
PartedIn R t = Parted R t.room t.d t.numbers.now
