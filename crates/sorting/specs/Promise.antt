-- What a table promises to whoever looks a header up in it. The lookup layer relies on this and on nothing else of
-- how a table is made (01, The intended build: "relies only on what the sorting layer promises").
-- `InPart` says which places a partition has, `Smallest` which is its smallest rule, `Run` what a run is; `Promise` puts them together.
-- Assumes nothing: these are definitions.
use Rattle.std.specs.Prelude.{ℕ, suc, ◌≤◌, ◌<◌, true, ◌≡◌}
use Rattle.lists.specs.Rules.{Rules, fields_of, rules_in, low_of, ends_at}
use Rattle.ordering.specs.Order.{alike, before}
use Rattle.tables.specs.Layout.{View}

-- place p is one of partition q
pub record InPart (v : View) (q p : ℕ) : Type 0 where
  pub part : q < v.b
  pub from_start : v.start q ≤ p
  pub to_next : p < v.start (suc q)

-- i is the smallest rule number of partition q: that of one of its places, and none of them has a smaller one
pub record Smallest (v : View) (q i : ℕ) : Type 0 where
  pub at : (p : ℕ) × InPart v q p × (v.order p ≡ i)
  pub least_of : (p : ℕ) → InPart v q p → i ≤ v.order p

-- the run of place p of partition q by fields 0 to f: the places of q whose rules have the same ranges there
pub record Run (R : Rules) (v : View) (q p f : ℕ) : Type 0 where
  pub from_start : v.start q ≤ v.from p f
  pub from_here : v.from p f ≤ p
  pub to_here : p < v.to p f
  pub to_next : v.to p f ≤ v.start (suc q)
  pub same : (r : ℕ) → v.from p f ≤ r → r < v.to p f → alike R (v.order r) (v.order p) (suc f) ≡ true
  pub whole : (r : ℕ) → InPart v q r → alike R (v.order r) (v.order p) (suc f) ≡ true → (v.from p f ≤ r) × (r < v.to p f)

pub record Promise (R : Rules) (v : View) : Type 0 where
  -- every range of the list holds a number
  pub sound : (i f : ℕ) → i < rules_in R → f < fields_of R → low_of R i f < ends_at R i f
  -- n and d are right
  pub rules : v.n ≡ rules_in R
  pub fields : v.d ≡ fields_of R
  -- the starts ascend strictly from 0 to n
  pub first_start : v.start 0 ≡ 0
  pub last_start : v.start v.b ≡ rules_in R
  pub ascend : (q : ℕ) → q < v.b → v.start q < v.start (suc q)
  -- the order is one-to-one onto the rules
  pub order_rule : (p : ℕ) → p < rules_in R → v.order p < rules_in R
  pub order_onto : (i : ℕ) → i < rules_in R → (p : ℕ) × (p < rules_in R) × (v.order p ≡ i)
  pub order_once : (p r : ℕ) → p < rules_in R → r < rules_in R → v.order p ≡ v.order r → p ≡ r
  -- the stored number of each partition is its smallest
  pub smallest : (q : ℕ) → q < v.b → Smallest v q (v.least q)
  -- within a partition the places ascend
  pub sorted : (q p r : ℕ) → InPart v q p → InPart v q r → p < r → before R (v.order p) (v.order r) ≡ true
  -- the runs are what they are said to be
  pub runs : (q p f : ℕ) → InPart v q p → f < fields_of R → Run R v q p f
