-- 01, The walk: one test, the walk through a group of places, and its end at field d.
-- The table is read as a view, so that no offset stands here; n and d are the list's. A broken table is one of 01's list, met
-- at the step at which it is met.
-- Assumes nothing: these are definitions.
use Rattle.std.specs.Prelude.{ℕ, zero, suc, ◌+◌, ◌-◌, ◌/◌, Bool, List, Option, Some, None, Result, Ok, Err, ltb, leb, eqb}
use Rattle.ranges.specs.Numbers.{pick, ◌and◌}
use Rattle.ranges.specs.declared.side.Side.{Side}
use Rattle.ranges.specs.declared.side.Side.TheVariants.{Below, Above, Inside}
use Rattle.lists.specs.Rules.{Rules, fields_of, rules_in}
use Rattle.lists.specs.FirstMatch.{side_at, fits}
use Rattle.tables.specs.Layout.{View}
use Rattle.lookup.specs.declared.walk.Ran.{Ran}
use Rattle.lookup.specs.declared.walk.Step.{Step}
use Rattle.lookup.specs.declared.walk.Broken.{Broken}

-- a walk's answer: it ran, and found a rule by its number or none, with some tests made; or the table is broken
abbrev pub Walked : Type 0
Walked = Result Ran Broken

abbrev pub ran : Option ℕ → ℕ → Walked
ran x t = Ok record { found = x; tests = t }

abbrev pub broken_walk : Walked
broken_walk = Err record {}

-- what one test leaves: places s to before e at field f; or the table is broken
abbrev pub Stepped : Type 0
Stepped = Result Step Broken

abbrev pub on : ℕ → ℕ → ℕ → Stepped
on s e f = Ok record { s = s; e = e; f = f }

abbrev pub broken_step : Stepped
broken_step = Err record {}

-- the middle place of a group: its start and half its size, rounded down
-- (of places 0 to before 3 it is 1, of 0 to before 2 it is 1, of 0 to before 1 it is 0)
abbrev pub mid_of : ℕ → ℕ → ℕ
mid_of s e = s + (e - s) / 2

-- a run that may be trusted: group start ≤ run-from ≤ mid < run-to ≤ group end
unfoldable pub run_stands : ℕ → ℕ → ℕ → ℕ → ℕ → Bool
run_stands s e mid from to = leb s from and leb from mid and ltb mid to and leb to e

-- what a test leaves of places s to before e at field f, by its outcome: below, the group now ends at mid's run-from;
-- above, it starts at mid's run-to; inside, it becomes mid's run, and the field goes up by one
abbrev pub leaves : Side → ℕ → ℕ → ℕ → ℕ → ℕ → Stepped
leaves Below s e f from to = on s from f
leaves Above s e f from to = on to e f
leaves Inside s e f from to = on from to (f + 1)

-- the test at place m: broken where its rule number is n or more or its run may not be trusted
unfoldable pub step_at : Rules → View → List ℕ → ℕ → ℕ → ℕ → ℕ → Stepped
step_at R v h s e f m =
    pick (ltb (v.order m) (rules_in R) and run_stands s e m (v.from m f) (v.to m f))
    (leaves (side_at R h (v.order m) f) s e f (v.from m f) (v.to m f))
    broken_step

-- one test, at the middle place
abbrev pub step_of : Rules → View → List ℕ → ℕ → ℕ → ℕ → Stepped
step_of R v h s e f = step_at R v h s e f (mid_of s e)

-- at field d, with t tests made: broken where the group is not one place, its rule number is n or more, or the
-- confirming comparison of all d ranges fails; else its rule is the candidate
unfoldable pub arrived_of : Rules → View → List ℕ → ℕ → ℕ → ℕ → Walked
arrived_of R v h s e t =
    pick (eqb e (s + 1) and ltb (v.order s) (rules_in R) and fits R h (v.order s))
    (ran (Some (v.order s)) t)
    broken_walk

-- what follows a test: the same walk on what it leaves
abbrev pub after_step : Stepped → (ℕ → ℕ → ℕ → Walked) → Walked
after_step (Ok x) next = next x.s x.e x.f
after_step (Err x) next = broken_walk

-- the walk on places s to before e at field f, with t tests made: an empty group is a miss. It makes at most k tests, and
-- a k above group size plus remaining fields is enough, since that number falls at each test
unfoldable pub walk_from : Rules → View → List ℕ → ℕ → ℕ → ℕ → ℕ → ℕ → Walked
walk_from R v h zero s e f t = broken_walk
walk_from R v h (suc k) s e f t =
    pick (leb e s) (ran None t)
    (pick (leb (fields_of R) f) (arrived_of R v h s e t)
    (after_step (step_of R v h s e f) (λ s' e' f'. walk_from R v h k s' e' f' (t + 1))))
