-- A walk names only rules of the list that fit the header, whatever the table: it names one at field d alone, where that rule is held
-- against the header (`Arrivals.antt`).
--     walk_fits                        a rule that a walk names
-- Assumes nothing.
use Prim.Native.Nat.{ℕ, ◌<◌}
use mathlib.Core.Bool.{true}
use mathlib.Core.List.{List}
use mathlib.Core.Path.{◌≡◌, sym, subst}
use Rattle.std.specs.Prelude.{Some}
use Rattle.ranges.proofs.Numbers.{never}
use Rattle.lists.specs.Rules.{Rules, rules_in}
use Rattle.lists.specs.FirstMatch.{fits}
use Rattle.tables.specs.Layout.{View}
use Rattle.lookup.specs.Walk.{Walked, ran, arrived_of, walk_from}
use Rattle.lookup.proofs.Arrivals.{ran_one, arrived}
use Rattle.lookup.proofs.Walks.{walk_holds}

-- rule i is one of the list and fits the header
pub record Matches (R : Rules) (h : List ℕ) (i : ℕ) : Type 0 where
  pub rule : i < rules_in R
  pub fit : fits R h i ≡ true

module _ (R : Rules) (v : View) (h : List ℕ) where
  -- w, if it names a rule, names one that matches
  abbrev Names : ℕ → ℕ → ℕ → ℕ → Walked → Type 0
  Names s e f t w = (i u : ℕ) → w ≡ ran (Some i) u → Matches R h i

  named : (s e f t : ℕ) → Names s e f t (arrived_of R v h s e t)
  named s e f t i u is =
      let a = arrived R v h s e t (Some i) u is in
      let is_i : i ≡ v.order s = cc a.found in
      subst (Matches R h) (sym is_i) record { rule = a.rule; fit = a.fit }

  pub walk_fits : (k s e f t i u : ℕ) → walk_from R v h k s e f t ≡ ran (Some i) u → Matches R h i
  walk_fits =
      walk_holds R v h Names
      (λ s e f t i u is. never (cc))
      (λ s e f t le i u is. never (cc (ran_one is).0))
      (λ s e f t lt at-end. named s e f t)
      (λ s e f t lt in_row s' e' f' step w rest. rest)
