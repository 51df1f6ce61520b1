-- An answer made at the first match (`answer_of`), by which rules fit: it is rule i, with its edge, exactly when i is the first that fits, and
-- none exactly when no rule does. w is the answer, and u the tests that it carries.
--     NoneFits                            no rule of the list fits
--     matched_rule_iff, matched_none_iff  a rule; none
-- Assumes nothing.
use Prim.Native.Nat.{ℕ, ◌<◌}
use mathlib.Core.Bool.{false}
use mathlib.Core.List.{List}
use mathlib.Core.Logic.{◌↔◌}
use mathlib.Core.Path.{◌≡◌, sym, ap, ◌∙◌}
use native.Mathlib.Omega.{arith}
use lib.Dec.{ltb}
use borrow.Author.Tests.{lt-ltb, le-ltb, ltb-true, ltb-false}
use Rattle.std.specs.Prelude.{Result}
use Rattle.ranges.specs.Refusals.{Refusal}
use Rattle.ranges.specs.Numbers.{least}
use Rattle.ranges.proofs.Numbers.{never, picked, not_picked, least_is, least-none, least_hit, least_under}
use Rattle.lists.specs.Rules.{Rules, rules_in}
use Rattle.lists.specs.FirstMatch.{fits, first_match}
use Rattle.lists.specs.Edges.{edge_of}
use Rattle.lists.proofs.Theorems.{First}
use Rattle.lookup.specs.Lookup.{answer_of, match_in, matched, unmatched}
use Rattle.lookup.proofs.Returned.{matched_one}
use Rattle.lookup.specs.declared.lookup.Looked.{Looked}

-- no rule of the list fits
abbrev pub NoneFits : Rules → List ℕ → Type 0
NoneFits R h = (i : ℕ) → i < rules_in R → fits R h i ≡ false

module _ (R : Rules) (h : List ℕ) (w : Result Looked Refusal) (u : ℕ) (is-w : w ≡ answer_of R h (first_match R h) u) where
  pub matched_rule_iff : (i : ℕ) → ((t : ℕ) × (w ≡ matched i t (edge_of R h i))) ↔ First R h i
  unfolding first_match
  matched_rule_iff i = (λ found. to found.0 found.1, λ first. (u, fro first))
    where
      n : ℕ
      n = rules_in R

      i₀ : ℕ
      i₀ = least n (fits R h)

      to : (t : ℕ) → w ≡ matched i t (edge_of R h i) → First R h i
      to t is =
          let told = picked (matched i₀ u (edge_of R h i₀)) (unmatched u) (matched i t (edge_of R h i)) (ltb i₀ n) (sym is-w ∙ is) (λ r. never (cc (ap match_in r))) in
          let is_i : i₀ ≡ i = (matched_one told.1).0 in
          let lt = ltb-true i₀ n told.0 in
          let first : First R h i₀ = record { rule = lt; here = least_hit (fits R h) n lt; before = least_under (fits R h) n } in
          rw is_i at first

      fro : First R h i → w ≡ matched i u (edge_of R h i)
      fro first = is-w ∙ rw (least_is (fits R h) n i first.rule first.here first.before, lt-ltb i n first.rule)

  pub matched_none_iff : ((t : ℕ) × (w ≡ unmatched t)) ↔ NoneFits R h
  unfolding first_match
  matched_none_iff = (λ found. to found.0 found.1, λ none. (u, fro none))
    where
      n : ℕ
      n = rules_in R

      i₀ : ℕ
      i₀ = least n (fits R h)

      to : (t : ℕ) → w ≡ unmatched t → NoneFits R h
      to t is i lt =
          let told = not_picked (matched i₀ u (edge_of R h i₀)) (unmatched u) (unmatched t) (ltb i₀ n) (sym is-w ∙ is) (λ r. never (cc (ap match_in r))) in
          let over = ltb-false i₀ n told.0 in
          least_under (fits R h) n i (omega arith)

      fro : NoneFits R h → w ≡ unmatched u
      fro none = is-w ∙ rw (least-none (fits R h) n none, le-ltb n n (omega arith))
