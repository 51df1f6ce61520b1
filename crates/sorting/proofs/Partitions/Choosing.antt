-- The loop of `first_fit`, in a run of 1,024 numbers of its own: once the first i rules are taken, the run's first i numbers are first
-- fit's, and no stamp is later than that of the rules taken. The next rule gets the lowest partition without its stamp (`Stamps.antt`).
--     Choosing, choosing_none, choosing_more      the first i rules are taken
--     choosing_marks                              rule i may be held against the rules before it
--     choosing_numbers                            every rule is taken, and written to the lent run
-- Assumes nothing.
use Prim.Native.Nat.{ℕ, ◌+◌, ◌≤◌, ◌<◌}
use mathlib.Core.Bool.{Bool, true, false}
use mathlib.Core.List.{List}
use mathlib.Core.Path.{◌≡◌, refl, sym, ap, ◌∙◌}
use native.Mathlib.Omega.{arith}
use native.Mathlib.Numerals.{add-one}
use borrow.Author.Tests.{ltb-true, ltb-false}
use lib.Dec.{ltb}
use lib.ListN.{length, get_or, set, take, replicate, length-set, length-replicate, get_or-replicate, get_or-eq_default}
use lib.Seq.{take-suc-set, length-take-le}
use Rattle.lists.specs.Limits.{most_rules}
use Rattle.lists.specs.Rules.{Rules, rules_in, Shaped}
use Rattle.sorting.specs.FirstFit.{part_of, fit_of, first_fit}
use Rattle.sorting.specs.Marks.{stamped, unstamped, Marking}
use Rattle.sorting.proofs.Partitions.FirstFits.{first_fit_more, first_fit-length, first_fit_low}
use Rattle.sorting.proofs.Partitions.Stamps.{stamped-fit, stamped_long, stamped-fresh}

pub record Choosing (R : Rules) (run stamps : List ℕ) (i : ℕ) : Type 0 where
  pub room : length run ≡ most_rules
  pub chosen : take i run ≡ first_fit R i
  pub long : length stamps ≡ most_rules
  pub fresh : (q : ℕ) → get_or stamps q 0 ≤ i

-- no stamp stands yet
unstamped_yet : (m q : ℕ) → get_or (replicate m 0) q 0 ≤ 0
unstamped_yet m q = go (ltb q m) refl
  where
    go : (t : Bool) → ltb q m ≡ t → get_or (replicate m 0) q 0 ≤ 0
    go true e = rw (get_or-replicate {A = ℕ} m q 0 0 (ltb-true q m e)) (omega arith)
    go false e =
        let zeros : List ℕ = replicate m 0 in
        let past : length zeros ≤ q = omega (arith, length-replicate {A = ℕ} m 0, ltb-false q m e) in
        rw (get_or-eq_default zeros 0 past) (omega arith)

pub choosing_none : (R : Rules) → Choosing R (replicate most_rules 0) (replicate most_rules 0) 0
unfolding first_fit
choosing_none R =
    record {
      room = length-replicate {A = ℕ} most_rules 0;
      chosen = refl;
      long = length-replicate {A = ℕ} most_rules 0;
      fresh = unstamped_yet most_rules;
    }

module _ {R : Rules} {run stamps : List ℕ} {i : ℕ} (s : Shaped R) (h : Choosing R run stamps i) (lt : i < rules_in R) where
  inside : i < length run
  inside = omega (arith, s.few_rules, h.room)

  -- rule i may be held against the rules before it
  pub choosing_marks : Marking R (take i run) i stamps
  choosing_marks =
      record {
        shape_stands = s;
        rule = lt;
        taken = length-take-le i run (omega (arith, inside));
        numbers = rw h.chosen (first_fit_low R i);
        long = h.long;
        fresh = h.fresh;
      }

  pub choosing_more : {v : ℕ} {after : List ℕ} → after ≡ stamped R (take i run) i stamps → v ≡ unstamped i after → Choosing R (set run i v) after (i + 1)
  choosing_more {v} {after} is-after is-v =
      record {
        room = rw length-set h.room;
        chosen = next;
        long = rw is-after (stamped_long R (take i run) i stamps h.fresh);
        fresh = rw is-after (stamped-fresh R (take i run) i stamps h.fresh);
      }
    where
      few : i < most_rules
      few = omega (arith, s.few_rules)

      fits : v ≡ fit_of R (first_fit R i) i
      fits = is-v ∙ ap (unstamped i) is-after ∙ stamped-fit R (take i run) i stamps h.fresh few ∙ ap (λ l. fit_of R l i) h.chosen

      next : take (i + 1) (set run i v) ≡ first_fit R (i + 1)
      next = rw (first_fit_more R i, add-one i, take-suc-set run i v inside, h.chosen, fits)

-- every rule is taken, and n of them are left in the run that was lent, as after
module _ {R : Rules} {run stamps : List ℕ} {i n : ℕ} (s : Shaped R) (h : Choosing R run stamps i) (all_of : i ≡ n) (is_n : n ≡ rules_in R)
    {after : List ℕ} (is : after ≡ take n run) where
  written : after ≡ first_fit R (rules_in R)
  written = is ∙ ap (λ k. take k run) (sym all_of) ∙ h.chosen ∙ ap (first_fit R) (all_of ∙ is_n)

  written_long : length after ≡ rules_in R
  written_long = ap length written ∙ first_fit-length R (rules_in R)

  pub choosing_numbers : (j : ℕ) → j < length after → part_of after j < most_rules
  choosing_numbers j l =
      let low : part_of after j ≤ j = rw written (first_fit_low R (rules_in R) j (omega (arith, written_long))) in
      omega (arith, s.few_rules, written_long)
