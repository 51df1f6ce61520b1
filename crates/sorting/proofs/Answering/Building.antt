-- What a build writes where nothing is refused (`specs/Build.antt`): first fit's numbers into room for 1,024 of them, and the table with these.
--     room_few, room_run                            room for 1,024 partition numbers
--     chosen_fits, chosen_count                     of which the first n are chosen
--     chosen_laying                                 a table may be laid out with them
-- Assumes nothing.
use Prim.Native.Nat.{ℕ, ◌≤◌}
use mathlib.Core.List.{List, ◌++◌}
use mathlib.Core.Path.{◌≡◌, sym, ap, ◌∙◌}
use native.Mathlib.Omega.{arith}
use lib.ListN.{length, take, replicate}
use Rattle.lists.specs.Limits.{most_rules}
use Rattle.lists.specs.Rules.{Rules, rules_in}
use Rattle.lists.proofs.Sound.{list_shaped}
use Rattle.sorting.specs.FirstFit.{first_fit, Chosen}
use Rattle.sorting.specs.Asked.{Numbered, Laying}
use Rattle.sorting.specs.Build.{Buildable}
use Rattle.sorting.proofs.Partitions.FirstFits.{first_fit-length, first_fit_choice}
use Rattle.sorting.proofs.Writing.Room.{room_long, back_fits, back_long, back_is}

-- ---- room for 1,024 partition numbers, of which the first n are chosen
module _ {R : Rules} {T : List ℕ} (h : Buildable R T) {n : ℕ} (is_n : n ≡ rules_in R) where
  pub room_few : n ≤ most_rules
  room_few = omega (arith, (list_shaped R h.no_fault).few_rules)

  pub room_run : Numbered R (take n (replicate {A = ℕ} most_rules 0))
  room_run = record { shape_stands = list_shaped R h.no_fault; one_each = sym (room_long most_rules n room_few) ∙ is_n }

  module _ {run : List ℕ} {b : ℕ} (chosen : Chosen R run b) (rest : List ℕ) where
    -- the choice has a number for each rule
    chosen_long : length run ≡ n
    chosen_long = ap length chosen.numbers ∙ first_fit-length R (rules_in R) ∙ sym is_n

    pub chosen_fits : n ≤ length (run ++ rest)
    chosen_fits = back_fits run chosen_long rest

    pub chosen_count : n ≡ length (take n (run ++ rest))
    chosen_count = back_long run chosen_long rest

    chosen_is : take n (run ++ rest) ≡ first_fit R (rules_in R)
    chosen_is = back_is run chosen_long rest ∙ chosen.numbers

    pub chosen_laying : Laying R (take n (run ++ rest)) T
    chosen_laying =
        record {
          dealt = record {
            no_fault = h.no_fault;
            one_each = sym chosen_count ∙ is_n;
            choice = rw chosen_is (first_fit_choice R);
          };
          sized = h.sized;
        }
