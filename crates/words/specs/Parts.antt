-- The parts of a line's numbers, by their places. LIST, TABLE and RUN are a length and then that many numbers, HEADER is
-- eight numbers. Numbers that are not as a part wants them have no end for it.
-- Assumes nothing: these are definitions.
use Rattle.std.specs.Prelude.{ℕ, ◌+◌, ◌-◌, ◌≤◌, List, ◌≡◌, length, get_or, take, drop, Bool, true, Option, Some, None, ltb, leb, eqb}
use Rattle.ranges.specs.Numbers.{pick, all}
use Rattle.lists.specs.declared.shape.Shape.{Shape}
use Rattle.lists.specs.Headers.{header_length}
use Rattle.lists.specs.Rules.{Rules, listed}
use Rattle.words.specs.Limits.{list_most, table_most}

-- the numbers from place a to before place e
abbrev pub from_to : ℕ → ℕ → List ℕ → List ℕ
from_to a e ns = take (e - a) (drop a ns)

-- where the run from place `at` on ends: a length, at most `most`, and then that many numbers
-- (of 2 3 7 8 9 5 the run from place 1 ends at place 5)
unfoldable pub run_end : ℕ → List ℕ → ℕ → Option ℕ
run_end most ns at =
    pick (leb (length ns) at) None
    (pick (ltb most (get_or ns at 0)) None
    (pick (ltb (length ns) (at + 1 + get_or ns at 0)) None
    (Some (at + 1 + get_or ns at 0))))

-- what a run's end tells: the run stands in the numbers, and is not too long
pub record RunTo (most : ℕ) (ns : List ℕ) (at e : ℕ) : Type 0 where
  pub begun : at + 1 ≤ e
  pub within : e ≤ length ns
  pub few : e ≤ at + 1 + most

-- a part's end, where exactly so many numbers more follow it
abbrev pub exactly : List ℕ → ℕ → Option ℕ → Option ℕ
exactly ns more (Some e) = pick (eqb (length ns) (e + more)) (Some e) None
exactly ns more None = None

-- where the list of D LIST ends, with exactly so many numbers more after it
unfoldable pub list_end : List ℕ → ℕ → Option ℕ
list_end ns more = exactly ns more (run_end list_most ns 1)

-- what follows where a part ends, else the other
abbrev pub on_end : {A : Type 0} → Option ℕ → (ℕ → A) → A → A
on_end (Some e) next other = next e
on_end None next other = other

-- every number is one of 16 bits
unfoldable pub all_narrow : List ℕ → Bool
all_narrow ns = all (length ns) (λ k. leb (get_or ns k 0) 65535)

-- where the run of 16-bit numbers from place `at` on ends: a length, at most `most`, and then that many such numbers
unfoldable pub narrow_end : ℕ → List ℕ → ℕ → Option ℕ
narrow_end most ns at = on_end (run_end most ns at) (λ e. pick (all_narrow (from_to (at + 1) e ns)) (Some e) None) None

-- what its end tells
pub record NarrowTo (most : ℕ) (ns : List ℕ) (at e : ℕ) : Type 0 where
  pub run : RunTo most ns at e
  pub narrow : all_narrow (from_to (at + 1) e ns) ≡ true

-- where the list and the table of D LIST TABLE end, with exactly so many numbers more after them; a table's numbers
-- are of 16 bits
unfoldable pub table_ends : List ℕ → ℕ → Option (ℕ × ℕ)
table_ends ns more =
    on_end (run_end list_most ns 1)
    (λ e. on_end (exactly ns more (run_end table_most ns e)) (λ t. pick (all_narrow (from_to (e + 1) t ns)) (Some (e, t)) None) None)
    None

-- what their ends tell: the list stands from place 2 on and is not too long, nor is the table, which stands after its length
pub record TableTo (ns : List ℕ) (more e t : ℕ) : Type 0 where
  pub begun : 2 ≤ e
  pub few : e ≤ 2 + list_most
  pub after : e + 1 ≤ t
  pub few_table : t ≤ e + 1 + table_most
  pub follow : length ns ≡ t + more
  pub narrow : all_narrow (from_to (e + 1) t ns) ≡ true

-- what a run of 16-bit numbers is that may have so many
pub record Narrow (most : ℕ) (numbers : List ℕ) : Type 0 where
  pub few : length numbers ≤ most
  pub narrow : all_narrow numbers ≡ true

abbrev pub on_ends : Option (ℕ × ℕ) → (ℕ → ℕ → List ℕ) → List ℕ → List ℕ
on_ends (Some p) next other = next p.0 p.1
on_ends None next other = other

-- D with the flags that came with it, and the list
abbrev pub shape_in : ℕ → List ℕ → Shape
shape_in dates ns = record { d = get_or ns 0 0; dates = dates }

abbrev pub rules_to : ℕ → ℕ → List ℕ → Rules
rules_to dates e ns = listed (shape_in dates ns) (from_to 2 e ns)

-- HEADER, from a place on
abbrev pub header_at : ℕ → List ℕ → List ℕ
header_at at ns = from_to at (at + header_length) ns
