-- Laws of the tests of a linear audit (`specs/Checks.antt`), as the code of `checks.rt` makes them.
--     tested_all                              what `all` of the library answers over the numbers below n
--     cell_from, cell_to                      a run-from, a run-to that is read stands in the table
--     Marked, marked_none, marked_over, marked_twice, marked_more      each rule marked once
--     span_over, span_all                     a partition
--     part_told                               partition q
-- Assumes nothing.
use Prim.Native.Nat.{ℕ, zero, suc, ◌+◌, ◌-◌, ◌≤◌, ◌<◌}
use mathlib.Core.Bool.{Bool, true, false, not, ◌&&◌}
use mathlib.Core.List.{List}
use mathlib.Core.Path.{◌≡◌, refl, sym, ap, ◌∙◌}
use native.Mathlib.Omega.{arith}
use lib.ListN.{length, get_or, set, replicate}
use denote.Param.Members.{Mut}
use borrow.Author.Count.{below_more}
use borrow.Author.Tests.{lt-ltb, le-ltb, not-true, not-false}
use Rattle.std.specs.Fn.{Called}
use Rattle.std.specs.Iterator.{ChecksAll}
use Rattle.std.specs.List.{list_all, range_with_len}
use Rattle.std.specs.declared.ops.Range.{Range}
use Rattle.std.proofs.iter.Yields.{nat_range_steps}
use Rattle.std.proofs.lemmas.Iterator.{YieldsList-from_range}
use Rattle.std.proofs.lemmas.Iterator.Search.{all_from_yields_List}
use Rattle.ranges.specs.Numbers.{all}
use Rattle.ranges.proofs.Numbers.{all_yes, all_no}
use Rattle.lists.specs.Limits.{most_rules}
use Rattle.lists.specs.Rules.{Rules, fields_of}
use Rattle.lists.proofs.Search.{Answered, answered-none, answered_more}
use Rattle.tables.specs.Layout.{view, b_at, start_in, from_at, to_at}
use Rattle.tables.proofs.Offsets.{from_inside, to_inside}
use Rattle.sorting.specs.Asked.{Seen}
use Rattle.sorting.proofs.Partitions.Seen.{seen_none, seen_more, seen-fresh, seen-before}
use Rattle.auditing.specs.Checks.{rule_fine, next_fine, end_fine, span_fine, part_fine, Cell, Span, Parted}

-- ---- a test of the numbers below n, as `all` of the library makes it
module _ (P : ℕ → Bool) (n : ℕ) where
  -- those below a passed, and m are left
  tested_from : (a m : ℕ) → a + m ≡ n → ((k : ℕ) → k < a → P k ≡ true) → list_all P (range_with_len a m) ≡ all n P
  tested_from a zero e passed = sym (all_yes P n (λ k lt. passed k (omega arith)))
  tested_from a (suc m) e passed = go (P a) refl (λ is. tested_from (a + 1) m (omega arith) (below_more (λ k. P k ≡ true) a passed is))
    where
      go : (t : Bool) → P a ≡ t → (P a ≡ true → list_all P (range_with_len (a + 1) m) ≡ all n P) → t && list_all P (range_with_len (a + 1) m) ≡ all n P
      go true is more = more is
      go false is more = sym (all_no P n a (omega arith) is)

-- r is what `all` answered of 0 .. n, with a closure that computes P
pub tested_all : {F : Type 0} {g : Mut F (ℕ × Unit {0}) Bool} (P : ℕ → Bool) (n : ℕ) (u : Range ℕ) (f : F) (r : Bool)
    → ChecksAll nat_range_steps g record { start = 0; end = n } f r u
    → ((x : ℕ) (t : Bool) (q : F) → Called g f (x, tt) t q → (q ≡ f) × (t ≡ P x)) → r ≡ all n P
tested_all P n u f r ran computes =
    all_from_yields_List P u f r ran (YieldsList-from_range 0 n n refl (omega arith)) computes
    ∙ tested_from P n 0 n (omega arith) (λ k lt. absurd (omega arith))

-- ---- what is read stands in the table
module _ {n d : ℕ} {T : List ℕ} {p f : ℕ} (h : Cell n d T p f) {k : ℕ} where
  pub cell_from : k ≡ from_at n d p f → k < length T
  cell_from e = omega (arith, e, h.sized.long, from_inside n d p f h.place h.field)

  pub cell_to : k ≡ to_at n d p f → k < length T
  cell_to e = omega (arith, e, h.sized.long, to_inside n d p f h.place h.field)

-- ---- each rule marked once: at the loop's head the rules of the first p places are marked, each below n and none twice
pub record Marked (n : ℕ) (order : ℕ → ℕ) (marks : List Bool) (p : ℕ) : Type 0 where
  pub told : Answered (rule_fine n order) true n p
  pub seen : Seen order p marks

pub marked_none : (n : ℕ) (order : ℕ → ℕ) → Marked n order (replicate most_rules false) 0
marked_none n order = record { told = answered-none (rule_fine n order) true n; seen = seen_none order }

-- i is the rule at place p, as it was read
module _ {n : ℕ} {order : ℕ → ℕ} {marks : List Bool} {p : ℕ} (h : Marked n order marks p) (lt : p < n) (few : n ≤ most_rules) {i : ℕ} (is_i : i ≡ order p) where
  -- a number that is no rule
  pub marked_over : n ≤ i → false ≡ all n (rule_fine n order)
  unfolding rule_fine
  marked_over le = sym (all_no (rule_fine n order) n p lt (rw (← is_i, le-ltb i n le)))

  module _ (is_rule : i < n) where
    -- a rule marked before
    pub marked_twice : get_or marks i false ≡ true → false ≡ all n (rule_fine n order)
    unfolding rule_fine
    marked_twice marked = sym (all_no (rule_fine n order) n p lt (rw (← is_i, lt-ltb i n is_rule, seen-before h.seen (omega arith) marked)))

    marked_fine : get_or marks i false ≡ false → true ≡ rule_fine n order p
    unfolding rule_fine
    marked_fine free = rw (← is_i, lt-ltb i n is_rule, seen-fresh h.seen (omega arith) free)

    pub marked_more : get_or marks i false ≡ false → Marked n order (set marks i true) (p + 1)
    marked_more free =
        record { told = answered_more h.told lt (marked_fine free) refl; seen = seen_more h.seen is_i (omega arith) }

-- ---- a partition: r is what its ends say, m what its neighbours say
module _ {R : Rules} {n d : ℕ} {T : List ℕ} {s e : ℕ} (h : Span R n d T s e) {r : Bool} (is_r : r ≡ all d (end_fine (view n d T) s e)) where
  ends_are : all (fields_of R) (end_fine (view n d T) s e) ≡ r
  ends_are = ap (λ x. all x (end_fine (view n d T) s e)) (sym h.held.is_d) ∙ sym is_r

  module _ (g : not r ≡ false) where
    span_by : {m : Bool} → m ≡ all (e - s - 1) (λ k. next_fine R (view n d T) (s + k)) → m ≡ span_fine R (view n d T) s e
    unfolding span_fine
    span_by is_m = rw (ends_are, not-false r g) is_m

    -- t is what was said of the neighbours at p
    pub span_over : {p : ℕ} → s ≤ p → p < e - 1 → {t : Bool} → t ≡ next_fine R (view n d T) p → not t ≡ true → false ≡ span_fine R (view n d T) s e
    span_over {p} le lt {t} is-t fails =
        let here : s + (p - s) ≡ p = omega arith in
        span_by (sym (all_no (λ k. next_fine R (view n d T) (s + k)) (e - s - 1) (p - s) (omega arith) (ap (next_fine R (view n d T)) here ∙ sym is-t ∙ not-true t fails)))

    pub span_all : {p : ℕ} → ((k : ℕ) → k < p → s ≤ k → next_fine R (view n d T) k ≡ true) → e - 1 ≤ p → true ≡ span_fine R (view n d T) s e
    span_all passed past = span_by (sym (all_yes (λ k. next_fine R (view n d T) (s + k)) (e - s - 1) (λ k lt. passed (s + k) (omega arith) (omega arith))))

-- ---- partition q: s and e are its start and the next, as they were read
module _ {R : Rules} {n d : ℕ} {T : List ℕ} {q : ℕ} (h : Parted R n d T) (lt : q < get_or T b_at 0) {s e : ℕ} (is-s : s ≡ start_in n T q)
    (is-e : e ≡ start_in n T (suc q)) where
  pub part_told : {r : Bool} → r ≡ span_fine R (view n d T) s e → r ≡ part_fine R (view n d T) q
  part_told is_r = is_r ∙ rw (is-s, is-e)
