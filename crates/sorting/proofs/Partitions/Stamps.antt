-- First fit by stamps (`specs/Marks.antt`): holding rule i against the rules before it, one after the other, stamps the partitions
-- that are not free for it; so the lowest partition without its stamp is the one that first fit gives it.
--     mark_clash, mark_keep, part_few                         the stamp of one partition
--     Stamping, stamping_none, stamping_more, stamping_end    the stamps once rule i is held against the first j rules
--     stamped-fit, stamped_long, stamped-fresh                it is first fit's; and the stamps are ready for the next rule
-- Assumes nothing.
use Prim.Native.Nat.{ℕ, suc, ◌+◌, ◌≤◌, ◌<◌}
use mathlib.Core.Bool.{Bool, true, false, not}
use mathlib.Core.List.{List}
use mathlib.Core.Path.{◌≡◌, refl, sym, ap, ◌∙◌}
use native.Mathlib.Omega.{arith}
use native.Mathlib.Numerals.{add-one}
use borrow.Author.Tests.{eq-eqb, ne_eqb, eqb-true, eqb-false, ltb-true, ltb-false}
use lib.Dec.{ltb, eqb}
use lib.ListN.{length, get_or, set, length-set, get_or-eq_default}
use lib.Seq.{get_or-set_same, get_or-set_other, ext_get_or}
use Rattle.ranges.specs.Numbers.{pick, ◌and◌, all, tab}
use Rattle.ranges.proofs.Numbers.{least_same, tab-length, tab_at}
use Rattle.lists.specs.Limits.{most_rules}
use Rattle.lists.specs.Rules.{Rules}
use Rattle.ordering.specs.Order.{clash}
use Rattle.sorting.specs.FirstFit.{part_of, free, fit_of}
use Rattle.sorting.specs.Marks.{stamp_of, mark_of, stamped, unstamped, Marking}

-- ---- the stamp of one partition
module _ (R : Rules) (i j old : ℕ) where
  pub mark_clash : (old ≡ i + 1 → ⊥) → clash R j i ≡ true → i + 1 ≡ mark_of R i j old
  mark_clash ne e = rw (ne_eqb old (i + 1) ne, e)

  pub mark_keep : (old ≡ i + 1 → ⊥) → clash R j i ≡ false → old ≡ mark_of R i j old
  mark_keep ne e = rw (ne_eqb old (i + 1) ne, e)

-- a partition number of a rule before rule i has a stamp
pub part_few : {R : Rules} {run : List ℕ} {i : ℕ} {stamps : List ℕ} → Marking R run i stamps → (j : ℕ) → j < i → part_of run j < most_rules
part_few m j lt = omega (arith, m.numbers j lt, m.rule, m.shape_stands.few_rules)

-- a partition that was free until now (or not), with rule j a member that clashes (or not)
mark_one : (free-yet clashing : Bool) (s i old : ℕ) → s ≤ i → old ≡ pick free-yet s (stamp_of i)
    → pick (eqb old (stamp_of i)) old (pick clashing (stamp_of i) old) ≡ pick (free-yet and not clashing) s (stamp_of i)
mark_one false clashing s i old le e = rw (eq-eqb old (stamp_of i) e) e
mark_one true true s i old le e = let other : old ≡ stamp_of i → ⊥ = λ q. omega arith in rw (ne_eqb old (stamp_of i) other)
mark_one true false s i old le e = let other : old ≡ stamp_of i → ⊥ = λ q. omega arith in rw (ne_eqb old (stamp_of i) other) e

-- ---- the stamps once rule i is held against the first j rules
-- rule i clashes with no member of partition q among the first j rules
abbrev free_yet : Rules → List ℕ → ℕ → ℕ → ℕ → Bool
free_yet R run i j q = all j (λ k. not (eqb (part_of run k) q and clash R k i))

free_more : (R : Rules) (run : List ℕ) (i j q : ℕ) → free_yet R run i (j + 1) q ≡ free_yet R run i j q and not (eqb (part_of run j) q and clash R j i)
unfolding all
free_more R run i j q = rw add-one

pub record Stamping (R : Rules) (run : List ℕ) (i : ℕ) (before now : List ℕ) (j : ℕ) : Type 0 where
  pub long : length now ≡ most_rules
  pub held : (q : ℕ) → q < most_rules → get_or now q 0 ≡ pick (free_yet R run i j q) (get_or before q 0) (stamp_of i)

and-true : (t : Bool) → t and true ≡ t
and-true true = refl
and-true false = refl

module _ (R : Rules) (run : List ℕ) (i : ℕ) (before : List ℕ) where
  pub stamping_none : length before ≡ most_rules → Stamping R run i before before 0
  unfolding all
  stamping_none long = record { long = long; held = λ q l. refl }

  module _ {now : List ℕ} {j : ℕ} (h : Stamping R run i before now j) (fresh : (q : ℕ) → get_or before q 0 ≤ i) (inside : part_of run j < most_rules) where
    -- the partition of rule j
    at_part : (v q : ℕ) → v ≡ mark_of R i j (get_or now (part_of run j) 0) → q ≡ part_of run j
        → get_or (set now (part_of run j) v) q 0 ≡ pick (free_yet R run i (j + 1) q) (get_or before q 0) (stamp_of i)
    at_part v q is e =
        let p = part_of run j in
        let within : p < length now = omega (arith, h.long) in
        let one = mark_one (free_yet R run i j p) (clash R j i) (get_or before p 0) i (get_or now p 0) (fresh p) (h.held p inside) in
        rw (e, free_more R run i j p, eq-eqb p p refl) (get_or-set_same now p v 0 within ∙ is ∙ one)

    -- another partition
    at_other : (v q : ℕ) → q < most_rules → (q ≡ part_of run j → ⊥)
        → get_or (set now (part_of run j) v) q 0 ≡ pick (free_yet R run i (j + 1) q) (get_or before q 0) (stamp_of i)
    at_other v q lt ne =
        let p = part_of run j in
        rw (free_more R run i j q, ne_eqb p q (λ e. ne (sym e)), and-true (free_yet R run i j q)) (get_or-set_other now p q v 0 ne ∙ h.held q lt)

    pub stamping_more : {v : ℕ} → v ≡ mark_of R i j (get_or now (part_of run j) 0) → j < i → Stamping R run i before (set now (part_of run j) v) (j + 1)
    stamping_more {v} is lt =
        record {
          long = rw length-set h.long;
          held = λ q l. go q l (eqb q (part_of run j)) refl;
        }
      where
        go : (q : ℕ) → q < most_rules → (t : Bool) → eqb q (part_of run j) ≡ t
            → get_or (set now (part_of run j) v) q 0 ≡ pick (free_yet R run i (j + 1) q) (get_or before q 0) (stamp_of i)
        go q l true e = at_part v q is (eqb-true q (part_of run j) e)
        go q l false e = at_other v q l (eqb-false q (part_of run j) e)

  pub stamping_end : {now : List ℕ} {j : ℕ} → Stamping R run i before now j → j ≡ i → now ≡ stamped R run i before
  unfolding stamped
  stamping_end {now} {j} h is =
      let after : ℕ → ℕ = λ q. pick (free R run i q) (get_or before q 0) (stamp_of i) in
      let same : (q : ℕ) → q < length now → get_or now q 0 ≡ get_or (tab most_rules after) q 0
      = λ q l. let inside : q < most_rules = omega (arith, h.long) in
      h.held q inside ∙ ap (λ m. pick (free_yet R run i m q) (get_or before q 0) (stamp_of i)) is ∙ sym (tab_at after most_rules q inside) in
      ext_get_or 0 now (tab most_rules after) (h.long ∙ sym (tab-length after most_rules)) same

-- ---- first fit's partition
-- a stamp is rule i's exactly where the partition is taken
stamp_tells : (t : Bool) (s i : ℕ) → s ≤ i → not (eqb (pick t s (stamp_of i)) (stamp_of i)) ≡ t
stamp_tells true s i le = let other : s ≡ stamp_of i → ⊥ = λ e. omega arith in rw (ne_eqb s (stamp_of i) other)
stamp_tells false s i le = rw (eq-eqb (stamp_of i) (stamp_of i) refl)

module _ (R : Rules) (run : List ℕ) (i : ℕ) (before : List ℕ) (fresh : (q : ℕ) → get_or before q 0 ≤ i) where
  -- a stamp once rule i is held against all rules before it
  stamped_at : (q : ℕ) → q < most_rules → get_or (stamped R run i before) q 0 ≡ pick (free R run i q) (get_or before q 0) (stamp_of i)
  unfolding stamped
  stamped_at q lt = tab_at (λ q. pick (free R run i q) (get_or before q 0) (stamp_of i)) most_rules q lt

  pub stamped-fit : i < most_rules → unstamped i (stamped R run i before) ≡ fit_of R run i
  unfolding unstamped fit_of
  stamped-fit few =
      least_same (λ q. not (eqb (get_or (stamped R run i before) q 0) (stamp_of i))) (free R run i) (suc i)
      (λ q l. let lt : q < most_rules = omega arith in rw (stamped_at q lt) (stamp_tells (free R run i q) (get_or before q 0) i (fresh q)))

  pub stamped_long : length (stamped R run i before) ≡ most_rules
  unfolding stamped
  stamped_long = tab-length (λ q. pick (free R run i q) (get_or before q 0) (stamp_of i)) most_rules

  -- no stamp is later than rule i's
  pub stamped-fresh : (q : ℕ) → get_or (stamped R run i before) q 0 ≤ i + 1
  stamped-fresh q = go (ltb q most_rules) refl
    where
      either : (t : Bool) → pick t (get_or before q 0) (stamp_of i) ≤ i + 1
      either true = omega (arith, fresh q)
      either false = omega arith

      go : (t : Bool) → ltb q most_rules ≡ t → get_or (stamped R run i before) q 0 ≤ i + 1
      go true e = rw (stamped_at q (ltb-true q most_rules e)) (either (free R run i q))
      go false e =
          let past : length (stamped R run i before) ≤ q = omega (arith, stamped_long, ltb-false q most_rules e) in
          rw (get_or-eq_default (stamped R run i before) 0 past) (omega arith)
