-- What the local facts of a table say (`specs/Checked.antt`), of a list whose ranges all hold a number: the run read off it is a choice of
-- its b partitions, and makes each of its numbers. Each place has one partition, since the starts ascend; each rule one place, since no
-- place has a rule that stands before. Neighbours ascend, so all pairs of a partition do, and none clash: a choice. Going from place to
-- place, the place that the choice gives to the rule there rises strictly and stays below n: it is the place itself (`risen`). The starts
-- follow from where the first and last places of partitions stand, the rows from those of the places before and after.
--     risen                                 a function that rises strictly and stays below n is the identity
--     part_at_lem, part_is                      the partition of a place
--     place_once_in, part_off, off_at, off_long      the place of a rule; the run read off
--     all_sorted                            all pairs of a partition ascend
--     off_choice                            the run read off is a choice
--     off_place, off-rule, off_start, off-least, off_from, off_to      and each number of its table is this table's
-- Assumes nothing.
use Prim.Native.Nat.{ℕ, zero, suc, ◌+◌, ◌-◌, ◌≤◌, ◌<◌}
use mathlib.Core.Bool.{Bool, true, false}
use mathlib.Core.List.{List}
use mathlib.Core.Path.{◌≡◌, refl, sym, ap, ◌∙◌, subst}
use mathlib.Core.Logic.{⊎_elim}
use native.Mathlib.Omega.{arith}
use native.Mathlib.Nat.{eq-or-lt_of_le}
use lib.Dec.{ltb, eqb}
use lib.ListN.{length}
use borrow.Author.Tests.{lt-ltb, eq-eqb, ne_eqb, ltb-true, ltb-false, eqb-true, eqb-false}
use Rattle.ranges.specs.Numbers.{pick, least}
use Rattle.ranges.proofs.Numbers.{never, least_is, least_hit, least_under, least_upto, tab-length, tab_at}
use Rattle.ranges.proofs.Counting.{onto}
use Rattle.lists.specs.Rules.{Rules, fields_of, rules_in}
use Rattle.lists.proofs.Sound.{Sound}
use Rattle.tables.specs.Layout.{View}
use Rattle.ordering.specs.Order.{before, clash, compare}
use Rattle.ranges.specs.Standings.{is_before, is_clash}
use Rattle.ranges.specs.declared.standing.Standing.{Standing}
use Rattle.ranges.specs.declared.standing.Standing.TheVariants.{Alike, Before, After, Clash}
use Rattle.sorting.specs.FirstFit.{part_of, Choice}
use Rattle.sorting.specs.Table.{ahead, place_of, rule_at, start_of, least_of, in_run, run_from, run_to}
use Rattle.sorting.specs.Promise.{InPart, Smallest}
use Rattle.ordering.proofs.Ordering.{before_trans, clash-sym}
use Rattle.sorting.proofs.Sorted.Places.{ahead_lower, ahead_same, place_lt, place_mono, rule_place}
use Rattle.sorting.proofs.Sorted.Starts.{start_last, start_zero, in_part}
use Rattle.sorting.proofs.Sorted.Leasts.{least_part}
use Rattle.ordering.proofs.Fields.{alike-under}
use Rattle.sorting.proofs.Sorted.Runs.{run_turn, from_first, from_same, from_new, to_last, to_same, to_new}
use Rattle.auditing.specs.ReadOff.{part_at, place_in, run_off}
use Rattle.auditing.specs.Checked.{joined, Neighbours, Checked}

-- ---- a function that rises strictly and stays below n is the identity
module _ (n : ℕ) (g : ℕ → ℕ) (few : (p : ℕ) → p < n → g p < n) (rise : (p : ℕ) → suc p < n → g p < g (suc p)) where
  risen_low : (p : ℕ) → p < n → p ≤ g p
  risen_low zero lt = omega arith
  risen_low (suc p) lt = omega (arith, risen_low p (omega arith), rise p lt)

  risen_high : (k p : ℕ) → p + suc k ≡ n → g p + suc k ≤ n
  risen_high zero p e = omega (arith, few p (omega arith))
  risen_high (suc k) p e = omega (arith, risen_high k (suc p) (omega arith), rise p (omega arith))

  pub risen : (p : ℕ) → p < n → g p ≡ p
  risen p lt = omega (arith, risen_low p lt, risen_high (n - suc p) p (omega arith))

-- rules one before the other do not clash
before-apart : (s : Standing) → is_before s ≡ true → is_clash s ≡ false
before-apart Alike e = never (cc)
before-apart Before e = refl
before-apart After e = refl
before-apart Clash e = never (cc)

-- ---- the starts of a checked table
module _ {R : Rules} {v : View} (h : Checked R v) where
  start_up : (k q : ℕ) → q + k ≤ v.b → v.start q ≤ v.start (q + k)
  start_up zero q le = let is : q + 0 ≡ q = omega arith in rw is (omega arith)
  start_up (suc k) q le =
      let is : q + suc k ≡ suc (q + k) = omega arith in
      rw is (omega (arith, start_up k q (omega arith), h.ascend (q + k) (omega arith)))

  starts_up : (q r : ℕ) → q ≤ r → r ≤ v.b → v.start q ≤ v.start r
  starts_up q r le few =
      let is : q + (r - q) ≡ r = omega arith in
      subst (λ x. v.start q ≤ v.start x) is (start_up (r - q) q (omega arith))

  -- a place of a partition is one of the n places
  part_place : (q p : ℕ) → InPart v q p → p < rules_in R
  part_place q p at = omega (arith, at.to_next, starts_up (suc q) v.b at.part (omega arith), h.last_start)

  -- two partitions with one place are one
  part_once : (q r p : ℕ) → InPart v q p → InPart v r p → q ≡ r
  part_once q r p at at' = go (ltb q r) (ltb r q) refl refl
    where
      go : (s t : Bool) → ltb q r ≡ s → ltb r q ≡ t → q ≡ r
      go true t e g = absurd (omega (arith, at.to_next, at'.from_start, starts_up (suc q) r (ltb-true q r e) (omega (arith, at'.part))))
      go false true e g = absurd (omega (arith, at'.to_next, at.from_start, starts_up (suc r) q (ltb-true r q g) (omega (arith, at.part))))
      go false false e g = omega (arith, ltb-false q r e, ltb-false r q g)

  -- each place is one of its partition
  pub part_at_lem : (p : ℕ) → p < rules_in R → InPart v (part_at v p) p
  unfolding part_at
  part_at_lem p is_p =
      let few : least v.b past < v.b = go v.b refl in
      record { part = few; from_start = low (least v.b past) refl few; to_next = ltb-true p (v.start (suc (least v.b past))) (least_hit past v.b few) }
    where
      past : ℕ → Bool
      past q = ltb p (v.start (suc q))

      -- the last partition ends at n
      go : (b : ℕ) → v.b ≡ b → least v.b past < v.b
      go zero e = absurd (omega (arith, h.first_start, h.last_start, ap v.start e))
      go (suc b) e =
          let end : v.start (suc b) ≡ rules_in R = ap v.start (sym e) ∙ h.last_start in
          let lt : p < v.start (suc b) = omega arith in
          omega (arith, least_upto past v.b b (lt-ltb p (v.start (suc b)) lt))

      low : (q : ℕ) → least v.b past ≡ q → q < v.b → v.start q ≤ p
      low zero e few = omega (arith, h.first_start)
      low (suc q) e few = ltb-false p (v.start (suc q)) (least_under past v.b q (omega arith))

  pub part_is : (q p : ℕ) → InPart v q p → part_at v p ≡ q
  part_is q p at = part_once (part_at v p) q p (part_at_lem p (part_place q p at)) at

  -- partitions ascend with the places
  part_up : (p r : ℕ) → p ≤ r → r < rules_in R → part_at v p ≤ part_at v r
  part_up p r le is_r =
      let at_p = part_at_lem p (omega arith) in
      let at-r = part_at_lem r is_r in
      go (ltb (part_at v r) (part_at v p)) refl at_p at-r
    where
      go : (t : Bool) → ltb (part_at v r) (part_at v p) ≡ t → InPart v (part_at v p) p → InPart v (part_at v r) r → part_at v p ≤ part_at v r
      go true e at_p at-r =
          absurd (omega (arith, at-r.to_next, at_p.from_start, starts_up (suc (part_at v r)) (part_at v p) (ltb-true (part_at v r) (part_at v p) e) (omega (arith, at_p.part))))
      go false e at_p at-r = ltb-false (part_at v r) (part_at v p) e

  -- ---- the place of a rule
  place_at : (i : ℕ) → i < rules_in R → (place_in (rules_in R) v i < rules_in R) × (v.order (place_in (rules_in R) v i) ≡ i)
  unfolding place_in
  place_at i is_i =
      let at = onto (rules_in R) v.order h.order_rule h.order_once i is_i in
      let up = least_upto (λ p. eqb (v.order p) i) (rules_in R) at.0 (eq-eqb (v.order at.0) i at.2) in
      let few : least (rules_in R) (λ p. eqb (v.order p) i) < rules_in R = omega (arith, up, at.1) in
      (few, eqb-true (v.order (least (rules_in R) (λ p. eqb (v.order p) i))) i (least_hit (λ p. eqb (v.order p) i) (rules_in R) few))

  place_back : (p : ℕ) → p < rules_in R → place_in (rules_in R) v (v.order p) ≡ p
  place_back p is_p =
      let at = place_at (v.order p) (h.order_rule p is_p) in
      h.order_once (place_in (rules_in R) v (v.order p)) p at.0 is_p at.1

  -- the place at which rule i stands
  pub place_once_in : (p i : ℕ) → p < rules_in R → v.order p ≡ i → place_in (rules_in R) v i ≡ p
  place_once_in p i is_p is = ap (place_in (rules_in R) v) (sym is) ∙ place_back p is_p

  -- ---- the run read off
  abbrev off : List ℕ
  off = run_off (rules_in R) v

  pub part_off : (i : ℕ) → i < rules_in R → part_of off i ≡ part_at v (place_in (rules_in R) v i)
  unfolding run_off
  part_off i is_i = tab_at (λ j. part_at v (place_in (rules_in R) v j)) (rules_in R) i is_i

  pub off_at : (p : ℕ) → p < rules_in R → part_of off (v.order p) ≡ part_at v p
  off_at p is_p = part_off (v.order p) (h.order_rule p is_p) ∙ ap (part_at v) (place_back p is_p)

  pub off_long : length off ≡ rules_in R
  unfolding run_off
  off_long = tab-length (λ j. part_at v (place_in (rules_in R) v j)) (rules_in R)

  -- ---- a list without void ranges
  module _ (sound : Sound R) where
    -- all pairs of a partition ascend
    ascends : (k p q : ℕ) → InPart v q p → InPart v q (suc p + k) → before R (v.order p) (v.order (suc p + k)) ≡ true
    ascends zero p q at at' =
        let is : suc p + 0 ≡ suc p = omega arith in
        rw is (h.sorted q p (record { part = at.part; from_start = at.from_start; to_next = omega (arith, at'.to_next) }))
    ascends (suc k) p q at at' =
        let is : suc p + suc k ≡ suc (suc p + k) = omega arith in
        let mid : InPart v q (suc p + k) = record { part = at.part; from_start = omega (arith, at.from_start); to_next = omega (arith, at'.to_next) } in
        let last = h.sorted q (suc p + k) (record { part = at.part; from_start = mid.from_start; to_next = omega (arith, at'.to_next) }) in
        rw is (before_trans R sound (v.order p) (v.order (suc p + k)) (v.order (suc (suc p + k)))
        (h.order_rule p (part_place q p at)) (h.order_rule (suc p + k) (part_place q (suc p + k) mid)) (ascends k p q at mid) last)

    pub all_sorted : (q p r : ℕ) → InPart v q p → InPart v q r → p < r → before R (v.order p) (v.order r) ≡ true
    all_sorted q p r at at' lt =
        let is : suc p + (r - suc p) ≡ r = omega arith in
        let at'' = subst (InPart v q) (sym is) at' in
        subst (λ x. before R (v.order p) (v.order x) ≡ true) is (ascends (r - suc p) p q at at'')

    -- rules of one partition number at places p < r
    pair_sorted : (p r : ℕ) → p < r → r < rules_in R → part_at v p ≡ part_at v r → before R (v.order p) (v.order r) ≡ true
    pair_sorted p r lt is_r same =
        let at_p = part_at_lem p (omega arith) in
        let at-r = part_at_lem r is_r in
        all_sorted (part_at v r) p r (subst (λ q. InPart v q p) same at_p) at-r lt

    -- ---- it is a choice
    off_below : (i : ℕ) → i < rules_in R → part_of off i < v.b
    off_below i is_i = omega (arith, part_off i is_i, (part_at_lem (place_in (rules_in R) v i) (place_at i is_i).0).part)

    off_used : (q : ℕ) → q < v.b → (i : ℕ) × (i < rules_in R) × (part_of off i ≡ q)
    off_used q lt =
        let at : InPart v q (v.start q) = record { part = lt; from_start = omega arith; to_next = h.ascend q lt } in
        let is_p = part_place q (v.start q) at in
        (v.order (v.start q), h.order_rule (v.start q) is_p, off_at (v.start q) is_p ∙ part_is q (v.start q) at)

    off-apart : (i j : ℕ) → i < j → j < rules_in R → part_of off i ≡ part_of off j → clash R i j ≡ false
    off-apart i j lt is-j same = go (ltb p r) refl
      where
        is_i : i < rules_in R
        is_i = omega arith

        p : ℕ
        p = place_in (rules_in R) v i

        r : ℕ
        r = place_in (rules_in R) v j

        at_i : (p < rules_in R) × (v.order p ≡ i)
        at_i = place_at i is_i

        at_j : (r < rules_in R) × (v.order r ≡ j)
        at_j = place_at j is-j

        one : part_at v p ≡ part_at v r
        one = sym (part_off i is_i) ∙ same ∙ part_off j is-j

        go : (t : Bool) → ltb p r ≡ t → clash R i j ≡ false
        go true e =
            let first : before R i j ≡ true = rw (← at_i.1, ← at_j.1) (pair_sorted p r (ltb-true p r e) at_j.0 one) in
            before-apart (compare R i j (fields_of R)) first
        go false e =
            let other : p ≡ r → ⊥ = λ e. omega (arith, sym at_i.1 ∙ ap v.order e ∙ at_j.1) in
            let under : r < p = omega (arith, ltb-false p r e) in
            let first : before R j i ≡ true = rw (← at_i.1, ← at_j.1) (pair_sorted r p under at_i.0 (sym one)) in
            clash-sym R i j ∙ before-apart (compare R j i (fields_of R)) first

    pub off_choice : Choice R off v.b
    off_choice = record { below = off_below; used = off_used; apart = off-apart }

    -- ---- each rule's place
    off-ahead : (p : ℕ) → suc p < rules_in R → ahead R off (v.order (suc p)) (v.order p) ≡ true
    off-ahead p is_r =
        let is_p : p < rules_in R = omega arith in
        go (eqb (part_at v p) (part_at v (suc p))) refl is_p (part_up p (suc p) (omega arith) is_r)
      where
        go : (t : Bool) → eqb (part_at v p) (part_at v (suc p)) ≡ t → p < rules_in R → part_at v p ≤ part_at v (suc p)
            → ahead R off (v.order (suc p)) (v.order p) ≡ true
        go true e is_p up =
            let same = eqb-true (part_at v p) (part_at v (suc p)) e in
            ahead_same R off (v.order (suc p)) (v.order p) (off_at p is_p ∙ same ∙ sym (off_at (suc p) is_r))
            ∙ pair_sorted p (suc p) (omega arith) is_r same
        go false e is_p up =
            let other = eqb-false (part_at v p) (part_at v (suc p)) e in
            let lower : part_of off (v.order p) < part_of off (v.order (suc p)) = omega (arith, off_at p is_p, off_at (suc p) is_r) in
            ahead_lower R off (v.order (suc p)) (v.order p) lower

    pub off_place : (p : ℕ) → p < rules_in R → place_of R off (v.order p) ≡ p
    off_place =
        risen (rules_in R) (λ p. place_of R off (v.order p))
        (λ p is_p. place_lt sound off_choice (v.order p) (h.order_rule p is_p))
        (λ p is_r. place_mono sound off_choice (v.order (suc p)) (v.order p) (h.order_rule p (omega arith)) (off-ahead p is_r))

    pub off-rule : (p : ℕ) → p < rules_in R → rule_at R off p ≡ v.order p
    off-rule p is_p = ap (rule_at R off) (sym (off_place p is_p)) ∙ rule_place sound off_choice (v.order p) (h.order_rule p is_p)

    -- ---- the starts
    rule_part : (q p : ℕ) → InPart v q p → part_of off (rule_at R off p) ≡ q
    rule_part q p at =
        let is_p = part_place q p at in
        ap (part_of off) (off-rule p is_p) ∙ off_at p is_p ∙ part_is q p at

    -- what a place of partition q says of the starts of the run read off
    between : (q p : ℕ) → InPart v q p → (start_of R off q ≤ p) × (p < start_of R off (suc q))
    between q p at =
        subst (λ x. (start_of R off x ≤ p) × (p < start_of R off (suc x))) (rule_part q p at) (in_part sound off_choice p (part_place q p at))

    pub off_start : (q : ℕ) → q ≤ v.b → start_of R off q ≡ v.start q
    off_start zero le = start_zero off_choice ∙ sym h.first_start
    off_start (suc q) le =
        let up = h.ascend q le in
        let last : InPart v q (v.start (suc q) - 1) = record { part = le; from_start = omega arith; to_next = omega arith } in
        ⊎_elim
        (λ e. ap (start_of R off) e ∙ start_last off_choice ∙ sym h.last_start ∙ ap v.start (sym e))
        (λ lt.
        let first : InPart v (suc q) (v.start (suc q)) = record { part = lt; from_start = omega arith; to_next = h.ascend (suc q) lt } in
        omega (arith, (between (suc q) (v.start (suc q)) first).0, (between q (v.start (suc q) - 1) last).1))
        (eq-or-lt_of_le le)

    -- ---- the smallest rules
    pub off-least : (q : ℕ) → q < v.b → least_of R off q ≡ v.least q
    off-least q lt = least_part off_choice q lt ∙ least_is (λ i. eqb (part_of off i) q) (rules_in R) (v.least q) is_rule here under
      where
        of : Smallest v q (v.least q)
        of = h.smallest q lt

        is_p : of.at.0 < rules_in R
        is_p = part_place q of.at.0 of.at.1

        is_rule : v.least q < rules_in R
        is_rule = omega (arith, h.order_rule of.at.0 is_p, of.at.2)

        here : eqb (part_of off (v.least q)) q ≡ true
        here = eq-eqb (part_of off (v.least q)) q (ap (part_of off) (sym of.at.2) ∙ off_at of.at.0 is_p ∙ part_is q of.at.0 of.at.1)

        -- a smaller rule of the partition would stand at one of its places
        under : (i : ℕ) → i < v.least q → eqb (part_of off i) q ≡ false
        under i less = ne_eqb (part_of off i) q (λ e.
            let is_i : i < rules_in R = omega (arith, is_rule) in
            let at = place_at i is_i in
            let in-q = subst (λ x. InPart v x (place_in (rules_in R) v i)) (sym (part_off i is_i) ∙ e) (part_at_lem (place_in (rules_in R) v i) at.0) in
            omega (arith, of.least_of (place_in (rules_in R) v i) in-q, at.1))

    -- ---- the runs
    -- neighbours of one partition are in one run where f is below how many first fields they have alike
    near_in : (q p f : ℕ) → Neighbours v q p → f < fields_of R → in_run R off (suc p) f p ≡ ltb f (joined R v p)
    near_in q p f at in_row =
        let at_p : InPart v q p = record { part = at.part; from_start = at.from_start; to_next = omega (arith, at.to_next) } in
        let at-r : InPart v q (suc p) = record { part = at.part; from_start = omega (arith, at.from_start); to_next = at.to_next } in
        rw (rule_part q p at_p, rule_part q (suc p) at-r, eq-eqb q q refl, off-rule p (part_place q p at_p), off-rule (suc p) (part_place q (suc p) at-r))
        (sym (alike-under R (v.order p) (v.order (suc p)) f in_row))

    -- neighbours of two partitions are in no run
    far_in : (q r p f : ℕ) → InPart v q p → InPart v r (suc p) → (q ≡ r → ⊥) → in_run R off (suc p) f p ≡ false
    far_in q r p f at_p at-r other =
        rw (rule_part q p at_p, rule_part r (suc p) at-r, ne_eqb q r other)

    pub off_from : (p f : ℕ) → p < rules_in R → f < fields_of R → run_from R off p f ≡ v.from p f
    off_from zero f is_p in_row =
        let at = part_at_lem 0 is_p in
        let is : v.start (part_at v 0) ≡ 0 = omega (arith, at.from_start) in
        from_first R off f is_p ∙ sym (subst (λ x. v.from x f ≡ x) is (h.from_first (part_at v 0) f at.part in_row))
    off_from (suc p) f is_p in_row = split (ltb (v.start (part_at v (suc p))) (suc p)) refl (part_at_lem (suc p) is_p) (off_from p f (omega arith) in_row)
      where
        joins : (t : Bool) → in_run R off (suc p) f p ≡ t → run_from R off p f ≡ v.from p f → run_from R off (suc p) f ≡ pick t (v.from p f) (suc p)
        joins true e under = from_same R off f p (suc p) e ∙ under
        joins false e under = from_new sound off_choice f p (suc p) refl is_p e

        split : (t : Bool) → ltb (v.start (part_at v (suc p))) (suc p) ≡ t → InPart v (part_at v (suc p)) (suc p) → run_from R off p f ≡ v.from p f
            → run_from R off (suc p) f ≡ v.from (suc p) f
        split true e at under =
            let q = part_at v (suc p) in
            let lt = ltb-true (v.start q) (suc p) e in
            let near : Neighbours v q p = record { part = at.part; from_start = omega arith; to_next = at.to_next } in
            joins (ltb f (joined R v p)) (near_in q p f near in_row) under ∙ sym (h.from_next q p f near in_row)
        split false e at under =
            let q = part_at v (suc p) in
            let is : v.start q ≡ suc p = omega (arith, ltb-false (v.start q) (suc p) e, at.from_start) in
            let at_p = part_at_lem p (omega arith) in
            let other : part_at v p ≡ q → ⊥ = λ same. omega (arith, at_p.from_start, ap v.start same) in
            from_new sound off_choice f p (suc p) refl is_p (far_in (part_at v p) q p f at_p at other)
            ∙ sym (subst (λ x. v.from x f ≡ x) is (h.from_first q f at.part in_row))

    -- from the last place back
    to_back : (k p f : ℕ) → p + suc k ≡ rules_in R → f < fields_of R → run_to R off p f ≡ v.to p f
    to_back zero p f e in_row =
        let at = part_at_lem p (omega arith) in
        let q = part_at v p in
        let last : suc p ≡ v.start (suc q) = omega (arith, at.to_next, starts_up (suc q) v.b at.part (omega arith), h.last_start) in
        to_last R off f p (omega arith) ∙ sym (h.to_last q p f at.part last in_row)
    to_back (suc k) p f e in_row = split (ltb (suc p) (v.start (suc (part_at v p)))) refl (part_at_lem p (omega arith)) (to_back k (suc p) f (omega arith) in_row)
      where
        is_r : suc p < rules_in R
        is_r = omega arith

        joins : (t : Bool) → in_run R off (suc p) f p ≡ t → run_to R off (suc p) f ≡ v.to (suc p) f → run_to R off p f ≡ pick t (v.to (suc p) f) (suc p)
        joins true g over = to_same R off f p (suc p) (run_turn R off p f (suc p) ∙ g) ∙ over
        joins false g over = to_new sound off_choice f p (suc p) refl is_r (run_turn R off p f (suc p) ∙ g)

        split : (t : Bool) → ltb (suc p) (v.start (suc (part_at v p))) ≡ t → InPart v (part_at v p) p → run_to R off (suc p) f ≡ v.to (suc p) f
            → run_to R off p f ≡ v.to p f
        split true g at over =
            let q = part_at v p in
            let near : Neighbours v q p = record { part = at.part; from_start = at.from_start; to_next = ltb-true (suc p) (v.start (suc q)) g } in
            joins (ltb f (joined R v p)) (near_in q p f near in_row) over ∙ sym (h.to_next q p f near in_row)
        split false g at over =
            let q = part_at v p in
            let is : suc p ≡ v.start (suc q) = omega (arith, ltb-false (suc p) (v.start (suc q)) g, at.to_next) in
            let at-r = part_at_lem (suc p) is_r in
            let other : q ≡ part_at v (suc p) → ⊥ = λ same. omega (arith, at-r.to_next, ap (λ x. v.start (suc x)) same) in
            to_new sound off_choice f p (suc p) refl is_r (run_turn R off p f (suc p) ∙ far_in q (part_at v (suc p)) p f at at-r other)
            ∙ sym (h.to_last q p f at.part is in_row)

    pub off_to : (p f : ℕ) → p < rules_in R → f < fields_of R → run_to R off p f ≡ v.to p f
    off_to p f is_p in_row = to_back (rules_in R - suc p) p f (omega arith) in_row
