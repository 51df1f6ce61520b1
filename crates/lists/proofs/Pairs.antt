-- Which answer order independence gives (`specs/Independence.antt`): yes where no two rules share a header, else the least pair that does.
-- When two rules share a header is left open here: all that the argument asks is that two rules of a list that is not refused do so
-- exactly when they meet. `Theorems.antt` says it of headers that are any list of numbers, and of headers of eight 32-bit numbers.
--     partner_meets, partner_past, paired_past      which rules meet, by the least pair
--     LeastPair, WhenMeet                           the least pair that shares a header; that rules share one exactly when they meet
--     independent_share_iff, pair_share_iff         yes, and the pair named, by which rules share a header
-- Assumes nothing.
use Prim.Native.Nat.{ℕ, ◌<◌}
use mathlib.Core.Bool.{Bool, true, false}
use mathlib.Core.Logic.{◌↔◌}
use mathlib.Core.Path.{◌≡◌, refl, ap}
use native.Mathlib.Omega.{arith}
use lib.Dec.{ltb}
use borrow.Author.Tests.{lt-ltb, le-ltb, ltb-true, ltb-false}
use Rattle.ranges.specs.Numbers.{◌and◌, least}
use Rattle.std.specs.Prelude.{Ok, Some, None}
use Rattle.ranges.proofs.Numbers.{never, picked, not_picked, and_left, and_right, true-not-false, least_is, least-none, least_hit, least_under}
use Rattle.lists.specs.Rules.{Rules, rules_in}
use Rattle.lists.specs.Faults.{list_fault}
use Rattle.lists.specs.Independence.{meet, partners, partner_of, has_partner, paired, pair_of, independence_of}
use Rattle.ranges.proofs.InARow.{else_none}
use Rattle.lists.proofs.Sound.{Accepted, list_accepted, accepted_none}

-- ---- which rules meet, by the least pair
module _ (R : Rules) (i : ℕ) where
  -- a partner comes after i and meets it
  partner_meets : partner_of R i < rules_in R → (i < partner_of R i) × (meet R i (partner_of R i) ≡ true)
  unfolding partner_of
  partner_meets lt =
      let j = least (rules_in R) (partners R i) in
      let hit = least_hit (partners R i) (rules_in R) lt in
      (ltb-true i j (and_left (ltb i j) (meet R i j) hit), and_right (ltb i j) (meet R i j) hit)

  -- a rule after i and before its partner does not meet it
  partner_past : (l : ℕ) → l < partner_of R i → i < l → meet R i l ≡ false
  unfolding partner_of
  partner_past l under after =
      rw (lt-ltb i l after) at (least_under (partners R i) (rules_in R) l under)

-- a rule before the least that has a partner meets none after it
paired_past : (R : Rules) (k l : ℕ) → k < paired R → k < l → l < rules_in R → meet R k l ≡ false
unfolding paired
paired_past R k l under after lt =
    let none = least_under (has_partner R) (rules_in R) k under in
    let past = ltb-false (partner_of R k) (rules_in R) none in
    partner_past R k l (omega arith) after

-- ---- the answers, by which rules share a header
-- rules i < j, the smallest i and then the smallest j that share a header
pub record LeastPair (R : Rules) (Share : ℕ → ℕ → Type 0) (i j : ℕ) : Type 0 where
  pub accepted : Accepted R
  pub after : i < j
  pub rule : j < rules_in R
  pub both : Share i j
  pub rules_before : (k l : ℕ) → k < i → k < l → l < rules_in R → Share k l → ⊥
  pub partners_before : (l : ℕ) → i < l → l < j → Share i l → ⊥

-- two rules share a header exactly when they meet, where nothing is refused
pub record WhenMeet (R : Rules) (Share : ℕ → ℕ → Type 0) : Type 0 where
  pub met : (i j : ℕ) → Share i j → meet R i j ≡ true
  pub share : Accepted R → (i j : ℕ) → i < rules_in R → j < rules_in R → meet R i j ≡ true → Share i j

module _ (R : Rules) {Share : ℕ → ℕ → Type 0} (when : WhenMeet R Share) where
  not_met : (i j : ℕ) → meet R i j ≡ false → Share i j → ⊥
  not_met i j apart share = true-not-false (when.met i j share) apart

  -- a rule l that shares no header with rule i, if it comes later, is no partner of it
  not_partner : Accepted R → (i l : ℕ) → i < rules_in R → l < rules_in R → (i < l → Share i l → ⊥) → partners R i l ≡ false
  not_partner s i l i-rule l-rule apart = go (ltb i l) (meet R i l) refl refl
    where
      go : (t u : Bool) → ltb i l ≡ t → meet R i l ≡ u → t and u ≡ false
      go true true later met = absurd (apart (ltb-true i l later) (when.share s i l i-rule l-rule met))
      go true false later unmet = refl
      go false u earlier e = refl

  -- a rule that shares none with any later one has no partner
  partnerless : Accepted R → (i : ℕ) → i < rules_in R → ((l : ℕ) → i < l → l < rules_in R → Share i l → ⊥) → has_partner R i ≡ false
  unfolding partner_of
  partnerless s i rule apart =
      let n = rules_in R in
      let none_is = least-none (partners R i) n (λ l lt. not_partner s i l rule lt (λ later. apart l later lt)) in
      le-ltb (least n (partners R i)) n (omega arith)

  pub independent_share_iff : (independence_of R ≡ Ok None) ↔ (Accepted R × ((i j : ℕ) → i < j → j < rules_in R → Share i j → ⊥))
  unfolding paired
  independent_share_iff =
      let n = rules_in R in (
        λ e.
            let told = (else_none (list_fault R) (Ok (pair_of R))).0 e in
            let is-none : pair_of R ≡ None = cc told.1 in
            let past = (not_picked (Some (paired R, partner_of R (paired R))) None None (ltb (paired R) n) is-none (λ r. never (cc))).0 in
            let over = ltb-false (paired R) n past in
            (list_accepted R told.0, λ i j after lt. not_met i j (paired_past R i j (omega arith) after lt)),
        λ p.
            let alone = least-none (has_partner R) n (λ i lt. partnerless p.0 i lt (p.1 i)) in
            rw (accepted_none R p.0, alone, le-ltb n n (omega arith)),
      )

  pair_here : Accepted R → paired R < rules_in R → LeastPair R Share (paired R) (partner_of R (paired R))
  unfolding paired
  pair_here s lt =
      let n = rules_in R in
      let i = least n (has_partner R) in
      let j = partner_of R i in
      let has : j < n = ltb-true j n (least_hit (has_partner R) n lt) in
      let meets = partner_meets R i has in
      record {
        accepted = s;
        after = meets.0;
        rule = has;
        both = when.share s i j lt has meets.1;
        rules_before = λ k l under later rule. not_met k l (paired_past R k l under later rule);
        partners_before = λ l later under. not_met i l (partner_past R i l under later);
      }

  pair_one : (i j : ℕ) → LeastPair R Share i j → (partner_of R i ≡ j) × (paired R ≡ i)
  unfolding paired partner_of
  pair_one i j p =
      let n = rules_in R in
      let i-rule : i < n = omega (arith, p.after, p.rule) in
      let not-before : (l : ℕ) → l < j → partners R i l ≡ false =
      λ l under. not_partner p.accepted i l i-rule (omega (arith, p.rule)) (λ later. p.partners_before l later under) in
      let partner = least_is (partners R i) n j p.rule (rw (lt-ltb i j p.after) (when.met i j p.both)) not-before in
      let has : has_partner R i ≡ true = rw partner (lt-ltb j n p.rule) in
      (partner, least_is (has_partner R) n i i-rule has (λ k lt. partnerless p.accepted k (omega arith) (λ l later rule. p.rules_before k l lt later rule)))

  pub pair_share_iff : (i j : ℕ) → (independence_of R ≡ Ok (Some (i, j))) ↔ LeastPair R Share i j
  pair_share_iff i j = (
    λ e.
        let told = (else_none (list_fault R) (Ok (pair_of R))).0 e in
        let is_pair : pair_of R ≡ Some (i, j) = cc told.1 in
        let found = picked (Some (paired R, partner_of R (paired R))) None (Some (i, j)) (ltb (paired R) (rules_in R)) is_pair (λ r. never (cc)) in
        let same : (paired R, partner_of R (paired R)) ≡ (i, j) = cc found.1 in
        let is_i : paired R ≡ i = ap (λ (p : ℕ × ℕ). p.0) same in
        let is-j : partner_of R (paired R) ≡ j = ap (λ (p : ℕ × ℕ). p.1) same in
        moved (paired R) (partner_of R (paired R)) is_i is-j (pair_here (list_accepted R told.0) (ltb-true (paired R) (rules_in R) found.0)),
    λ p.
        let one = pair_one i j p in
        let i-rule : i < rules_in R = omega (arith, p.after, p.rule) in
        rw (accepted_none R p.accepted, one.1, one.0, lt-ltb i (rules_in R) i-rule),
  )
    where
      moved : (k l : ℕ) → k ≡ i → l ≡ j → LeastPair R Share k l → LeastPair R Share i j
      moved k l is_i is-j here = rw (← is_i, ← is-j) here
