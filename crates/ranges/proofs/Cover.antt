-- What the prefixes of a range are (T3): they start at low, each starts where the last one ended, and the last ends at high; so each
-- number of the range lies in exactly one, and no other number lies in any. Each turns back into its block, and each block is the largest.
--     prefixes_ind           whatever holds of an empty range, and of a range if it holds past its first block, holds of all prefixes
--     Chain, prefixes_chain  the blocks follow each other from low to the end
--     holders, chain_one, chain_before, chain_past      how many prefixes hold a number: one inside, none outside
--     Each, prefixes_turn_back, prefixes_largest
-- Assumes nothing.
use Prim.Native.Nat.{ℕ, zero, suc, ◌+◌, ◌-◌, ◌%◌, ◌^◌, ◌≤◌, ◌<◌}
use mathlib.Core.Bool.{Bool, true, false}
use mathlib.Core.List.{List, [], ◌∷◌}
use mathlib.Core.Path.{◌≡◌, refl, sym, ap, ◌∙◌, subst}
use native.Mathlib.Omega.{arith}
use lib.Dec.{ltb, leb}
use lib.Pow.{pow_pos, pow_mono}
use borrow.Author.Tests.{lt-ltb, le-ltb, le-leb, lt-leb, leb-true, leb-false, ltb-true, ltb-false}
use Rattle.ranges.specs.Numbers.{◌and◌, bit}
use Rattle.ranges.specs.Sides.{end_of}
use Rattle.ranges.specs.Prefixes.{bounds_of}
use Rattle.ranges.specs.Blocks.{Prefix, Ranged, block_fits, block_of, prefixes_of}
use Rattle.std.specs.Prelude.{Ok}
use Rattle.ranges.proofs.Sides.{high_within}
use Rattle.ranges.proofs.Prefixes.{bounds_are}
use Rattle.ranges.proofs.Blocks.{block_at, block_narrow, block_largest}
use Rattle.ranges.proofs.Expansion.{first_of, next_of, prefixes_done, prefixes_more}

-- ---- induction along the prefixes of a range
module _ (w high : ℕ) (P : ℕ → List Prefix → Type 0)
    (done : (low : ℕ) → end_of high ≤ low → P low [])
    (more : (low : ℕ) (ps : List Prefix) → low < end_of high → P (next_of w low high) ps → P low (first_of w low high ∷ ps)) where
  -- k bounds how many numbers are left
  ind : (k low : ℕ) → end_of high ≤ low + k → P low (prefixes_of w low high)
  ind zero low past =
      let over : end_of high ≤ low = omega arith in
      subst (P low) (sym (prefixes_done w low high over)) (done low over)
  ind (suc k) low enough =
      let next = next_of w low high in
      go (leb (end_of high) low) refl (ind k next (omega (arith, pow_pos (block_of w low high))))
    where
      go : (b : Bool) → leb (end_of high) low ≡ b → P (next_of w low high) (prefixes_of w (next_of w low high) high) → P low (prefixes_of w low high)
      go true e rest =
          let over : end_of high ≤ low = leb-true (end_of high) low e in
          subst (P low) (sym (prefixes_done w low high over)) (done low over)
      go false e rest =
          let within : low < end_of high = leb-false (end_of high) low e in
          subst (P low) (sym (prefixes_more w low high within)) (more low (prefixes_of w (next_of w low high) high) within rest)

  pub prefixes_ind : (low : ℕ) → P low (prefixes_of w low high)
  prefixes_ind low = ind (end_of high) low (omega arith)

-- ---- the blocks follow each other
-- how many numbers a prefix holds
abbrev pub span_of : ℕ → Prefix → ℕ
span_of w p = 2 ^ (w - p.length)

-- the first starts at s, each starts where the last one ended, and the last ends before e
abbrev pub Chain : ℕ → ℕ → ℕ → List Prefix → Type 0
Chain w s e [] = s ≡ e
Chain w s e (p ∷ ps) = (p.value ≡ s) × Chain w (s + span_of w p) e ps

-- the first prefix holds the largest block
pub first-size : (w low high : ℕ) → low < end_of high → span_of w (first_of w low high) ≡ 2 ^ block_of w low high
first-size w low high within =
    let back : w - (w - block_of w low high) ≡ block_of w low high = omega (arith, block_narrow w low high within) in
    ap (λ k. 2 ^ k) back

pub prefixes_chain : (w low high : ℕ) → low ≤ end_of high → Chain w low (end_of high) (prefixes_of w low high)
prefixes_chain w low high = prefixes_ind w high (λ s ps. s ≤ end_of high → Chain w s (end_of high) ps) done more low
  where
    done : (s : ℕ) → end_of high ≤ s → s ≤ end_of high → s ≡ end_of high
    done s past le = omega arith

    more : (s : ℕ) (ps : List Prefix) → s < end_of high → (next_of w s high ≤ end_of high → Chain w (next_of w s high) (end_of high) ps)
        → s ≤ end_of high → Chain w s (end_of high) (first_of w s high ∷ ps)
    more s ps within rest le =
        (refl, subst (λ k. Chain w (s + k) (end_of high) ps) (sym (first-size w s high within)) (rest (block_at w s high within).1))

-- ---- how many prefixes hold a number
-- x lies in the prefix
abbrev pub holds : ℕ → ℕ → Prefix → Bool
holds w x p = leb p.value x and ltb x (p.value + span_of w p)

abbrev pub holders : ℕ → ℕ → List Prefix → ℕ
holders w x [] = 0
holders w x (p ∷ ps) = bit (holds w x p) + holders w x ps

module _ (w x : ℕ) where
  -- a chain that starts past x does not hold it
  pub chain_before : (s e : ℕ) (ps : List Prefix) → Chain w s e ps → x < s → holders w x ps ≡ 0
  chain_before s e [] c lt = refl
  chain_before s e (p ∷ ps) c lt =
      let out : holds w x p ≡ false = rw (lt-leb p.value x (omega (arith, c.0))) in
      rw out (omega (arith, chain_before (s + span_of w p) e ps c.1 (omega arith)))

  -- a chain ends no sooner than it starts
  chain_order : (s e : ℕ) (ps : List Prefix) → Chain w s e ps → s ≤ e
  chain_order s e [] c = omega (arith, c)
  chain_order s e (p ∷ ps) c = omega (arith, chain_order (s + span_of w p) e ps c.1)

  -- x is at or past a prefix's end
  past_end : (s : ℕ) (p : Prefix) → p.value ≡ s → s + span_of w p ≤ x → holds w x p ≡ false
  past_end s p starts past = rw (le-leb p.value x (omega (arith, starts, past)), le-ltb x (p.value + span_of w p) (omega (arith, starts, past)))

  -- nor does one that ends before it
  pub chain_past : (s e : ℕ) (ps : List Prefix) → Chain w s e ps → e ≤ x → holders w x ps ≡ 0
  chain_past s e [] c le = refl
  chain_past s e (p ∷ ps) c le =
      let past : s + span_of w p ≤ x = omega (arith, chain_order (s + span_of w p) e ps c.1) in
      rw (past_end s p c.0 past) (omega (arith, chain_past (s + span_of w p) e ps c.1 le))

  -- one that x lies within holds it once
  pub chain_one : (s e : ℕ) (ps : List Prefix) → Chain w s e ps → s ≤ x → x < e → holders w x ps ≡ 1
  chain_one s e [] c le lt = absurd (omega (arith, c))
  chain_one s e (p ∷ ps) c le lt = go (ltb x (s + span_of w p)) refl (λ past. chain_one (s + span_of w p) e ps c.1 past lt)
    where
      go : (t : Bool) → ltb x (s + span_of w p) ≡ t → (s + span_of w p ≤ x → holders w x ps ≡ 1) → holders w x (p ∷ ps) ≡ 1
      go true q rest =
          let under : x < s + span_of w p = ltb-true x (s + span_of w p) q in
          let here : holds w x p ≡ true = rw (le-leb p.value x (omega (arith, c.0, le)), lt-ltb x (p.value + span_of w p) (omega (arith, c.0, under))) in
          rw here (omega (arith, chain_before (s + span_of w p) e ps c.1 under))
      go false q rest =
          let past : s + span_of w p ≤ x = ltb-false x (s + span_of w p) q in
          rw (past_end s p c.0 past) (omega (arith, rest past))

-- ---- each prefix
abbrev pub Each : (Prefix → Type 0) → List Prefix → Type 0
Each P [] = Unit
Each P (p ∷ ps) = P p × Each P ps

-- turned back, it gives its block
abbrev pub TurnsBack : ℕ → Prefix → Type 0
TurnsBack w p = bounds_of w p.value p.length ≡ Ok (record { low = p.value; high = p.value + (span_of w p - 1) })

pub prefixes_turn_back : (w low high : ℕ) → Ranged w low high → Each (TurnsBack w) (prefixes_of w low high)
prefixes_turn_back w low high r = prefixes_ind w high (λ s ps. Each (TurnsBack w) ps) (λ s past. tt) more low
  where
    more : (s : ℕ) (ps : List Prefix) → s < end_of high → Each (TurnsBack w) ps → Each (TurnsBack w) (first_of w s high ∷ ps)
    more s ps within rest =
        let narrow : s < 2 ^ w = omega (arith, high_within high s within, r.narrow) in
        let aligned : s % span_of w (first_of w s high) ≡ 0 = ap (λ k. s % k) (first-size w s high within) ∙ (block_at w s high within).0 in
        (bounds_are w s (w - block_of w s high) r.some_bits r.few_bits (omega arith) narrow aligned, rest)

-- no aligned block from its value on that stays in the range is larger
abbrev pub Largest : ℕ → ℕ → Prefix → Type 0
Largest w high p = (t : ℕ) → t ≤ w → block_fits p.value high t ≡ true → 2 ^ t ≤ span_of w p

pub prefixes_largest : (w low high : ℕ) → Each (Largest w high) (prefixes_of w low high)
prefixes_largest w low high = prefixes_ind w high (λ s ps. Each (Largest w high) ps) (λ s past. tt) more low
  where
    more : (s : ℕ) (ps : List Prefix) → s < end_of high → Each (Largest w high) ps → Each (Largest w high) (first_of w s high ∷ ps)
    more s ps within rest =
        (λ t le fits. subst (λ k. 2 ^ t ≤ k) (sym (first-size w s high within)) (pow_mono (block_largest w s high within t le fits)), rest)
