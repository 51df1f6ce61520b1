-- Two tables of the right length that are read alike are one: each number of a table is n, d, b, a rule at a place, a start, a smallest rule
-- number, a run-from or a run-to.
--     ReadAlike       two views say the same
--     same_table      the law
-- Assumes nothing.
use Prim.Native.Nat.{ℕ, zero, suc, ◌-◌, ◌*◌, ◌/◌, ◌%◌, ◌≤◌, ◌<◌}
use mathlib.Core.Bool.{Bool, true, false}
use mathlib.Core.List.{List}
use mathlib.Core.Path.{◌≡◌, refl, sym, ◌∙◌, subst}
use native.Mathlib.Omega.{arith}
use lib.Dec.{ltb}
use lib.ListN.{get_or}
use lib.Seq.{ext_get_or}
use borrow.Author.Tests.{ltb-true, ltb-false}
use Rattle.tables.specs.Layout.{head_length, TableFor, View, view, table_length, order_at, start_at, least_at, from_at, to_at}
use Rattle.tables.proofs.Offsets.{row_back, row_split, order_next, start_next, least_next, from_next, to_next, head_ends, order_ends, starts_end, leasts_end, froms_end, tos_end}

-- two views say the same of n rules of d fields
pub record ReadAlike (n d : ℕ) (v w : View) : Type 0 where
  pub rules : v.n ≡ w.n
  pub fields : v.d ≡ w.d
  pub parts : v.b ≡ w.b
  pub order : (p : ℕ) → p < n → v.order p ≡ w.order p
  pub start : (q : ℕ) → q ≤ n → v.start q ≡ w.start q
  pub least : (q : ℕ) → q < n → v.least q ≡ w.least q
  pub from : (p f : ℕ) → p < n → f < d → v.from p f ≡ w.from p f
  pub to : (p f : ℕ) → p < n → f < d → v.to p f ≡ w.to p f

module _ {n d : ℕ} (S T : List ℕ) (same : ReadAlike n d (view n d S) (view n d T)) where
  -- the tables have the same number at k
  abbrev Same : ℕ → Type 0
  Same k = get_or S k 0 ≡ get_or T k 0

  -- n, d, b
  in_head : (k : ℕ) → k < head_length → Same k
  in_head zero lt = same.rules
  in_head (suc zero) lt = same.fields
  in_head (suc (suc zero)) lt = same.parts
  in_head (suc (suc (suc k))) lt = absurd (omega arith)

  in_order : (p k : ℕ) → p < n → order_at 0 ≤ k → p ≡ k - order_at 0 → Same k
  in_order p k lt over is = subst Same (let at : order_at p ≡ k = omega (arith, order_next p) in at) (same.order p lt)

  in_starts : (q k : ℕ) → q ≤ n → start_at n 0 ≤ k → q ≡ k - start_at n 0 → Same k
  in_starts q k le over is = subst Same (let at : start_at n q ≡ k = omega (arith, start_next n q) in at) (same.start q le)

  in_leasts : (q k : ℕ) → q < n → least_at n 0 ≤ k → q ≡ k - least_at n 0 → Same k
  in_leasts q k lt over is = subst Same (let at : least_at n q ≡ k = omega (arith, least_next n q) in at) (same.least q lt)

  -- number c of all rows
  in_froms : (c k : ℕ) → c < n * d → from_at n d 0 0 ≤ k → c ≡ k - from_at n d 0 0 → Same k
  in_froms c k lt over is =
      let at : from_at n d (c / d) (c % d) ≡ k = omega (arith, from_next n d (c / d) (c % d), row_back d c) in
      let inside = row_split d c n lt in
      subst Same at (same.from (c / d) (c % d) inside.0 inside.1)

  in_tos : (c k : ℕ) → c < n * d → to_at n d 0 0 ≤ k → c ≡ k - to_at n d 0 0 → Same k
  in_tos c k lt over is =
      let at : to_at n d (c / d) (c % d) ≡ k = omega (arith, to_next n d (c / d) (c % d), row_back d c) in
      let inside = row_split d c n lt in
      subst Same at (same.to (c / d) (c % d) inside.0 inside.1)

  anywhere : (k : ℕ) → k < table_length n d → Same k
  anywhere k lt = go (ltb k head_length) (ltb k (start_at n 0)) (ltb k (least_at n 0)) (ltb k (from_at n d 0 0)) (ltb k (to_at n d 0 0)) refl refl refl refl refl
    where
      go : (a b c e g : Bool) → ltb k head_length ≡ a → ltb k (start_at n 0) ≡ b → ltb k (least_at n 0) ≡ c → ltb k (from_at n d 0 0) ≡ e → ltb k (to_at n d 0 0) ≡ g
          → Same k
      go true b c e g p q r s t = in_head k (ltb-true k head_length p)
      go false true c e g p q r s t =
          let over = ltb-false k head_length p in
          let under = ltb-true k (start_at n 0) q in
          in_order (k - order_at 0) k (omega (arith, order_ends n, head_ends)) (omega (arith, head_ends)) refl
      go false false true e g p q r s t =
          let over = ltb-false k (start_at n 0) q in
          let under = ltb-true k (least_at n 0) r in
          in_starts (k - start_at n 0) k (omega (arith, starts_end n)) over refl
      go false false false true g p q r s t =
          let over = ltb-false k (least_at n 0) r in
          let under = ltb-true k (from_at n d 0 0) s in
          in_leasts (k - least_at n 0) k (omega (arith, leasts_end n d)) over refl
      go false false false false true p q r s t =
          let over = ltb-false k (from_at n d 0 0) s in
          let under = ltb-true k (to_at n d 0 0) t in
          in_froms (k - from_at n d 0 0) k (omega (arith, froms_end n d)) over refl
      go false false false false false p q r s t =
          let over = ltb-false k (to_at n d 0 0) t in
          in_tos (k - to_at n d 0 0) k (omega (arith, tos_end n d)) over refl

  pub same_table : TableFor n d S → TableFor n d T → S ≡ T
  same_table long long' = ext_get_or 0 S T (long.long ∙ sym long'.long) (λ k lt. anywhere k (omega (arith, long.long)))
