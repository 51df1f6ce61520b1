-- The two passes over a range's prefixes on plain values: the one that counts them and the one that writes them.
--     Left, left_start, left_more, left_end            counting: so many are passed, and these are left
--     Written, same_long, written_start, written_more, written_end      writing: these are written, and these are left; the run keeps its length
-- Each turn takes the largest block off what is left (`Expansion.antt`), so the number at which it starts rises by one at least.
-- Assumes nothing.
use Prim.Native.Nat.{ℕ, suc, ◌+◌, ◌-◌, ◌*◌, ◌^◌, ◌≤◌, ◌<◌}
use mathlib.Core.List.{List, [], ◌∷◌, ◌++◌, append_assoc, append-nil}
use mathlib.Core.Path.{◌≡◌, refl, sym, ap, ◌∙◌, subst}
use native.Mathlib.Omega.{arith}
use native.Mathlib.Numerals.{add-one}
use lib.ListN.{length, drop, get_or, set, length-append, length-drop}
use lib.Pow.{pow_pos}
use lib.Seq.{drop-cons, set_at}
use Rattle.ranges.specs.Sides.{end_of}
use Rattle.ranges.specs.Blocks.{Prefix, Ranged, block_of, prefixes_of, flat, written}
use Rattle.ranges.proofs.Sides.{within_high, past_high}
use Rattle.ranges.proofs.Blocks.{block_at, block_narrow}
use Rattle.ranges.proofs.Expansion.{first_of, next_of, prefixes_done, prefixes_more}

-- ---- what is left of a range
-- the range from here on is one of the same width, or empty
pub ranged_on : {w low high : ℕ} (at : ℕ) → Ranged w low high → at ≤ high → Ranged w at high
ranged_on {w} {low} {high} at r le = record { some_bits = r.some_bits; few_bits = r.few_bits; ordered = within_high high at le; narrow = r.narrow }

-- the largest block of it starts and ends within it
pub step_few : {w low high at s : ℕ} → Ranged w low high → at ≤ high → s ≡ 2 ^ block_of w at high → (1 ≤ s) × (at + s ≤ high + 1)
unfolding end_of
step_few {w} {low} {high} {at} r le is-s =
    (omega (arith, pow_pos (block_of w at high), is-s), omega (arith, (block_at w at high (within_high high at le)).1, is-s))

-- its exponent is at most 32
pub exponent_few : {w low high t : ℕ} (at : ℕ) → Ranged w low high → at ≤ high → t ≡ block_of w at high → t ≤ w
exponent_few {w} {low} {high} at r le is-t = omega (arith, block_narrow w at high (within_high high at le), is-t)

-- ---- counting
pub record Left (w low high at count : ℕ) : Type 0 where
  pub from_low : low + count ≤ at
  pub to_end : at ≤ end_of high
  pub sum : count + length (prefixes_of w at high) ≡ length (prefixes_of w low high)

pub left_start : {w low high : ℕ} → Ranged w low high → Left w low high low 0
left_start {w} {low} {high} r = record { from_low = omega arith; to_end = omega (arith, r.ordered); sum = omega arith }

-- a turn: s is the size of the largest block at hand
module _ {w low high at count s : ℕ} (l : Left w low high at count) (le : at ≤ high) (is-s : s ≡ 2 ^ block_of w at high) where
  next_is : at + s ≡ next_of w at high
  next_is = ap (λ k. at + k) is-s

  pub left_more : Left w low high (at + s) (count + 1)
  left_more =
      let within = within_high high at le in
      let one_less : length (prefixes_of w at high) ≡ suc (length (prefixes_of w (at + s) high)) =
      ap length (prefixes_more w at high within) ∙ ap (λ k. suc (length (prefixes_of w k high))) (sym next_is) in
      record {
        from_low = omega (arith, l.from_low, pow_pos (block_of w at high), is-s);
        to_end = subst (λ k. k ≤ end_of high) (sym next_is) (block_at w at high within).1;
        sum = omega (arith, one_less, l.sum);
      }

pub left_end : {w low high at count : ℕ} → Left w low high at count → high < at → count ≡ length (prefixes_of w low high)
left_end {w} {low} {high} {at} l past = omega (arith, l.sum, ap length (prefixes_done w at high (past_high high at past)))

-- ---- writing
pub flat-length : (ps : List Prefix) → length (flat ps) ≡ length ps * 2
flat-length [] = refl
flat-length (p ∷ ps) = omega (arith, flat-length ps)

flat_more : (ps : List Prefix) (p : Prefix) → flat (ps ++ (p ∷ [])) ≡ flat ps ++ (p.value ∷ p.length ∷ [])
flat_more [] p = refl
flat_more (q ∷ ps) p = ap (λ xs. q.value ∷ q.length ∷ xs) (flat_more ps p)

-- two stores at the seam
set_two : (front : List ℕ) (y z : ℕ) (back : List ℕ) (a b n : ℕ) → length front ≡ n
    → set (set (front ++ y ∷ z ∷ back) n a) (n + 1) b ≡ (front ++ (a ∷ b ∷ [])) ++ back
set_two front y z back a b n e =
    ap (λ xs. set xs (n + 1) b) (set_at front y (z ∷ back) a n e ∙ sym (append_assoc front (a ∷ []) (z ∷ back)))
    ∙ set_at (front ++ (a ∷ [])) z back b (n + 1) (length-append front (a ∷ []) ∙ ap (λ k. k + 1) e)
    ∙ append_assoc front (a ∷ []) (b ∷ back) ∙ sym (append_assoc front (a ∷ b ∷ []) back)

-- one more pair at the front of a run
module _ (ps : List Prefix) (p : Prefix) (run : List ℕ) (room : length ps * 2 + 1 < length run) where
  rest_two : drop (length ps * 2) run ≡ get_or run (length ps * 2) 0 ∷ get_or run (length ps * 2 + 1) 0 ∷ drop (length ps * 2 + 2) run
  rest_two =
      let n = length ps * 2 in
      let in-n : n < length run = omega arith in
      let two : suc (n + 1) ≡ n + 2 = omega arith in
      drop-cons run n 0 in-n
      ∙ ap (λ xs. get_or run n 0 ∷ xs) (ap (λ k. drop k run) (sym (add-one n)) ∙ drop-cons run (n + 1) 0 room ∙ ap (λ k. get_or run (n + 1) 0 ∷ drop k run) two)

  pub written_pair : set (set (written ps run) (length ps * 2) p.value) (length ps * 2 + 1) p.length ≡ written (ps ++ (p ∷ [])) run
  unfolding written
  written_pair =
      let n = length ps * 2 in
      let longer : n + 2 ≡ length (ps ++ (p ∷ [])) * 2 = omega (arith, length-append ps (p ∷ [])) in
      ap (λ xs. set (set (flat ps ++ xs) n p.value) (n + 1) p.length) rest_two
      ∙ set_two (flat ps) (get_or run n 0) (get_or run (n + 1) 0) (drop (n + 2) run) p.value p.length n (flat-length ps)
      ∙ ap (λ xs. xs ++ drop (n + 2) run) (sym (flat_more ps p))
      ∙ ap (λ k. flat (ps ++ (p ∷ [])) ++ drop k run) longer

pub written-length : (ps : List Prefix) (run : List ℕ) → length ps * 2 ≤ length run → length (written ps run) ≡ length run
unfolding written
written-length ps run le = omega (arith, length-append (flat ps) (drop (length ps * 2) run), flat-length ps, length-drop (length ps * 2) run)

-- the prefixes that are written, those that are left, and the run now
pub record Written (w low high at k : ℕ) (run₀ run : List ℕ) : Type 0 where
  pub done : List Prefix
  pub to_end : at ≤ end_of high
  pub so_far : k ≡ length done * 2
  pub join : done ++ prefixes_of w at high ≡ prefixes_of w low high
  pub now_is : run ≡ written done run₀

pub written_start : {w low high : ℕ} (run : List ℕ) → Ranged w low high → Written w low high low 0 run run
unfolding written
written_start run r = record { done = []; to_end = omega (arith, r.ordered); so_far = refl; join = refl; now_is = refl }

-- the run is as long as it was, wherever the loop stands
pub same_long : {w low high at k : ℕ} {run₀ run : List ℕ} → Written w low high at k run₀ run → length (prefixes_of w low high) * 2 ≤ length run₀
    → length run ≡ length run₀
same_long {w} {low} {high} {at} {run₀ = run₀} g room =
    ap length g.now_is
    ∙ written-length g.done run₀ (omega (arith, length-append g.done (prefixes_of w at high), ap length g.join, room))

module _ {w low high at k : ℕ} {run₀ run : List ℕ} (g : Written w low high at k run₀ run) (le : at ≤ high) where
  -- one prefix at least is left
  one_left : length g.done + suc (length (prefixes_of w (next_of w at high) high)) ≡ length (prefixes_of w low high)
  one_left =
      ap (λ ps. length g.done + length ps) (sym (prefixes_more w at high (within_high high at le)))
      ∙ sym (length-append g.done (prefixes_of w at high)) ∙ ap length g.join

  module _ (room : length (prefixes_of w low high) * 2 ≤ length run₀) where
    -- so the run has places for it
    pub room_here : k + 1 < length run₀
    room_here = omega (arith, one_left, g.so_far, room)

    pub written_more : {s t : ℕ} → s ≡ 2 ^ block_of w at high → t ≡ block_of w at high → Written w low high (at + s) (k + 2) run₀ (set (set run k at) (k + 1) (w - t))
    written_more {s} {t} is-s is-t =
        let p = first_of w at high in
        let next : at + s ≡ next_of w at high = ap (λ j. at + j) is-s in
        let here : length g.done * 2 + 1 < length run₀ = omega (arith, room_here, g.so_far) in
        record {
          done = g.done ++ (p ∷ []);
          to_end = subst (λ j. j ≤ end_of high) (sym next) (block_at w at high (within_high high at le)).1;
          so_far = omega (arith, g.so_far, length-append g.done (p ∷ []));
          join = append_assoc g.done (p ∷ []) (prefixes_of w (at + s) high)
              ∙ ap (λ j. g.done ++ p ∷ prefixes_of w j high) next
              ∙ ap (λ ps. g.done ++ ps) (sym (prefixes_more w at high (within_high high at le)))
              ∙ g.join;
          now_is = ap (λ j. set (set run k at) (k + 1) (w - j)) is-t
              ∙ ap (λ xs. set (set xs k at) (k + 1) p.length) g.now_is
              ∙ ap (λ j. set (set (written g.done run₀) j at) (j + 1) p.length) g.so_far
              ∙ written_pair g.done p run₀ here;
        }

pub written_end : {w low high at k : ℕ} {run₀ run : List ℕ} → Written w low high at k run₀ run → high < at → run ≡ written (prefixes_of w low high) run₀
written_end {w} {low} {high} {at} {run₀ = run₀} g past =
    g.now_is
    ∙ ap (λ ps. written ps run₀)
    (sym (append-nil g.done) ∙ ap (λ ps. g.done ++ ps) (sym (prefixes_done w at high (past_high high at past))) ∙ g.join)
