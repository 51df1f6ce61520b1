-- Laws of bytes put from a place on (`specs/Puts.antt`).
--     put_no_byte                 no byte
--     put_then, put_byte_more     bytes after bytes; one byte more of a text
--     put_long                    the run keeps its length
--     put_place, put-fits         where there is room, every byte is there
--     put_rest                    bytes put from the front of a run's rest, where the rest alone is lent
--     puts_none, puts_then, puts_more     the same of a run that is lent with its place
-- Assumes nothing.
use Prim.Native.Nat.{ℕ, zero, suc, ◌+◌, ◌≤◌, ◌<◌}
use mathlib.Core.Bool.{Bool, true, false}
use mathlib.Core.List.{List, [], ◌∷◌, ◌++◌}
use mathlib.Core.Path.{◌≡◌, refl, sym, ap, ◌∙◌}
use native.Mathlib.Omega.{arith}
use native.Mathlib.Numerals.{add-one}
use lib.Dec.{leb}
use borrow.Author.Tests.{leb-true, leb-false}
use lib.ListN.{length, get_or, take, drop, set, length-append, length-drop}
use lib.Seq.{sets, sets-eq, length-sets, set_out, take-suc}
use Rattle.text.specs.Puts.{place_after, Put, Puts}
use Rattle.text.specs.declared.put.Out.{Out}

-- a store past the end changes nothing, nor do many
sets_out : (l : List ℕ) (i : ℕ) (vs : List ℕ) → length l ≤ i → sets l i vs ≡ l
sets_out l i [] past = refl
sets_out l i (v ∷ vs) past =
    let further : length l ≤ suc i = omega arith in
    rw (set_out l i v past) (sets_out l (suc i) vs further)

sets_then : (l : List ℕ) (i : ℕ) (xs ys : List ℕ) → sets (sets l i xs) (i + length xs) ys ≡ sets l i (xs ++ ys)
sets_then l i [] ys = let same : i + 0 ≡ i = omega arith in rw same
sets_then l i (x ∷ xs) ys =
    let same : i + suc (length xs) ≡ suc i + length xs = omega arith in
    rw same (sets_then (set l i x) (suc i) xs ys)

-- the same from the place that was answered: it differs from i + length xs only where both are past the end
sets_next : (l : List ℕ) (i : ℕ) (xs ys : List ℕ) (next : ℕ) → next ≡ place_after (length l) i (length xs) → sets (sets l i xs) next ys ≡ sets l i (xs ++ ys)
sets_next l i xs ys next is = go (leb (i + length xs) (length l)) refl
  where
    kept : length (sets l i xs) ≡ length l
    kept = length-sets l i xs

    go : (t : Bool) → leb (i + length xs) (length l) ≡ t → sets (sets l i xs) next ys ≡ sets l i (xs ++ ys)
    go true e =
        let fits = leb-true (i + length xs) (length l) e in
        let same : next ≡ i + length xs = omega arith in
        rw same (sets_then l i xs ys)
    go false e =
        let over = leb-false (i + length xs) (length l) e in
        let past : length (sets l i xs) ≤ next = omega (arith, kept) in
        let past' : length (sets l i xs) ≤ i + length xs = omega (arith, kept) in
        sets_out (sets l i xs) next ys past ∙ sym (sets_out (sets l i xs) (i + length xs) ys past') ∙ sets_then l i xs ys

-- past a first number
sets_more : (x : ℕ) (l : List ℕ) (i : ℕ) (vs : List ℕ) → sets (x ∷ l) (suc i) vs ≡ x ∷ sets l i vs
sets_more x l i [] = refl
sets_more x l i (v ∷ vs) = sets_more x (set l i v) (suc i) vs

-- from the front of a list's rest, or into the list from there on; past the end both change nothing
sets_rest : (l : List ℕ) (i : ℕ) (vs : List ℕ) → take i l ++ sets (drop i l) 0 vs ≡ sets l i vs
sets_rest l zero vs = refl
sets_rest [] (suc i) vs = sets_out [] 0 vs (omega arith) ∙ sym (sets_out [] (suc i) vs (omega arith))
sets_rest (x ∷ l) (suc i) vs = ap (λ r. x ∷ r) (sets_rest l i vs) ∙ sym (sets_more x l i vs)

place_then : (n at j k next : ℕ) → next ≡ place_after n at j → place_after n next k ≡ place_after n at (j + k)
place_then n at j k next is = omega arith

module _ {out : List ℕ} {at : ℕ} where
  pub put_no_byte : Put out at [] out at
  put_no_byte = record { place = omega arith; bytes = refl }

module _ {out : List ℕ} {at : ℕ} {xs after : List ℕ} {next : ℕ} (first : Put out at xs after next) where
  pub put_long : length after ≡ length out
  put_long = ap length first.bytes ∙ length-sets out at xs

  -- bytes after bytes
  pub put_then : {ys last : List ℕ} {end : ℕ} → Put after next ys last end → Put out at (xs ++ ys) last end
  put_then {ys} {last} {end} second =
      record {
        place =
            second.place
            ∙ ap (λ n. place_after n next (length ys)) put_long
            ∙ place_then (length out) at (length xs) (length ys) next first.place
            ∙ ap (place_after (length out) at) (sym (length-append xs ys));
        bytes =
            second.bytes
            ∙ ap (λ l. sets l next ys) first.bytes
            ∙ sets_next out at xs ys next first.place;
      }

  -- where there is room, every byte is there and the rest stays
  pub put_place : at + length xs ≤ length out → next ≡ at + length xs
  put_place fits = omega (arith, first.place)

  pub put-fits : at + length xs ≤ length out → after ≡ take at out ++ xs ++ drop (at + length xs) out
  put-fits fits = first.bytes ∙ sets-eq xs out at fits

-- from the front of a run's rest, which alone is lent: in the run they stand from that place on; past the run's end the rest is empty,
-- and nothing is put
pub put_rest : (out : List ℕ) (at : ℕ) {bs after : List ℕ} {next : ℕ} → Put (drop at out) 0 bs after next → Put out at bs (take at out ++ after) (at + next)
put_rest out at {bs} put =
    record { place = omega (arith, put.place, length-drop at out); bytes = ap (λ l. take at out ++ l) put.bytes ∙ sets_rest out at bs }

-- one byte more of a text
pub put_byte_more : (text : List ℕ) (i : ℕ) {out : List ℕ} {at : ℕ} {after : List ℕ} {next : ℕ} {last : List ℕ} {end : ℕ} → i < length text
    → Put out at (take i text) after next → Put after next (get_or text i 0 ∷ []) last end → Put out at (take (i + 1) text) last end
put_byte_more text i lt first second = rw (add-one i, take-suc text i 0) (put_then first second)

-- ---- a run that is lent with its place
pub puts_none : {o : Out} → Puts o [] o
puts_none = record { put = put_no_byte; same_run = refl }

pub puts_then : {o p q : Out} {xs ys : List ℕ} → Puts o xs p → Puts p ys q → Puts o (xs ++ ys) q
puts_then first second = record { put = put_then first.put second.put; same_run = second.same_run ∙ first.same_run }

-- one byte more of a text
pub puts_more : (text : List ℕ) (i : ℕ) {o p q : Out} → i < length text → Puts o (take i text) p → Puts p (get_or text i 0 ∷ []) q → Puts o (take (i + 1) text) q
puts_more text i lt first second = record { put = put_byte_more text i lt first.put second.put; same_run = second.same_run ∙ first.same_run }
