-- Laws of bytes fed one after the other (`fed` of `specs/Cells.antt`): in two pieces is as in one, wherever the cut
-- falls.
-- Assumes nothing.
use Prim.Native.Nat.{ℕ, ◌+◌, ◌-◌, ◌<◌}
use mathlib.Core.List.{List, [], ◌∷◌, ◌++◌}
use mathlib.Core.Path.{◌≡◌, refl, sym, ap, ◌∙◌}
use native.Mathlib.Omega.{arith}
use native.Mathlib.Numerals.{add-one}
use lib.ListN.{length, get_or, take, drop, length-drop}
use lib.Seq.{take-suc, take-add, take_all}
use Rattle.std.proofs.lemmas.List.{take-append-drop}
use Rattle.text.specs.Cells.{fed}

-- what is lent of a run from a place on
pub rest_is : (bytes : List ℕ) (i : ℕ) → take (length bytes - i) (drop i bytes) ≡ drop i bytes
rest_is bytes i = let size = length-drop i bytes in take_all (length bytes - i) (drop i bytes) (omega arith)

module _ {A : Type 0} (step : A → ℕ → A) where
  -- two pieces
  pub fed_append : (s : A) (xs ys : List ℕ) → fed step s (xs ++ ys) ≡ fed step (fed step s xs) ys
  fed_append s [] ys = refl
  fed_append s (x ∷ xs) ys = fed_append (step s x) xs ys

  -- one byte more of a run
  pub fed_more : (s : A) (bytes : List ℕ) (i : ℕ) → i < length bytes
      → fed step s (take (i + 1) bytes) ≡ step (fed step s (take i bytes)) (get_or bytes i 0)
  fed_more s bytes i lt = rw (add-one i, take-suc bytes i 0) (fed_append s (take i bytes) (get_or bytes i 0 ∷ []))

  -- some bytes more, out of what is lent of a run from a place on
  pub fed_on : (s : A) (bytes : List ℕ) (i used : ℕ)
      → fed step s (take (i + used) bytes) ≡ fed step (fed step s (take i bytes)) (take used (take (length bytes - i) (drop i bytes)))
  fed_on s bytes i used =
      rw (rest_is bytes i) (ap (fed step s) (take-add i used bytes) ∙ fed_append s (take i bytes) (take used (drop i bytes)))

  -- the first bytes of a run, and then what is lent of the rest
  pub fed_rest : (s : A) (bytes : List ℕ) (used : ℕ) → fed step (fed step s (take used bytes)) (take (length bytes - used) (drop used bytes)) ≡ fed step s bytes
  fed_rest s bytes used =
      rw (rest_is bytes used) (sym (fed_append s (take used bytes) (drop used bytes)) ∙ ap (fed step s) (take-append-drop used bytes))
