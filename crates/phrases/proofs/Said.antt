-- Laws of answers as text (`specs/Said.antt`): numbers put one by one, each after a blank, as `put_all` puts those of a run and
-- `put_table` those of a table; and what is put of a refusal.
--     put_more      where the first i are put, one more
--     number_said   a refusal by a number is put with that number, whether a row has it or not
--     refusal_put   a refusal is put with the number that is said of it
-- Assumes nothing.
use Prim.Native.Nat.{ℕ, ◌+◌, ◌*◌, ◌<◌}
use mathlib.Core.List.{List, [], ◌∷◌, ◌++◌, append_assoc, append-nil}
use mathlib.Core.Path.{◌≡◌, refl, sym, ap, ◌∙◌}
use native.Mathlib.Omega.{arith}
use native.Mathlib.Numerals.{add-one}
use lib.ListN.{length, get_or, take}
use lib.Seq.{take-suc}
use Rattle.text.specs.declared.put.Out.{Out}
use Rattle.text.specs.Texts.{bytes}
use Rattle.ranges.specs.Refusals.{refusing}
use Rattle.ranges.specs.declared.refusal.Refusal.{Refusal}
use Rattle.phrases.specs.Said.{spaced, all_spaced, refusal_said}
use Rattle.phrases.specs.Few.{PutFew}
use Rattle.phrases.proofs.Few.{few_then, few_more}

all_append : (xs ys : List ℕ) → all_spaced (xs ++ ys) ≡ all_spaced xs ++ all_spaced ys
all_append [] ys = refl
all_append (x ∷ xs) ys = ap (λ l. spaced x ++ l) (all_append xs ys) ∙ sym (append_assoc (spaced x) (all_spaced xs) (all_spaced ys))

all_more : (xs : List ℕ) (i : ℕ) → i < length xs → all_spaced (take (i + 1) xs) ≡ all_spaced (take i xs) ++ spaced (get_or xs i 0)
all_more xs i lt =
    rw (add-one i, take-suc xs i 0) (all_append (take i xs) (get_or xs i 0 ∷ []) ∙ ap (λ l. all_spaced (take i xs) ++ l) (append-nil (spaced (get_or xs i 0))))

-- where the first i numbers are put, one more
pub put_more : (ns : List ℕ) (i : ℕ) {o p q : Out} → i < length ns → PutFew (21 * i) o (all_spaced (take i ns)) p → PutFew 21 p (spaced (get_or ns i 0)) q
    → PutFew (21 * (i + 1)) o (all_spaced (take (i + 1) ns)) q
put_more ns i lt first more = rw (all_more ns i lt) (few_more (omega arith) (few_then first more))

pub number_said : (number at then : ℕ) → refusal_said (λ n. n) (refusing number at then) ≡ bytes "refused" ++ spaced number ++ spaced at ++ spaced then
number_said number at then = refl

-- the number of a refusal and the first of its place, and then the second, are the refusal, where that number is said of it
pub refusal_put : {C : Type 0} (number : C → ℕ) (x : Refusal C) {n : ℕ} {o p q : Out} → PutFew 49 o (bytes "refused" ++ spaced n ++ spaced x.at) p
    → PutFew 21 p (spaced x.then) q → n ≡ number x.cause → PutFew 70 o (refusal_said number x) q
refusal_put number x first then said = rw (← said) (few_more (omega arith) (few_then first then))
