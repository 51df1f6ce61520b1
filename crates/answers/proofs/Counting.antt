-- Header lines counted one after the other (`specs/Counts.antt`) come to what `specs/HeaderLines.antt` says of them.
--     counted_is      so many are refused, this is the first, and this is why
-- Assumes nothing.
use Prim.Native.Nat.{ℕ, suc, ◌+◌, ◌≤◌}
use mathlib.Core.List.{List, [], ◌∷◌}
use mathlib.Core.Path.{◌≡◌, ◌∙◌}
use native.Mathlib.Omega.{arith}
use borrow.Author.Tests.{ne_eqb}
use lib.ListN.{length}
use Rattle.std.specs.Prelude.{Option, None, Some, is_some}
use Rattle.ranges.specs.Numbers.{pick}
use Rattle.answers.specs.HeaderLines.{flaw_on, refused_in, refused_lines, refused_from, refused_among}
use Rattle.answers.specs.Counts.{headers_so_far, no_lines, most_count, one_up, counted_by}
use Rattle.answers.specs.declared.answer.HeaderFlaw.{HeaderFlaw}
use Rattle.answers.specs.declared.count.HeadersSoFar.{HeadersSoFar}
use Rattle.answers.proofs.Counts.{up_more}

abbrev pub counts : ℕ → HeadersSoFar → List (List ℕ) → HeadersSoFar
counts d h [] = h
counts d h (l ∷ ls) = counts d (counted_by h (flaw_on d l)) ls

up_suc : (n : ℕ) → n + 1 ≤ most_count → one_up n ≡ suc n
up_suc n few = let more = up_more n (omega arith) in omega (arith, more)

-- after a line that was refused: its number and its flaw stay
counts_later : (d : ℕ) (ls : List (List ℕ)) (i r f : ℕ) (w : Option HeaderFlaw) → 1 ≤ r → r ≤ i → i + length ls ≤ most_count
    → counts d (headers_so_far i (Some (refused_lines r f w))) ls ≡ headers_so_far (i + length ls) (Some (refused_lines (r + refused_in d ls) f w))
counts_later d [] i r f w some le few = let a : i + 0 ≡ i = omega arith in let b : r + 0 ≡ r = omega arith in rw (a, b)
counts_later d (l ∷ ls) i r f w some le few = go (flaw_on d l) (λ j k. counts_later d ls j k f w)
  where
    count : suc i + length ls ≡ i + suc (length ls)
    count = omega arith

    more : suc r + refused_in d ls ≡ r + suc (refused_in d ls)
    more = omega arith

    go : (flaw : Option HeaderFlaw)
        → ((j k : ℕ) → 1 ≤ k → k ≤ j → j + length ls ≤ most_count
        → counts d (headers_so_far j (Some (refused_lines k f w))) ls ≡ headers_so_far (j + length ls) (Some (refused_lines (k + refused_in d ls) f w)))
        → counts d (counted_by (headers_so_far i (Some (refused_lines r f w))) flaw) ls
        ≡ headers_so_far (i + suc (length ls)) (Some (refused_lines (r + pick (is_some flaw) (suc (refused_in d ls)) (refused_in d ls)) f w))
    go None follow = rw (up_suc i (omega arith), ← count) (follow (suc i) r some (omega arith) (omega arith))
    go (Some flaw) follow =
        rw (ne_eqb r 0 (λ e. omega arith), up_suc i (omega arith), up_suc r (omega arith), ← count, ← more) (follow (suc i) (suc r) (omega arith) (omega arith) (omega arith))

-- before one: the count of those refused, and the first of them
counts-none : (d : ℕ) (ls : List (List ℕ)) (i : ℕ) → i + length ls ≤ most_count
    → counts d (headers_so_far i None) ls ≡ headers_so_far (i + length ls) (refused_among d i ls)
counts-none d [] i few = let a : i + 0 ≡ i = omega arith in rw a
counts-none d (l ∷ ls) i few = go (flaw_on d l) (counts-none d ls (suc i))
  where
    count : suc i + length ls ≡ i + suc (length ls)
    count = omega arith

    go : (flaw : Option HeaderFlaw)
        → (suc i + length ls ≤ most_count → counts d (headers_so_far (suc i) None) ls ≡ headers_so_far (suc i + length ls) (refused_among d (suc i) ls))
        → counts d (counted_by (headers_so_far i None) flaw) ls
        ≡ headers_so_far (i + suc (length ls)) (refused_from flaw (suc i) (refused_in d ls) (refused_among d (suc i) ls))
    go None follow = rw (up_suc i (omega arith), ← count) (follow (omega arith))
    go (Some flaw) follow =
        rw (up_suc i (omega arith), ← count) (counts_later d ls (suc i) 1 (suc i) (Some flaw) (omega arith) (omega arith) (omega arith))

-- of a file of at most `most_count` lines
pub counted_is : (d : ℕ) (ls : List (List ℕ)) → length ls ≤ most_count → counts d no_lines ls ≡ headers_so_far (length ls) (refused_among d 0 ls)
counted_is d ls few = let same : 0 + length ls ≡ length ls = omega arith in counts-none d ls 0 (omega arith) ∙ rw same
