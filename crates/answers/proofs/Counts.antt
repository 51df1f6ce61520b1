-- Laws of the count of header lines (`specs/Counts.antt`), way by way.
--     up_more, up_stays, up_is                                       one more, up to the most that a word counts
--     counted_fine, counted_none, counted_first, counted_later       a line that has ended is counted
-- Assumes nothing.
use Prim.Native.Nat.{ℕ, ◌+◌, ◌≤◌, ◌<◌}
use mathlib.Core.Bool.{Bool, true, false}
use mathlib.Core.Path.{◌≡◌, refl}
use native.Mathlib.Omega.{arith}
use lib.Dec.{ltb}
use borrow.Author.Tests.{lt-ltb, le-ltb, ltb-true, ltb-false, eq-eqb, ne_eqb}
use Rattle.std.specs.Prelude.{min, None, Some}
use Rattle.answers.specs.HeaderLines.{refused_lines}
use Rattle.answers.specs.Counts.{headers_so_far, most_count, one_up, counted_by}
use Rattle.answers.specs.declared.answer.HeaderFlaw.{HeaderFlaw}
use Rattle.answers.specs.declared.count.RefusedLines.{RefusedLines}
use Rattle.answers.specs.declared.count.HeadersSoFar.{HeadersSoFar}

-- ---- a count
pub up_more : (n : ℕ) → n < most_count → one_up n ≡ n + 1
unfolding one_up
up_more n few = rw (lt-ltb n most_count few)

pub up_stays : (n : ℕ) → most_count ≤ n → one_up n ≡ n
unfolding one_up
up_stays n many = rw (le-ltb n most_count many)

-- of a number that a word holds: the sum that stays there
pub up_is : (n : ℕ) → n ≤ most_count → min (n + 1) most_count ≡ one_up n
up_is n fits = go (ltb n most_count) refl
  where
    go : (t : Bool) → ltb n most_count ≡ t → min (n + 1) most_count ≡ one_up n
    go true e =
        let few = ltb-true n most_count e in
        omega (arith, few, up_more n few)
    go false e =
        let many = ltb-false n most_count e in
        omega (arith, many, up_stays n many)

-- ---- a line that has ended is counted; l is the count of lines then
module _ (h : HeadersSoFar) {l : ℕ} (up : l ≡ one_up h.lines) where
  pub counted_fine : headers_so_far l h.refused ≡ counted_by h None
  counted_fine = rw up

  module _ (flaw : HeaderFlaw) where
    pub counted_none : h.refused ≡ None → headers_so_far l (Some (refused_lines 1 l (Some flaw))) ≡ counted_by h (Some flaw)
    counted_none is = rw (is, up)

    module _ (r : RefusedLines) (is : h.refused ≡ Some r) where
      pub counted_first : r.count ≡ 0 → headers_so_far l (Some (refused_lines 1 l (Some flaw))) ≡ counted_by h (Some flaw)
      counted_first first = rw (is, eq-eqb r.count 0 first, up)

      pub counted_later : (r.count ≡ 0 → ⊥) → {k : ℕ} → k ≡ one_up r.count → headers_so_far l (Some (refused_lines k r.first r.flaw)) ≡ counted_by h (Some flaw)
      counted_later later more = rw (is, ne_eqb r.count 0 later, up, more)
