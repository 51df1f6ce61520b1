-- What the answers of a scan and of a test of order independence say tells them apart (`specs/Scan.antt`, `specs/Independence.antt`).
--     match_said_one, pair_said_one     two answers that say the same are one
-- Assumes nothing.
use Prim.Native.Nat.{ℕ}
use mathlib.Core.Path.{◌≡◌, refl}
use Rattle.std.specs.Prelude.{Result, Option, Some, None}
use Rattle.ranges.specs.Refusals.{Refusal}
use Rattle.ranges.proofs.Numbers.{never}
use Rattle.ranges.proofs.Answers.{said_one}
use Rattle.lists.specs.Scan.{match_words, says_match}
use Rattle.lists.specs.Independence.{pair_words, says_pair}

pub match_said_one : (a b : Result (Option ℕ) Refusal) → says_match a ≡ says_match b → a ≡ b
match_said_one a b same = said_one match_words one a b same
  where
    one : (m k : Option ℕ) → match_words m ≡ match_words k → m ≡ k
    one (Some i) (Some j) e = cc
    one (Some i) None e = never (cc)
    one None (Some j) e = never (cc)
    one None None e = refl

pub pair_said_one : (a b : Result (Option (ℕ × ℕ)) Refusal) → says_pair a ≡ says_pair b → a ≡ b
pair_said_one a b same = said_one pair_words one a b same
  where
    one : (m k : Option (ℕ × ℕ)) → pair_words m ≡ pair_words k → m ≡ k
    one (Some (i, j)) (Some (k, l)) e = let first : i ≡ k = cc in let second : j ≡ l = cc in rw (first, second)
    one (Some p) None e = never (cc)
    one None (Some q) e = never (cc)
    one None None e = refl
