-- Laws of the calls' names (`specs/Names.antt`).
--     name_over           no call's name has more than 11 bytes
-- Assumes nothing.
use Prim.Native.Nat.{ℕ, ◌≤◌, ◌<◌}
use mathlib.Core.Bool.{Bool, true, false}
use mathlib.Core.List.{List}
use mathlib.Core.Path.{◌≡◌, refl, ap}
use native.Mathlib.Omega.{arith}
use lib.ListN.{length}
use Rattle.ranges.specs.Numbers.{same_list}
use Rattle.ranges.proofs.Numbers.{same_list_equal}
use Rattle.text.specs.Texts.{bytes}
use Rattle.calls.specs.Names.{prefix_word, choice_word, table_word, word_of}
use Rattle.calls.specs.declared.word.Word.TheVariants.{Unknown}

-- a text of at most 11 bytes is no longer name
longer_other : (name text : List ℕ) → length text ≤ 11 → 11 < length name → same_list name text ≡ false
longer_other name text short long = go (same_list name text) refl
  where
    go : (t : Bool) → same_list name text ≡ t → same_list name text ≡ false
    go true e = let same : length name ≡ length text = ap length (same_list_equal name text e) in absurd (omega arith)
    go false e = e

pub name_over : (name : List ℕ) → 11 < length name → word_of name ≡ Unknown
unfolding word_of table_word choice_word prefix_word
name_over name long =
    rw (
      longer_other name (bytes "check") (omega arith) long,
      longer_other name (bytes "scan") (omega arith) long,
      longer_other name (bytes "independent") (omega arith) long,
      longer_other name (bytes "build") (omega arith) long,
      longer_other name (bytes "lookup") (omega arith) long,
      longer_other name (bytes "audit") (omega arith) long,
      longer_other name (bytes "report") (omega arith) long,
      longer_other name (bytes "choose") (omega arith) long,
      longer_other name (bytes "layout") (omega arith) long,
      longer_other name (bytes "side") (omega arith) long,
      longer_other name (bytes "p2r") (omega arith) long,
      longer_other name (bytes "r2p") (omega arith) long,
    )
