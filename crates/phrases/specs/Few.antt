-- Bytes put into a run that is lent with its place, of which there are at most so many.
-- Assumes nothing: these are definitions.
use Rattle.std.specs.Prelude.{ℕ, ◌*◌, ◌≤◌, List, length}
use Rattle.text.specs.Puts.{Puts}
use Rattle.text.specs.declared.put.Out.{Out}
use Rattle.phrases.specs.Said.{all_spaced}

pub record PutFew (most : ℕ) (old : Out) (bs : List ℕ) (new : Out) : Type 0 where
  pub puts : Puts old bs new
  pub few : length bs ≤ most

-- each number after a blank, with at most 21 bytes for both
abbrev pub PutAll : List ℕ → Out → Out → Type 0
PutAll ns old new = PutFew (21 * length ns) old (all_spaced ns) new
