-- Bytes put from a place of a run on: what the run then holds, and which place is the next.
-- Assumes nothing: these are definitions.
use Rattle.std.specs.Prelude.{ℕ, ◌+◌, min, max, List, ◌≡◌, length}
use Rattle.std.proofs.lemmas.List.Edits.{sets}
use Rattle.text.specs.declared.put.Out.{Out}

-- the place after k bytes, of a run of n, put from a place on: no further than the run goes
abbrev pub place_after : ℕ → ℕ → ℕ → ℕ
place_after n at k = max at (min (at + k) n)

-- what a run holds, and which place is the next, after bytes are put from a place on; a byte past the run's end is
-- left out
pub record Put (out : List ℕ) (at : ℕ) (bs : List ℕ) (after : List ℕ) (next : ℕ) : Type 0 where
  pub place : next ≡ place_after (length out) at (length bs)
  pub bytes : after ≡ sets out at bs

-- the same of a run that is lent with its place: it stays the same run
pub record Puts (old : Out) (bs : List ℕ) (new : Out) : Type 0 where
  pub put : Put old.bytes.now old.at bs new.bytes.now new.at
  pub same_run : new.bytes.ghost_name ≡ old.bytes.ghost_name
