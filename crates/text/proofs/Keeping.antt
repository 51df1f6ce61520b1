-- What a file's reader keeps (`specs/Files.antt`): what each byte of a line and each line's end keep, all bytes
-- of a file keep, and the file's end too.
--     fed_keeps, finish_keeps      for any reader
-- Assumes nothing.
use Prim.Native.Nat.{ℕ}
use mathlib.Core.Bool.{Bool, true, false}
use mathlib.Core.List.{List, [], ◌∷◌}
use lib.Dec.{eqb}
use Rattle.ranges.specs.Numbers.{pick}
use Rattle.text.specs.Cells.{fed}
use Rattle.text.specs.Files.{InFile, in_file, plain, open_byte, ends_line, step, last_line, finish}

module _ {X : Type 0} (byte : X → ℕ → X) (close : X → X) (P : X → Type 0) (byte-keeps : (x : X) (b : ℕ) → P x → P (byte x b)) (close-keeps : (x : X) → P x → P (close x)) where
  plain_keeps : (x : X) (b : ℕ) → P x → P (plain byte x b).at
  unfolding plain
  plain_keeps x b here = go (eqb b 13)
    where
      go : (t : Bool) → P (pick t (in_file true x) (in_file false (byte x b))).at
      go true = here
      go false = byte-keeps x b here

  open_keeps : (s : InFile X) (b : ℕ) → P s.at → P (open_byte byte s b).at
  unfolding open_byte
  open_keeps s b here = go s.cr
    where
      go : (t : Bool) → P (pick t (plain byte (byte s.at 13) b) (plain byte s.at b)).at
      go true = plain_keeps (byte s.at 13) b (byte-keeps s.at 13 here)
      go false = plain_keeps s.at b here

  step_keeps : (s : InFile X) (b : ℕ) → P s.at → P (step byte close s b).at
  unfolding step
  step_keeps s b here = go (ends_line s.cr b)
    where
      go : (t : Bool) → P (pick t (in_file false (close s.at)) (open_byte byte s b)).at
      go true = close-keeps s.at here
      go false = open_keeps s b here

  -- all bytes
  pub fed_keeps : (bs : List ℕ) (s : InFile X) → P s.at → P (fed (step byte close) s bs).at
  fed_keeps [] s here = here
  fed_keeps (b ∷ bs) s here = fed_keeps bs (step byte close s b) (step_keeps s b here)

  -- the file's end
  pub finish_keeps : (begun : X → Bool) (s : InFile X) → P s.at → P (finish byte close begun s)
  unfolding finish last_line
  finish_keeps begun s here = settle s.cr
    where
      last : (x : X) → P x → (t : Bool) → P (pick t (close x) x)
      last x kept true = close-keeps x kept
      last x kept false = kept

      settle : (t : Bool) → P (last_line close begun (pick t (byte s.at 13) s.at))
      settle true = last (byte s.at 13) (byte-keeps s.at 13 here) (begun (byte s.at 13))
      settle false = last s.at here (begun s.at)
