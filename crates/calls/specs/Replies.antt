-- Serving the input's bytes, as the code goes: byte by byte from any line that has been heard, whatever its runs hold. 10 is LF.
-- The contracts of serving cite this. That it comes to the answers to the input's lines is `answered_is` of `proofs/Theorems.antt`.
-- Assumes nothing: these are definitions.
use Rattle.std.specs.Prelude.{ℕ, suc, ◌+◌, ◌≤◌, Bool, true, not, List, [], ◌∷◌, ◌++◌, ◌≡◌, length, take, ltb, leb, eqb}
use Rattle.ranges.specs.Numbers.{pick, ◌and◌}
use Rattle.text.specs.Cells.{fed}
use Rattle.text.specs.Puts.{Put, place_after}
use Rattle.words.specs.Limits.{answer_most}
use Rattle.hearing.specs.declared.line.Line.{Line}
use Rattle.hearing.specs.Lines.{Heard, heard, unheard, heard_byte}
use Rattle.calls.specs.Answers.{answer_said, answer_left}

-- ---- bytes
-- the present line's answer, and LF
abbrev pub line_said : Heard → List ℕ
line_said s = answer_said s ++ (10 ∷ [])

-- a new line, with the runs as the present one's answer left them
abbrev pub line_anew : Heard → Heard
line_anew s = heard unheard s.name (answer_left s)

-- the line after a byte: LF ends it, any other byte belongs to it
unfoldable pub served_byte : Heard → ℕ → Heard
served_byte s b = pick (eqb b 10) (line_anew s) (heard_byte s b)

-- what a byte says
unfoldable pub said_byte : Heard → ℕ → List ℕ
said_byte s b = pick (eqb b 10) (line_said s) []

-- what bytes say one after the other
abbrev pub said_to : Heard → List ℕ → List ℕ
said_to s [] = []
said_to s (b ∷ bs) = said_byte s b ++ said_to (served_byte s b) bs

-- ---- room
-- there is room for one more answer after a place of a run of n bytes
unfoldable pub room_at : ℕ → ℕ → Bool
room_at n at = leb (at + answer_most) n

-- how many bytes are served whose answers are put from a place of a run of n bytes on: all of them, or up to the first LF after whose
-- answer there is no more room
abbrev pub served_to : ℕ → ℕ → Heard → List ℕ → ℕ
served_to n at s [] = 0
served_to n at s (b ∷ bs) =
    let next = place_after n at (length (said_byte s b)) in
    suc (pick (eqb b 10 and not (room_at n next)) 0 (served_to n next (served_byte s b) bs))

-- s is the line before the bytes, t the line after those that are served. Of a run that has room for an answer the first bytes are
-- all that is said, and nothing is left out; this does not follow from the rest, since only the code's numbers are of so many bits
-- that an answer is short
pub record ServedLines (s : Heard) (bytes out : List ℕ) (t : Heard) (next : ℕ) (after : List ℕ) (end : ℕ) : Type 0 where
  pub count : next ≡ served_to (length out) 0 s bytes
  pub left : t ≡ fed served_byte s (take next bytes)
  pub said : Put out 0 (said_to s (take next bytes)) after end
  pub whole : answer_most ≤ length out → take end after ≡ said_to s (take next bytes)

-- ---- at the input's end
-- something has come of a line
abbrev pub begun_line : Line → Bool
begun_line line = pick line.named true (ltb 0 line.length)

-- a last line that no LF ends is answered, where anything has come of it
abbrev pub last_said : Heard → List ℕ
last_said s = pick (begun_line s.line) (line_said s) []

abbrev pub last_left : Heard → List ℕ
last_left s = pick (begun_line s.line) (answer_left s) s.numbers

-- and what the run of its numbers then holds is `left`
pub record ServedLast (s : Heard) (out left after : List ℕ) (end : ℕ) : Type 0 where
  pub said : Put out 0 (last_said s) after end
  pub left_is : left ≡ last_left s
  pub whole : answer_most ≤ length out → take end after ≡ last_said s
