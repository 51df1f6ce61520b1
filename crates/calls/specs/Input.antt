-- All of the input: its lines, and the answers to them one after the other. 10 is LF.
-- `input_said` says it of the whole input. `pieces_said` says it as the code goes, which gets the input in pieces; that the two agree,
-- wherever the pieces are cut, is `answered_is` of `proofs/Theorems.antt`.
-- Assumes nothing: these are definitions.
use Rattle.std.specs.Prelude.{ℕ, List, [], ◌∷◌, ◌++◌, eqb}
use Rattle.ranges.specs.Numbers.{pick}
use Rattle.text.specs.Cells.{fed}
use Rattle.text.specs.Rows.{in_front}
use Rattle.hearing.specs.Lines.{Heard}
use Rattle.calls.specs.Answers.{answer_to}
use Rattle.calls.specs.Replies.{served_byte, said_to, last_said}

-- ---- the whole input
-- its lines: LF ends a line, and what follows the last LF, if anything, is a line too
abbrev pub input_lines : List ℕ → List (List ℕ)
input_lines [] = []
input_lines (b ∷ bs) = pick (eqb b 10) ([] ∷ input_lines bs) (in_front b (input_lines bs))

-- the answer to a line, and LF
abbrev pub answer_line : List ℕ → List ℕ
answer_line line = answer_to line ++ (10 ∷ [])

-- the answers to lines one after the other
abbrev pub answers_to : List (List ℕ) → List ℕ
answers_to [] = []
answers_to (l ∷ ls) = answer_line l ++ answers_to ls

abbrev pub input_said : List ℕ → List ℕ
input_said bytes = answers_to (input_lines bytes)

-- ---- in pieces
-- one piece after the other from the line s on, each with the line that the one before it left, and the input's end
abbrev pub pieces_said : Heard → List (List ℕ) → List ℕ
pieces_said s [] = last_said s
pieces_said s (p ∷ ps) = said_to s p ++ pieces_said (fed served_byte s p) ps
