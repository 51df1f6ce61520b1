-- Scaffolding: only contracts of private functions cite this; nothing here has to be believed.
-- Serving bytes up to the end of the present line, or all where it does not end in them.
-- Assumes nothing: these are definitions.
use Rattle.std.specs.Prelude.{ℕ, suc, List, [], ◌∷◌, ◌≡◌, take, eqb}
use Rattle.ranges.specs.Numbers.{pick}
use Rattle.text.specs.Cells.{fed}
use Rattle.text.specs.declared.put.Out.{Out}
use Rattle.words.specs.Limits.{answer_most}
use Rattle.phrases.specs.Few.{PutFew}
use Rattle.hearing.specs.Lines.{Heard}
use Rattle.calls.specs.Replies.{served_byte, said_to}

-- how many bytes: up to the first LF, itself counted
abbrev pub line_end : List ℕ → ℕ
line_end [] = 0
line_end (b ∷ bs) = suc (pick (eqb b 10) 0 (line_end bs))

-- s is the line before and t the line after
pub record Served (s : Heard) (bytes : List ℕ) (old : Out) (t : Heard) (next : ℕ) (new : Out) : Type 0 where
  pub count : next ≡ line_end bytes
  pub said : PutFew answer_most old (said_to s (take next bytes)) new
  pub left : t ≡ fed served_byte s (take next bytes)
