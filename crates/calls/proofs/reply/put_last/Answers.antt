-- `calls::reply::put_last` meets its contract: nothing has come of the last line, or it is answered.
-- Assumes nothing.
use mathlib.Core.Path.{refl, sym, ◌∙◌}
use Rattle.std.proofs.Common.{rules}
use Rattle.calls.proofs.Replies.{last_none, last_some}
use Rattle.calls.proofs.reply.put_last.Goals as goal

-- nothing has come
pub returns-then-not-has_begun : goal.returns-then-not-has_begun
returns-then-not-has_begun c = last_none (sym c.has_begun.ensures ∙ c.if-not-has_begun.true)

-- a line without LF; `same` says that the run which is given back is the one that was lent
pub returns : goal.returns
returns c =
    let same = c.answer.ensures.put_few.puts.same_run in
    last_some refl (sym c.has_begun.ensures ∙ c.if-not-has_begun.false) c.answer.ensures.put_few c.answer.ensures.numbers_after (search rules)
