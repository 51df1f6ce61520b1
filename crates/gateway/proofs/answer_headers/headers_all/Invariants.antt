-- `gateway::answer_headers::headers_all` meets its contract. At the loop's head there are pieces that the file's state comes from (`HeadersOn`).
-- Assumes nothing.
use mathlib.Core.Path.{◌≡◌}
use lib.ListN.{length}
use Rattle.lists.specs.Rules.{lent}
use Rattle.gateway.proofs.Serving.{HeadersOn}
use Rattle.gateway.proofs.answer_headers.headers_all.Given as goal

abbrev pub invariant-loop : goal.invariant-loop
invariant-loop l = (length l.bytes ≡ length l.initial.bytes) × HeadersOn (lent l.list) l.table l.initial.header (length l.initial.out) l.file l.header l.out
