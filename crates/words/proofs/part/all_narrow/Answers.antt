-- The answer that the check does not find alone.
use Rattle.std.proofs.Common.{◌↔◌, ◌≤◌, IsTrue, EachIndex, slice_index, rules}
use Rattle.words.proofs.Narrowing.{narrow_by}
use Rattle.words.proofs.part.all_narrow.Goals as goal

pub returns : goal.returns
returns c =
    let ns = c.args.numbers.now in
    let told : IsTrue c.all.result ↔ EachIndex ns (λ k. slice_index ns k ≤ 65535) = search rules in
    narrow_by ns c.all.result told
