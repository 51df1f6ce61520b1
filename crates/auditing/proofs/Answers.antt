-- What the answer of an audit says tells it apart from every other (`specs/Audit.antt`).
--     verdict_said_one     two answers that say the same are one
-- Assumes nothing.
use mathlib.Core.Bool.{Bool}
use mathlib.Core.List.{[], ◌∷◌}
use mathlib.Core.Path.{◌≡◌}
use Rattle.std.specs.Prelude.{Result}
use Rattle.ranges.specs.Numbers.{bit}
use Rattle.ranges.specs.Refusals.{Refusal}
use Rattle.ranges.proofs.Numbers.{bit_one}
use Rattle.ranges.proofs.Answers.{said_one}
use Rattle.auditing.specs.Audit.{says_verdict}

pub verdict_said_one : (a b : Result Bool Refusal) → says_verdict a ≡ says_verdict b → a ≡ b
verdict_said_one a b same = said_one (λ t. bit t ∷ []) (λ s t e. bit_one s t (cc)) a b same
