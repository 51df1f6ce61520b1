-- What the answer of a report says tells it apart from every other (`specs/Report.antt`).
--     part_said_one     two answers that say the same are one
-- Assumes nothing.
use mathlib.Core.List.{[], ◌∷◌}
use mathlib.Core.Path.{◌≡◌}
use Rattle.std.specs.Prelude.{Result}
use Rattle.ranges.specs.Refusals.{Refusal}
use Rattle.ranges.proofs.Answers.{said_one}
use Rattle.tables.specs.Report.{says_part}
use Rattle.tables.specs.declared.report.Part.{Part}

pub part_said_one : (a b : Result Part Refusal) → says_part a ≡ says_part b → a ≡ b
part_said_one a b same = said_one (λ (p : Part). p.size ∷ p.least ∷ []) one a b same
  where
    one : (p q : Part) → p.size ∷ p.least ∷ [] ≡ q.size ∷ q.least ∷ [] → p ≡ q
    one p q e = let size : p.size ≡ q.size = cc in let least : p.least ≡ q.least = cc in rw (size, least)
