-- What the answer of a lookup says in the paper's words (`specs/Lookup.antt`) tells it apart from every other.
--     looked_said_one     two answers that say the same are one
-- Assumes nothing.
use Prim.Native.Nat.{ℕ}
use mathlib.Core.Path.{◌≡◌, refl, ap}
use Rattle.std.specs.Prelude.{Option, Some, None, Result}
use Rattle.ranges.specs.Refusals.{Refusal}
use Rattle.ranges.proofs.Numbers.{never, bit_one}
use Rattle.ranges.proofs.Answers.{said_one}
use Rattle.lookup.specs.Lookup.{looked_words, says_looked}
use Rattle.lookup.specs.declared.lookup.Looked.{Looked}
use Rattle.lookup.specs.declared.lookup.Match.{Match}

words_one : (x y : Option Match) (t u : ℕ) → looked_words x t ≡ looked_words y u → (x ≡ y) × (t ≡ u)
words_one (Some m) (Some k) t u same =
    let rule : m.rule ≡ k.rule = cc in
    let edge : m.edge ≡ k.edge = bit_one m.edge k.edge (cc) in
    let is : m ≡ k = rw (rule, edge) in
    (ap Some is, cc)
words_one (Some m) None t u same = never (cc)
words_one None (Some k) t u same = never (cc)
words_one None None t u same = (refl, cc)

pub looked_said_one : (a b : Result Looked Refusal) → says_looked a ≡ says_looked b → a ≡ b
looked_said_one a b same = said_one (λ (x : Looked). looked_words x.found x.tests) go a b same
  where
    go : (x y : Looked) → looked_words x.found x.tests ≡ looked_words y.found y.tests → x ≡ y
    go x y e =
        let both = words_one x.found y.found x.tests y.tests e in
        rw (both.0, both.1)
