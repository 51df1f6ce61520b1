-- An answer is read back from its numbers, so they lose nothing: as C reads them, a number other than 0 is a refusal at the place that
-- follows, and otherwise the answer stands behind.
-- Assumes nothing.
use Prim.Native.Nat.{ℕ}
use mathlib.Core.Bool.{Bool}
use mathlib.Core.List.{List, [], ◌∷◌}
use mathlib.Core.Path.{◌≡◌, refl, ap}
use lib.Dec.{eqb}
use lib.ListN.{get_or}
use borrow.Author.Tests.{ne_eqb}
use Rattle.std.specs.Prelude.{Result, Ok, Err, Option, Some, None}
use Rattle.ranges.specs.Numbers.{pick, bit}
use Rattle.ranges.specs.Refusals.{Refusal, number_of, refusing, says, says_count}
use Rattle.ranges.specs.Prefixes.{says_bounds}
use Rattle.ranges.specs.declared.prefix.Bounds.{Bounds}
use Rattle.ranges.proofs.Numbers.{bit_test}
use Rattle.ranges.proofs.Answers.{cause_of, cause_back, number_some}
use Rattle.lists.specs.Scan.{match_words, says_match}
use Rattle.lists.specs.Independence.{pair_words, says_pair}
use Rattle.auditing.specs.Audit.{says_verdict}
use Rattle.tables.specs.Report.{says_part}
use Rattle.tables.specs.declared.report.Part.{Part}
use Rattle.lookup.specs.declared.lookup.Looked.{Looked}
use Rattle.lookup.specs.declared.lookup.Match.{Match}
use Rattle.interface.specs.Answers.{numbers_of, looked_in_place, says_in_place}

-- the number at place i of a run
abbrev nth : ℕ → List ℕ → ℕ
nth i run = get_or run i 0

-- its first three numbers as a refusal
abbrev refusal_in : List ℕ → Refusal
refusal_in run = refusing (cause_of (nth 0 run)) (nth 1 run) (nth 2 run)

-- an answer, where g reads what is answered
abbrev back : {A : Type 0} → (List ℕ → A) → List ℕ → Result A Refusal
back g run = pick (eqb (nth 0 run) 0) (Ok (g run)) (Err (refusal_in run))

back_lem : {A : Type 0} (f : A → List ℕ) (g : List ℕ → A) (k : ℕ) → ((a : A) → g (numbers_of k (says f (Ok a))) ≡ a)
    → (x : Result A Refusal) → back g (numbers_of k (says f x)) ≡ x
back_lem f g k is (Ok a) = ap Ok (is a)
back_lem f g k is (Err x) =
    rw (ne_eqb (number_of x.cause) 0 (number_some x.cause)) (ap Err (ap (λ c. refusing c x.at x.then) (cause_back x.cause)))

-- ---- what is counted
abbrev pub count_back : List ℕ → Result ℕ Refusal
count_back run = back (nth 3) run

pub count_back_lem : (x : Result ℕ Refusal) → count_back (numbers_of 1 (says_count x)) ≡ x
count_back_lem x = back_lem (λ k. k ∷ []) (nth 3) 1 (λ k. refl) x

-- ---- low and high
abbrev bounds_at : List ℕ → Bounds
bounds_at run = record { low = nth 3 run; high = nth 4 run }

abbrev pub bounds_back : List ℕ → Result Bounds Refusal
bounds_back run = back bounds_at run

pub bounds_back_lem : (x : Result Bounds Refusal) → bounds_back (numbers_of 2 (says_bounds x)) ≡ x
bounds_back_lem x = back_lem (λ (b : Bounds). b.low ∷ b.high ∷ []) bounds_at 2 (λ b. refl) x

-- ---- a match, or none
abbrev match_at : List ℕ → Option ℕ
match_at run = pick (eqb (nth 3 run) 1) (Some (nth 4 run)) None

abbrev pub match_back : List ℕ → Result (Option ℕ) Refusal
match_back run = back match_at run

pub match_back_lem : (x : Result (Option ℕ) Refusal) → match_back (numbers_of 2 (says_match x)) ≡ x
match_back_lem x = back_lem match_words match_at 2 is x
  where
    is : (m : Option ℕ) → match_at (numbers_of 2 (says match_words (Ok m))) ≡ m
    is (Some i) = refl
    is None = refl

-- ---- order independence
abbrev pair_at : List ℕ → Option (ℕ × ℕ)
pair_at run = pick (eqb (nth 3 run) 1) None (Some (nth 4 run, nth 5 run))

abbrev pub pair_back : List ℕ → Result (Option (ℕ × ℕ)) Refusal
pair_back run = back pair_at run

pub pair_back_lem : (x : Result (Option (ℕ × ℕ)) Refusal) → pair_back (numbers_of 3 (says_pair x)) ≡ x
pair_back_lem x = back_lem pair_words pair_at 3 is x
  where
    is : (p : Option (ℕ × ℕ)) → pair_at (numbers_of 3 (says pair_words (Ok p))) ≡ p
    is (Some p) = refl
    is None = refl

-- ---- an audit
abbrev verdict_at : List ℕ → Bool
verdict_at run = eqb (nth 3 run) 1

abbrev pub verdict_back : List ℕ → Result Bool Refusal
verdict_back run = back verdict_at run

pub verdict_back_lem : (x : Result Bool Refusal) → verdict_back (numbers_of 1 (says_verdict x)) ≡ x
verdict_back_lem x = back_lem (λ t. bit t ∷ []) verdict_at 1 bit_test x

-- ---- a report
abbrev part_at : List ℕ → Part
part_at run = record { size = nth 3 run; least = nth 4 run }

abbrev pub part_back : List ℕ → Result Part Refusal
part_back run = back part_at run

pub part_back_lem : (x : Result Part Refusal) → part_back (numbers_of 2 (says_part x)) ≡ x
part_back_lem x = back_lem (λ (p : Part). p.size ∷ p.least ∷ []) part_at 2 (λ p. refl) x

-- ---- a lookup
abbrev looked_at : List ℕ → Looked
looked_at run =
    record { found = pick (eqb (nth 3 run) 1) (Some record { rule = nth 4 run; edge = eqb (nth 6 run) 1 }) None; tests = nth 5 run }

abbrev pub looked_back : List ℕ → Result Looked Refusal
looked_back run = back looked_at run

pub looked_back_lem : (x : Result Looked Refusal) → looked_back (numbers_of 4 (says_in_place x)) ≡ x
looked_back_lem x = back_lem (λ (l : Looked). looked_in_place l.found l.tests) looked_at 4 (λ l. is l.found l.tests) x
  where
    looked : Option Match → ℕ → Looked
    looked m t = record { found = m; tests = t }

    is : (m : Option Match) (t : ℕ) → looked_at (numbers_of 4 (says (λ (l : Looked). looked_in_place l.found l.tests) (Ok (looked m t)))) ≡ looked m t
    is (Some m) t = ap (λ e. looked (Some record { rule = m.rule; edge = e }) t) (bit_test m.edge)
    is None t = refl
