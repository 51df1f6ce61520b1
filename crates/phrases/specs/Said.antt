-- What is answered, as bytes: a word, and numbers each after a blank. Each answer of the library in its words.
-- Assumes nothing: these are definitions.
use Rattle.std.specs.Prelude.{ℕ, Bool, true, false, List, [], ◌∷◌, ◌++◌, Option, None, Some, Result, Ok, Err}
use Rattle.ranges.specs.declared.refusal.Refusal.{Refusal}
use Rattle.ranges.specs.declared.prefix.Bounds.{Bounds}
use Rattle.ranges.specs.declared.spot.Spot.{Spot}
use Rattle.ranges.specs.declared.spot.Spot.TheVariants.{Below, AtLow, Between, AtHigh, AtBoth, Above}
use Rattle.lookup.specs.declared.lookup.Looked.{Looked}
use Rattle.lookup.specs.declared.lookup.Match.{Match}
use Rattle.tables.specs.declared.report.Part.{Part}
use Rattle.text.specs.Texts.{bytes}
use Rattle.text.specs.Decimals.{decimal_of}

-- a blank and a number
abbrev pub spaced : ℕ → List ℕ
spaced n = bytes " " ++ decimal_of n

-- each number after a blank
abbrev pub all_spaced : List ℕ → List ℕ
all_spaced [] = []
all_spaced (n ∷ ns) = spaced n ++ all_spaced ns

-- at an edge, or not
abbrev pub edge_said : Bool → List ℕ
edge_said true = bytes " edge"
edge_said false = bytes " plain"

-- ok RULE TESTS edge, ok RULE TESTS plain, ok none TESTS plain
abbrev pub rule_said : Option Match → ℕ → List ℕ
rule_said (Some m) t = (bytes "ok" ++ spaced m.rule ++ spaced t) ++ edge_said m.edge
rule_said None t = (bytes "ok none" ++ spaced t) ++ edge_said false

-- ok below, ok low, ok between, ok high, ok both, ok above
abbrev pub spot_said : Spot → List ℕ
spot_said Below = bytes "ok below"
spot_said AtLow = bytes "ok low"
spot_said Between = bytes "ok between"
spot_said AtHigh = bytes "ok high"
spot_said AtBoth = bytes "ok both"
spot_said Above = bytes "ok above"

-- an answer that may be refused, where number says the number of what refuses it: `number_of` of a row's cause
module _ {C : Type 0} (number : C → ℕ) where
  -- refused NUMBER FIRST SECOND
  abbrev pub refusal_said : Refusal C → List ℕ
  refusal_said x = bytes "refused" ++ spaced (number x.cause) ++ spaced x.at ++ spaced x.then

  -- ok N, or the refusal
  abbrev pub count_said : Result ℕ (Refusal C) → List ℕ
  count_said (Ok k) = bytes "ok" ++ spaced k
  count_said (Err x) = refusal_said x

  -- ok LOW HIGH, or the refusal
  abbrev pub bounds_said : Result Bounds (Refusal C) → List ℕ
  bounds_said (Ok b) = bytes "ok" ++ spaced b.low ++ spaced b.high
  bounds_said (Err x) = refusal_said x

  -- ok RULE, ok none, or the refusal
  abbrev pub match_said : Result (Option ℕ) (Refusal C) → List ℕ
  match_said (Ok (Some i)) = bytes "ok" ++ spaced i
  match_said (Ok None) = bytes "ok none"
  match_said (Err x) = refusal_said x

  -- ok yes, ok no I J, or the refusal
  abbrev pub pair_said : Result (Option (ℕ × ℕ)) (Refusal C) → List ℕ
  pair_said (Ok None) = bytes "ok yes"
  pair_said (Ok (Some p)) = bytes "ok no" ++ spaced p.0 ++ spaced p.1
  pair_said (Err x) = refusal_said x

  -- the same, or the refusal
  abbrev pub found_said : Result Looked (Refusal C) → List ℕ
  found_said (Ok looked) = rule_said looked.found looked.tests
  found_said (Err x) = refusal_said x

  -- ok yes, ok no, or the refusal
  abbrev pub verdict_said : Result Bool (Refusal C) → List ℕ
  verdict_said (Ok true) = bytes "ok yes"
  verdict_said (Ok false) = bytes "ok no"
  verdict_said (Err x) = refusal_said x

  -- ok SIZE SMALLEST, or the refusal
  abbrev pub part_said : Result Part (Refusal C) → List ℕ
  part_said (Ok p) = bytes "ok" ++ spaced p.size ++ spaced p.least
  part_said (Err x) = refusal_said x
