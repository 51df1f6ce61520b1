-- A rules file that has ended (`specs/Tabled.antt`): the flaw of what was read is the file's, and where there is none the list is
-- the file's rules and the run for the table begins with their table.
--     TableStands, tabled      what was read (`Come`), and a run that has room for every table
-- Assumes nothing.
use Prim.Native.Nat.{ℕ, ◌/◌, ◌≤◌}
use mathlib.Core.Bool.{Bool, true, false}
use mathlib.Core.List.{List}
use mathlib.Core.Path.{◌≡◌, refl, sym, ap, ◌∙◌}
use native.Mathlib.Omega.{arith}
use native.Mathlib.Nat.{min-eq_left}
use lib.ListN.{length, take, drop}
use lib.Seq.{take_at, length-take-le}
use lib.Dec.{eqb}
use Rattle.std.specs.Prelude.{Option, None, Some}
use Rattle.std.proofs.lemmas.Option.{none-some}
use Rattle.ranges.specs.Numbers.{pick}
use Rattle.ranges.specs.Refusals.{none}
use Rattle.lists.specs.Rules.{shape_of, listed, fields_of, rules_in}
use Rattle.lists.specs.Faults.{list_fault}
use Rattle.tables.specs.Layout.{table_length, most_table}
use Rattle.tables.proofs.Offsets.{table_few}
use Rattle.sorting.specs.Table.{built_table}
use Rattle.sorting.specs.Build.{Buildable, build_of, table_after}
use Rattle.sorting.proofs.Theorems.{built_table_lem}
use Rattle.text.specs.Judging.{Judged}
use Rattle.rulesfile.specs.Faults.{rules_from}
use Rattle.rulesfile.specs.Flaws.{first_flaw, reading_flaw, refused_flaw, list_flaw, file_flaw}
use Rattle.rulesfile.specs.Tabled.{list_read, room_read, tabled_flaw, tabled_after}
use Rattle.flaws.specs.declared.flaw.Flaw.{Flaw}
use Rattle.flaws.specs.declared.flaw.Flaw.TheVariants.{NoLine}
use Rattle.rulesfile.specs.declared.file.RulesSoFar.{RulesSoFar}
use Rattle.rulesfile.proofs.Flaws.{first_fine}
use Rattle.rulesfile.proofs.Come.{end_flaw, Come, Stood, own_fine}
use Rattle.rulesfile.proofs.Listing.{stood_list, stood_rules, refused_none}
use Rattle.rulesfile.proofs.Tabling.{built_list, flaw_built, after_built, after_long}

-- ls are the file's lines, y is what was read of them, and `table` is the run for the table: the flaw is the file's; where there is none the
-- list is the file's rules and the run begins with their table
pub record TableStands (ls : List (List ℕ)) (y : Judged RulesSoFar) (table : List ℕ) : Type 0 where
  pub flaw : tabled_flaw y.own y.run table ≡ file_flaw ls
  pub list : file_flaw ls ≡ None → list_read y.own y.run ≡ rules_from ls
  pub built : file_flaw ls ≡ None → take (room_read y.own table) (tabled_after y.own y.run table) ≡ built_table (rules_from ls)

-- ---- lines without flaw
module _ (ls : List (List ℕ)) (y : Judged RulesSoFar) (table : List ℕ) (room : most_table ≤ length table) (s : Stood ls y) where
  abbrev front : List ℕ
  front = take (room_read y.own table) table

  list_is : list_read y.own y.run ≡ rules_from ls
  list_is = ap (λ k. listed (shape_of (y.own.width / 2)) (take k y.run)) (min-eq_left s.within) ∙ stood_list ls y s

  -- their table is no longer than the longest
  room_is : room_read y.own table ≡ table_length y.own.lines (y.own.width / 2)
  room_is =
      let narrow = s.narrow in
      let few = table_few y.own.lines (y.own.width / 2) s.few (omega arith) in
      let le : table_length y.own.lines (y.own.width / 2) ≤ length table = omega arith in
      min-eq_left le

  room_within : room_read y.own table ≤ length table
  room_within = omega arith

  front_long : length front ≡ table_length (rules_in (rules_from ls)) (fields_of (rules_from ls))
  front_long =
      length-take-le (room_read y.own table) table room_within
      ∙ room_is
      ∙ ap (λ n. table_length n (y.own.width / 2)) (s.lines ∙ sym (stood_rules ls y s))
      ∙ ap (λ w. table_length (rules_in (rules_from ls)) (w / 2)) s.width

  module _ (fine : y.own.flaw ≡ None) where
    some_lines : y.own.lines ≡ 0 → ⊥
    some_lines none = let some = s.some in omega arith

    flaw_stood : tabled_flaw y.own y.run table ≡ list_flaw (rules_from ls)
    flaw_stood = flaw_built y.own y.run table fine some_lines ∙ ap (λ R. refused_flaw R (build_of R front)) list_is ∙ built_list (rules_from ls) front front_long

    table_stood : list_fault (rules_from ls) ≡ none → take (room_read y.own table) (tabled_after y.own y.run table) ≡ built_table (rules_from ls)
    table_stood sound =
        let R = rules_from ls in
        let asked : Buildable R front = record { no_fault = sound; sized = record { long = front_long } } in
        let after : table_after (list_read y.own y.run) front ≡ built_table R = ap (λ Q. table_after Q front) list_is ∙ built_table_lem R front asked in
        let written : length (table_after (list_read y.own y.run) front) ≡ room_read y.own table
        = after_long (list_read y.own y.run) front ∙ length-take-le (room_read y.own table) table room_within in
        ap (take (room_read y.own table)) (after_built y.own y.run table fine some_lines)
        ∙ take_at (table_after (list_read y.own y.run) front) (drop (room_read y.own table) table) (room_read y.own table) written
        ∙ after

-- ---- lines with a flaw
-- it is the first that was read; or there is no line
flaw_read : (r : RulesSoFar) (list table : List ℕ) (f : Flaw) → first_flaw r.flaw (end_flaw r) ≡ Some f → tabled_flaw r list table ≡ Some f
unfolding tabled_flaw
flaw_read r list table f is = go r.flaw (eqb r.lines 0) (refused_flaw (list_read r list) (build_of (list_read r list) (take (room_read r table) table))) is
  where
    go : (g : Option Flaw) (t : Bool) (h : Option Flaw) → first_flaw g (pick t (Some NoLine) None) ≡ Some f → first_flaw g (pick t (Some NoLine) h) ≡ Some f
    go (Some g) t h e = e
    go None true h e = e
    go None false h e = absurd (none-some f e)

-- ---- a whole file
module _ (ls : List (List ℕ)) (y : Judged RulesSoFar) (table : List ℕ) (at : Come ls y) (room : most_table ≤ length table) where
  reading-fine : file_flaw ls ≡ None → reading_flaw ls ≡ None
  reading-fine none = first_fine (reading_flaw ls) (list_flaw (rules_from ls)) none

  flaw_here_lem : tabled_flaw y.own y.run table ≡ file_flaw ls
  flaw_here_lem = go (reading_flaw ls) refl
    where
      go : (f : Option Flaw) → reading_flaw ls ≡ f → tabled_flaw y.own y.run table ≡ file_flaw ls
      go None none = rw none (flaw_stood ls y table room (at.stood none) (own_fine at none))
      go (Some f) some = rw some (flaw_read y.own y.run table f (at.flaw ∙ some))

  built_here : file_flaw ls ≡ None → take (room_read y.own table) (tabled_after y.own y.run table) ≡ built_table (rules_from ls)
  built_here none =
      let fine = reading-fine none in
      let s = at.stood fine in
      let last : list_flaw (rules_from ls) ≡ None = rw fine at none in
      let checked = refused_none (rules_from ls) (list_fault (rules_from ls)) last in
      table_stood ls y table room s (own_fine at fine) checked

  pub tabled : TableStands ls y table
  tabled = record { flaw = flaw_here_lem; list = λ none. list_is ls y table room (at.stood (reading-fine none)); built = built_here }
