-- Any two results that a public function's contract allows for the same arguments are equal, and any two runs that it leaves: each
-- contract is an equation, of the result alone or of the result together with the list, or a record of two (`Put`, `Tabled`). `Learnt`
-- is what a caller learns of a call, as the checker reads it off the contract's `ensures`; `ps` and `r` are its parameters' and its
-- result's types.
-- Assumes nothing.
use Prim.Native.Nat.{ℕ}
use mathlib.Core.List.{List}
use mathlib.Core.Path.{◌≡◌, refl, sym, ap, ◌∙◌}
use Rattle.std.specs.Prelude.{⊤, Result, Ok, Err}
use Rattle.std.specs.Result.{result_err}
use Rattle.std.proofs.lemmas.Option.{none-some, same_Some}
use Rattle.flaws.specs.declared.flaw.Flaw.{Flaw}
use Rattle.ranges.proofs.OneAnswer.{OneAnswer, OneRun}
use Rattle.text.specs.Judging.{judged}
use Rattle.rulesfile.specs.Bytes.{rules_in_file}
use Rattle.rulesfile.specs.declared.file.RulesSoFar.{RulesSoFar}
use Rattle.rulesfile.specs.declared.file.RulesFile.{RulesFile}
use Rattle.rulesfile.proofs.file.rules_start.Kinds as rules_start_kinds
use Rattle.rulesfile.proofs.file.rules_start.Reads as rules_start_reads
use Rattle.rulesfile.proofs.file.rules_piece.Kinds as rules_piece_kinds
use Rattle.rulesfile.proofs.file.rules_piece.Reads as rules_piece_reads
use Rattle.rulesfile.proofs.file.rules_end.Kinds as rules_end_kinds
use Rattle.rulesfile.proofs.file.rules_end.Reads as rules_end_reads
use Rattle.rulesfile.proofs.table.rules_shape.Kinds as rules_shape_kinds
use Rattle.rulesfile.proofs.table.rules_shape.Reads as rules_shape_reads
use Rattle.rulesfile.proofs.table.rules_length.Kinds as rules_length_kinds
use Rattle.rulesfile.proofs.table.rules_length.Reads as rules_length_reads
use Rattle.rulesfile.proofs.table.rules_room.Kinds as rules_room_kinds
use Rattle.rulesfile.proofs.table.rules_room.Reads as rules_room_reads
use Rattle.rulesfile.proofs.table.rules_table.Kinds as rules_table_kinds
use Rattle.rulesfile.proofs.table.rules_table.Reads as rules_table_reads

-- ---- what has been read of a file, and the list
module _ {f h : RulesFile} {list list' : List ℕ} (same : rules_in_file f list ≡ rules_in_file h list') where
  file_alike : f ≡ h
  file_alike = ap (λ x. record { reader = record { cr = x.cr; line = x.at.now.line }; rules = x.at.own }) same

  list_alike : list ≡ list'
  list_alike = ap (λ x. x.at.now.run) same

module _ {r s : RulesSoFar} {list list' : List ℕ} (same : judged r list ≡ judged s list') where
  rules-alike : r ≡ s
  rules-alike = ap (λ x. x.own) same

  left_alike : list ≡ list'
  left_alike = ap (λ x. x.run) same

-- what is built has no value but its flaw
pub built_alike : (r s : Result ⊤ Flaw) → result_err r ≡ result_err s → r ≡ s
built_alike (Ok x) (Ok y) same = refl
built_alike (Ok x) (Err g) same = absurd (none-some g same)
built_alike (Err f) (Ok y) same = absurd (none-some f (sym same))
built_alike (Err f) (Err g) same = ap Err (same_Some f g same)

-- ---- file
pub rules_start_one : OneAnswer 0 rules_start_kinds.ps rules_start_kinds.r rules_start_reads.Learnt
rules_start_one κs a x y e g p q = p ∙ sym q

pub rules_piece_one : OneAnswer 2 rules_piece_kinds.ps rules_piece_kinds.r rules_piece_reads.Learnt
rules_piece_one κs a x y e g p q = file_alike (p ∙ sym q)

-- the list afterwards is one too
pub rules_piece_list_one : OneRun 2 rules_piece_kinds.ps rules_piece_kinds.r rules_piece_reads.Learnt (λ κs e. e.1.1.0.now)
rules_piece_list_one κs a x y e g p q = list_alike (p ∙ sym q)

pub rules_end_one : OneAnswer 1 rules_end_kinds.ps rules_end_kinds.r rules_end_reads.Learnt
rules_end_one κs a x y e g p q = rules-alike (p ∙ sym q)

pub rules_end_list_one : OneRun 1 rules_end_kinds.ps rules_end_kinds.r rules_end_reads.Learnt (λ κs e. e.1.0.now)
rules_end_list_one κs a x y e g p q = left_alike (p ∙ sym q)

-- ---- table
pub rules_shape_one : OneAnswer 0 rules_shape_kinds.ps rules_shape_kinds.r rules_shape_reads.Learnt
rules_shape_one κs a x y e g p q = p ∙ sym q

pub rules_length_one : OneAnswer 1 rules_length_kinds.ps rules_length_kinds.r rules_length_reads.Learnt
rules_length_one κs a x y e g p q = p ∙ sym q

pub rules_room_one : OneAnswer 1 rules_room_kinds.ps rules_room_kinds.r rules_room_reads.Learnt
rules_room_one κs a x y e g p q = p ∙ sym q

pub rules_table_one : OneAnswer 2 rules_table_kinds.ps rules_table_kinds.r rules_table_reads.Learnt
rules_table_one κs a x y e g p q = built_alike x y (p.finds ∙ sym q.finds)

-- the run for the table afterwards is one too
pub rules_table_run_one : OneRun 2 rules_table_kinds.ps rules_table_kinds.r rules_table_reads.Learnt (λ κs e. e.1.1.0.now)
rules_table_run_one κs a x y e g p q = p.leaves ∙ sym q.leaves
