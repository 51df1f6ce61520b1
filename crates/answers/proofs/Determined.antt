-- Any two results that a public function's contract allows for the same arguments are equal, and any two runs that it leaves. `Learnt` is what a
-- caller learns of a call, as the checker reads it off the contract's `ensures`; `ps` and `r` are its parameters' and its result's types. Each
-- contract is an equation, or a record of several (`Put`, `PutLine`, `OpenedWith`).
-- Assumes nothing.
use Prim.Native.Nat.{ℕ}
use denote.RattleType.{RattleType}
use denote.Param.Laws.{Laws}
use mir.Syntax.{Dict}
use mathlib.Core.List.{List}
use mathlib.Core.Path.{◌≡◌, sym, ap, ◌∙◌}
use Rattle.ranges.proofs.OneAnswer.{OneAnswer, OneRun}
use Rattle.ranges.specs.declared.reason.Reason.{Ghosts}
use Rattle.text.proofs.Determined.{place_one, bytes_one}
use Rattle.std.specs.Result.{result_err}
use Rattle.rulesfile.specs.declared.file.RulesSoFar.{RulesSoFar}
use Rattle.rulesfile.proofs.Determined.{built_alike}
use Rattle.answers.specs.Said.{LineAt}
use Rattle.answers.specs.Opened.{opened_said, OpenedWith}
use Rattle.answers.specs.declared.open.Opened.{Opened}
use Rattle.answers.proofs.answer.header_flaw.Kinds as header_flaw_kinds
use Rattle.answers.proofs.answer.header_flaw.Reads as header_flaw_reads
use Rattle.answers.proofs.answer.put_answer.Kinds as put_answer_kinds
use Rattle.answers.proofs.answer.put_answer.Reads as put_answer_reads
use Rattle.answers.proofs.count.count_start.Kinds as count_start_kinds
use Rattle.answers.proofs.count.count_start.Reads as count_start_reads
use Rattle.answers.proofs.count.counted.Kinds as counted_kinds
use Rattle.answers.proofs.count.counted.Reads as counted_reads
use Rattle.answers.proofs.say.put_head.Kinds as put_head_kinds
use Rattle.answers.proofs.say.put_head.Reads as put_head_reads
use Rattle.answers.proofs.say.put_refused.Kinds as put_refused_kinds
use Rattle.answers.proofs.say.put_refused.Reads as put_refused_reads
use Rattle.answers.proofs.say.put_looked.Kinds as put_looked_kinds
use Rattle.answers.proofs.say.put_looked.Reads as put_looked_reads
use Rattle.answers.proofs.complain.put_headers_flaws.Kinds as put_headers_flaws_kinds
use Rattle.answers.proofs.complain.put_headers_flaws.Reads as put_headers_flaws_reads
use Rattle.answers.proofs.open.open_rules.Kinds as open_rules_kinds
use Rattle.answers.proofs.open.open_rules.Reads as open_rules_reads

-- ---- answer
pub header_flaw_one : OneAnswer 0 header_flaw_kinds.ps header_flaw_kinds.r header_flaw_reads.Learnt
header_flaw_one κs a x y e g p q = p ∙ sym q

pub put_answer_one : OneRun 5 put_answer_kinds.ps put_answer_kinds.r put_answer_reads.Learnt (λ κs e. e.1.1.1.1.0.now.at)
put_answer_one κs a x y e g p q = place_one p.puts.put q.puts.put

pub put_answer_run_one : OneRun 5 put_answer_kinds.ps put_answer_kinds.r put_answer_reads.Learnt (λ κs e. e.1.1.1.1.0.now.bytes.now)
put_answer_run_one κs a x y e g p q = bytes_one p.puts.put q.puts.put

-- ---- count
pub count_start_one : OneAnswer 0 count_start_kinds.ps count_start_kinds.r count_start_reads.Learnt
count_start_one κs a x y e g p q = p ∙ sym q

pub counted_one : OneAnswer 0 counted_kinds.ps counted_kinds.r counted_reads.Learnt
counted_one κs a x y e g p q = p ∙ sym q

-- ---- say
pub put_head_one : OneRun 2 put_head_kinds.ps put_head_kinds.r put_head_reads.Learnt (λ κs e. e.0.now.at)
put_head_one κs a x y e g p q = place_one p.put q.put

pub put_head_run_one : OneRun 2 put_head_kinds.ps put_head_kinds.r put_head_reads.Learnt (λ κs e. e.0.now.bytes.now)
put_head_run_one κs a x y e g p q = bytes_one p.put q.put

pub put_refused_one : OneRun 2 put_refused_kinds.ps put_refused_kinds.r put_refused_reads.Learnt (λ κs e. e.1.0.now.at)
put_refused_one κs a x y e g p q = place_one p.puts.put q.puts.put

pub put_refused_run_one : OneRun 2 put_refused_kinds.ps put_refused_kinds.r put_refused_reads.Learnt (λ κs e. e.1.0.now.bytes.now)
put_refused_run_one κs a x y e g p q = bytes_one p.puts.put q.puts.put

-- of an answer that may be refused, for whatever type names what it is refused by and whatever number is said of it
module _ (C : RattleType) (laws : Laws C) (number : Ghosts C.Denot) (calls : Dict) where
  pub put_looked_one : OneRun 3 (put_looked_kinds.ps C laws) (put_looked_kinds.r C laws) (put_looked_reads.Learnt C laws number calls) (λ κs e. e.1.0.now.at)
  put_looked_one κs a x y e g p q = place_one p.puts.put q.puts.put

  pub put_looked_run_one : OneRun 3 (put_looked_kinds.ps C laws) (put_looked_kinds.r C laws) (put_looked_reads.Learnt C laws number calls) (λ κs e. e.1.0.now.bytes.now)
  put_looked_run_one κs a x y e g p q = bytes_one p.puts.put q.puts.put

-- ---- complain
pub put_headers_flaws_one : OneAnswer 2 put_headers_flaws_kinds.ps put_headers_flaws_kinds.r put_headers_flaws_reads.Learnt
put_headers_flaws_one κs a x y e g p q = place_one p q

pub put_headers_flaws_run_one : OneRun 2 put_headers_flaws_kinds.ps put_headers_flaws_kinds.r put_headers_flaws_reads.Learnt (λ κs e. e.1.1.1.0.now)
put_headers_flaws_run_one κs a x y e g p q = bytes_one p q

-- ---- open
module _ (rules : RulesSoFar) (list table out : List ℕ) {r s : Opened} {built built' after after' : List ℕ} (p : OpenedWith rules list table out r built after)
    (q : OpenedWith rules list table out s built' after') where
  flaw_alike : result_err r.built ≡ result_err s.built
  flaw_alike = p.flaw ∙ sym q.flaw

  -- the second's line, said of the first's flaw
  line_alike : LineAt out 0 (opened_said (result_err r.built)) after' s.at
  line_alike = rw flaw_alike q.prints

  pub open_rules_place_one : r.at ≡ s.at
  open_rules_place_one = place_one p.prints.put line_alike.put

  opened_alike : r ≡ s
  opened_alike =
      ap (λ b. record { built = b; at = r.at }) (built_alike r.built s.built flaw_alike) ∙ ap (λ k. record { built = s.built; at = k }) open_rules_place_one

pub open_rules_one : OneAnswer 3 open_rules_kinds.ps open_rules_kinds.r open_rules_reads.Learnt
open_rules_one κs a x y e g p q = opened_alike _ _ _ _ p q

pub open_rules_table_one : OneRun 3 open_rules_kinds.ps open_rules_kinds.r open_rules_reads.Learnt (λ κs e. e.1.1.0.now)
open_rules_table_one κs a x y e g p q = p.builds ∙ sym q.builds

pub open_rules_run_one : OneRun 3 open_rules_kinds.ps open_rules_kinds.r open_rules_reads.Learnt (λ κs e. e.1.1.1.0.now)
open_rules_run_one κs a x y e g p q = bytes_one p.prints.put (line_alike _ _ _ _ p q).put
