-- Any two places that a public function's contract allows it to leave for the same arguments are equal, and so are any two runs of bytes:
-- a contract says which bytes are put, from which place on (`PutFew`). `Learnt` is what a caller learns of a call, as the checker
-- reads it off the contract's `ensures`; `ps` and `r` are its parameters' and its result's types.
-- Assumes nothing.
use denote.RattleType.{RattleType}
use denote.Param.Laws.{Laws}
use mir.Syntax.{Dict}
use Rattle.ranges.proofs.OneAnswer.{OneRun}
use Rattle.ranges.specs.declared.reason.Reason.{Ghosts}
use Rattle.text.proofs.Determined.{place_one, bytes_one}
use Rattle.phrases.proofs.say.put_spaced.Kinds as put_spaced_kinds
use Rattle.phrases.proofs.say.put_spaced.Reads as put_spaced_reads
use Rattle.phrases.proofs.say.put_all.Kinds as put_all_kinds
use Rattle.phrases.proofs.say.put_all.Reads as put_all_reads
use Rattle.phrases.proofs.say.put_table.Kinds as put_table_kinds
use Rattle.phrases.proofs.say.put_table.Reads as put_table_reads
use Rattle.phrases.proofs.say.put_bad.Kinds as put_bad_kinds
use Rattle.phrases.proofs.say.put_bad.Reads as put_bad_reads
use Rattle.phrases.proofs.say.put_refused.Kinds as put_refused_kinds
use Rattle.phrases.proofs.say.put_refused.Reads as put_refused_reads
use Rattle.phrases.proofs.say.put_count.Kinds as put_count_kinds
use Rattle.phrases.proofs.say.put_count.Reads as put_count_reads
use Rattle.phrases.proofs.say.put_bounds.Kinds as put_bounds_kinds
use Rattle.phrases.proofs.say.put_bounds.Reads as put_bounds_reads
use Rattle.phrases.proofs.say.put_match.Kinds as put_match_kinds
use Rattle.phrases.proofs.say.put_match.Reads as put_match_reads
use Rattle.phrases.proofs.say.put_pair.Kinds as put_pair_kinds
use Rattle.phrases.proofs.say.put_pair.Reads as put_pair_reads
use Rattle.phrases.proofs.say.put_looked.Kinds as put_looked_kinds
use Rattle.phrases.proofs.say.put_looked.Reads as put_looked_reads
use Rattle.phrases.proofs.say.put_spot.Kinds as put_spot_kinds
use Rattle.phrases.proofs.say.put_spot.Reads as put_spot_reads
use Rattle.phrases.proofs.say.put_verdict.Kinds as put_verdict_kinds
use Rattle.phrases.proofs.say.put_verdict.Reads as put_verdict_reads
use Rattle.phrases.proofs.say.put_part.Kinds as put_part_kinds
use Rattle.phrases.proofs.say.put_part.Reads as put_part_reads

pub put_spaced_one : OneRun 2 put_spaced_kinds.ps put_spaced_kinds.r put_spaced_reads.Learnt (λ κs e. e.1.0.now.at)
put_spaced_one κs a x y e g p q = place_one p.puts.put q.puts.put

pub put_spaced_bytes_one : OneRun 2 put_spaced_kinds.ps put_spaced_kinds.r put_spaced_reads.Learnt (λ κs e. e.1.0.now.bytes.now)
put_spaced_bytes_one κs a x y e g p q = bytes_one p.puts.put q.puts.put

pub put_all_one : OneRun 3 put_all_kinds.ps put_all_kinds.r put_all_reads.Learnt (λ κs e. e.1.0.now.at)
put_all_one κs a x y e g p q = place_one p.puts.put q.puts.put

pub put_all_bytes_one : OneRun 3 put_all_kinds.ps put_all_kinds.r put_all_reads.Learnt (λ κs e. e.1.0.now.bytes.now)
put_all_bytes_one κs a x y e g p q = bytes_one p.puts.put q.puts.put

pub put_table_one : OneRun 3 put_table_kinds.ps put_table_kinds.r put_table_reads.Learnt (λ κs e. e.1.0.now.at)
put_table_one κs a x y e g p q = place_one p.puts.put q.puts.put

pub put_table_bytes_one : OneRun 3 put_table_kinds.ps put_table_kinds.r put_table_reads.Learnt (λ κs e. e.1.0.now.bytes.now)
put_table_bytes_one κs a x y e g p q = bytes_one p.puts.put q.puts.put

pub put_bad_one : OneRun 2 put_bad_kinds.ps put_bad_kinds.r put_bad_reads.Learnt (λ κs e. e.0.now.at)
put_bad_one κs a x y e g p q = place_one p.puts.put q.puts.put

pub put_bad_bytes_one : OneRun 2 put_bad_kinds.ps put_bad_kinds.r put_bad_reads.Learnt (λ κs e. e.0.now.bytes.now)
put_bad_bytes_one κs a x y e g p q = bytes_one p.puts.put q.puts.put

pub put_spot_one : OneRun 2 put_spot_kinds.ps put_spot_kinds.r put_spot_reads.Learnt (λ κs e. e.1.0.now.at)
put_spot_one κs a x y e g p q = place_one p.puts.put q.puts.put

pub put_spot_bytes_one : OneRun 2 put_spot_kinds.ps put_spot_kinds.r put_spot_reads.Learnt (λ κs e. e.1.0.now.bytes.now)
put_spot_bytes_one κs a x y e g p q = bytes_one p.puts.put q.puts.put

-- of an answer that may be refused, for whatever type names what it is refused by and whatever number is said of it
module _ (C : RattleType) (laws : Laws C) (number : Ghosts C.Denot) (calls : Dict) where
  pub put_refused_one : OneRun 3 (put_refused_kinds.ps C laws) (put_refused_kinds.r C laws) (put_refused_reads.Learnt C laws number calls) (λ κs e. e.1.0.now.at)
  put_refused_one κs a x y e g p q = place_one p.puts.put q.puts.put

  pub put_refused_bytes_one : OneRun 3 (put_refused_kinds.ps C laws) (put_refused_kinds.r C laws) (put_refused_reads.Learnt C laws number calls) (λ κs e. e.1.0.now.bytes.now)
  put_refused_bytes_one κs a x y e g p q = bytes_one p.puts.put q.puts.put

  pub put_count_one : OneRun 3 (put_count_kinds.ps C laws) (put_count_kinds.r C laws) (put_count_reads.Learnt C laws number calls) (λ κs e. e.1.0.now.at)
  put_count_one κs a x y e g p q = place_one p.puts.put q.puts.put

  pub put_count_bytes_one : OneRun 3 (put_count_kinds.ps C laws) (put_count_kinds.r C laws) (put_count_reads.Learnt C laws number calls) (λ κs e. e.1.0.now.bytes.now)
  put_count_bytes_one κs a x y e g p q = bytes_one p.puts.put q.puts.put

  pub put_bounds_one : OneRun 3 (put_bounds_kinds.ps C laws) (put_bounds_kinds.r C laws) (put_bounds_reads.Learnt C laws number calls) (λ κs e. e.1.0.now.at)
  put_bounds_one κs a x y e g p q = place_one p.puts.put q.puts.put

  pub put_bounds_bytes_one : OneRun 3 (put_bounds_kinds.ps C laws) (put_bounds_kinds.r C laws) (put_bounds_reads.Learnt C laws number calls) (λ κs e. e.1.0.now.bytes.now)
  put_bounds_bytes_one κs a x y e g p q = bytes_one p.puts.put q.puts.put

  pub put_match_one : OneRun 3 (put_match_kinds.ps C laws) (put_match_kinds.r C laws) (put_match_reads.Learnt C laws number calls) (λ κs e. e.1.0.now.at)
  put_match_one κs a x y e g p q = place_one p.puts.put q.puts.put

  pub put_match_bytes_one : OneRun 3 (put_match_kinds.ps C laws) (put_match_kinds.r C laws) (put_match_reads.Learnt C laws number calls) (λ κs e. e.1.0.now.bytes.now)
  put_match_bytes_one κs a x y e g p q = bytes_one p.puts.put q.puts.put

  pub put_pair_one : OneRun 3 (put_pair_kinds.ps C laws) (put_pair_kinds.r C laws) (put_pair_reads.Learnt C laws number calls) (λ κs e. e.1.0.now.at)
  put_pair_one κs a x y e g p q = place_one p.puts.put q.puts.put

  pub put_pair_bytes_one : OneRun 3 (put_pair_kinds.ps C laws) (put_pair_kinds.r C laws) (put_pair_reads.Learnt C laws number calls) (λ κs e. e.1.0.now.bytes.now)
  put_pair_bytes_one κs a x y e g p q = bytes_one p.puts.put q.puts.put

  pub put_looked_one : OneRun 3 (put_looked_kinds.ps C laws) (put_looked_kinds.r C laws) (put_looked_reads.Learnt C laws number calls) (λ κs e. e.1.0.now.at)
  put_looked_one κs a x y e g p q = place_one p.puts.put q.puts.put

  pub put_looked_bytes_one : OneRun 3 (put_looked_kinds.ps C laws) (put_looked_kinds.r C laws) (put_looked_reads.Learnt C laws number calls) (λ κs e. e.1.0.now.bytes.now)
  put_looked_bytes_one κs a x y e g p q = bytes_one p.puts.put q.puts.put

  pub put_verdict_one : OneRun 3 (put_verdict_kinds.ps C laws) (put_verdict_kinds.r C laws) (put_verdict_reads.Learnt C laws number calls) (λ κs e. e.1.0.now.at)
  put_verdict_one κs a x y e g p q = place_one p.puts.put q.puts.put

  pub put_verdict_bytes_one : OneRun 3 (put_verdict_kinds.ps C laws) (put_verdict_kinds.r C laws) (put_verdict_reads.Learnt C laws number calls) (λ κs e. e.1.0.now.bytes.now)
  put_verdict_bytes_one κs a x y e g p q = bytes_one p.puts.put q.puts.put

  pub put_part_one : OneRun 3 (put_part_kinds.ps C laws) (put_part_kinds.r C laws) (put_part_reads.Learnt C laws number calls) (λ κs e. e.1.0.now.at)
  put_part_one κs a x y e g p q = place_one p.puts.put q.puts.put

  pub put_part_bytes_one : OneRun 3 (put_part_kinds.ps C laws) (put_part_kinds.r C laws) (put_part_reads.Learnt C laws number calls) (λ κs e. e.1.0.now.bytes.now)
  put_part_bytes_one κs a x y e g p q = bytes_one p.puts.put q.puts.put
