-- Any two results that a public function's contract allows for the same arguments are equal, and any two runs that it leaves: each
-- contract is one equation, `r ≡ ..`, and one for the run. `Learnt` is what a caller learns of a call, as the checker reads it off the
-- contract's `ensures`; `ps` and `r` are its parameters' and its result's types.
-- Assumes nothing.
use mathlib.Core.Path.{sym, ◌∙◌}
use denote.RattleType.{RattleType}
use denote.Param.Laws.{Laws}
use Rattle.ranges.proofs.OneAnswer.{OneAnswer, OneRun}
use Rattle.ranges.proofs.refusal.Cause.number.Kinds as number_kinds
use Rattle.ranges.proofs.refusal.Cause.number.Reads as number_reads
use Rattle.ranges.proofs.refusal.CauseReason.its_number.Kinds as cause_its_number_kinds
use Rattle.ranges.proofs.refusal.CauseReason.its_number.Reads as cause_its_number_reads
use Rattle.ranges.proofs.reason.U32Reason.its_number.Kinds as its_number_kinds
use Rattle.ranges.proofs.reason.U32Reason.its_number.Reads as its_number_reads
use Rattle.ranges.proofs.refusal.refuse.Kinds as refuse_kinds
use Rattle.ranges.proofs.refusal.refuse.Reads as refuse_reads
use Rattle.ranges.proofs.refusal.refuse_number.Kinds as refuse_number_kinds
use Rattle.ranges.proofs.refusal.refuse_number.Reads as refuse_number_reads
use Rattle.ranges.proofs.spot.spot_of.Kinds as spot_of_kinds
use Rattle.ranges.proofs.spot.spot_of.Reads as spot_of_reads
use Rattle.ranges.proofs.side.side_of.Kinds as side_of_kinds
use Rattle.ranges.proofs.side.side_of.Reads as side_of_reads
use Rattle.ranges.proofs.side.closed.Kinds as closed_kinds
use Rattle.ranges.proofs.side.closed.Reads as closed_reads
use Rattle.ranges.proofs.side.range_of.Kinds as range_of_kinds
use Rattle.ranges.proofs.side.range_of.Reads as range_of_reads
use Rattle.ranges.proofs.side.is_below.Kinds as is_below_kinds
use Rattle.ranges.proofs.side.is_below.Reads as is_below_reads
use Rattle.ranges.proofs.side.is_past.Kinds as is_past_kinds
use Rattle.ranges.proofs.side.is_past.Reads as is_past_reads
use Rattle.ranges.proofs.side.is_void.Kinds as is_void_kinds
use Rattle.ranges.proofs.side.is_void.Reads as is_void_reads
use Rattle.ranges.proofs.side.meets.Kinds as meets_kinds
use Rattle.ranges.proofs.side.meets.Reads as meets_reads
use Rattle.ranges.proofs.standing.is_under.Kinds as is_under_kinds
use Rattle.ranges.proofs.standing.is_under.Reads as is_under_reads
use Rattle.ranges.proofs.standing.same_ends.Kinds as same_ends_kinds
use Rattle.ranges.proofs.standing.same_ends.Reads as same_ends_reads
use Rattle.ranges.proofs.prefix.prefix_to_range.Kinds as prefix_to_range_kinds
use Rattle.ranges.proofs.prefix.prefix_to_range.Reads as prefix_to_range_reads
use Rattle.ranges.proofs.expand.range_to_prefixes.Kinds as range_to_prefixes_kinds
use Rattle.ranges.proofs.expand.range_to_prefixes.Reads as range_to_prefixes_reads

pub cause_number_one : OneAnswer 0 number_kinds.ps number_kinds.r number_reads.Learnt
cause_number_one κs a x y e g p q = p ∙ sym q

pub cause_its_number_one : OneAnswer 0 cause_its_number_kinds.ps cause_its_number_kinds.r cause_its_number_reads.Learnt
cause_its_number_one κs a x y e g p q = p ∙ sym q

pub its_number_one : OneAnswer 0 its_number_kinds.ps its_number_kinds.r its_number_reads.Learnt
its_number_one κs a x y e g p q = p ∙ sym q

-- for whatever type names the cause, u32 and `Cause` among them
pub refuse_one : (C : RattleType) (laws : Laws C) → OneAnswer 1 (refuse_kinds.ps C laws) (refuse_kinds.r C laws) (refuse_reads.Learnt C laws)
refuse_one C laws κs a x y e g p q = p ∙ sym q

pub refuse_number_one : OneAnswer 0 refuse_number_kinds.ps refuse_number_kinds.r refuse_number_reads.Learnt
refuse_number_one κs a x y e g p q = p ∙ sym q

pub spot_of_one : OneAnswer 0 spot_of_kinds.ps spot_of_kinds.r spot_of_reads.Learnt
spot_of_one κs a x y e g p q = p ∙ sym q

pub side_of_one : OneAnswer 0 side_of_kinds.ps side_of_kinds.r side_of_reads.Learnt
side_of_one κs a x y e g p q = p ∙ sym q

pub closed_one : OneAnswer 0 closed_kinds.ps closed_kinds.r closed_reads.Learnt
closed_one κs a x y e g p q = p ∙ sym q

pub range_of_one : OneAnswer 0 range_of_kinds.ps range_of_kinds.r range_of_reads.Learnt
range_of_one κs a x y e g p q = p ∙ sym q

pub is_below_one : OneAnswer 0 is_below_kinds.ps is_below_kinds.r is_below_reads.Learnt
is_below_one κs a x y e g p q = p ∙ sym q

pub is_past_one : OneAnswer 0 is_past_kinds.ps is_past_kinds.r is_past_reads.Learnt
is_past_one κs a x y e g p q = p ∙ sym q

pub is_void_one : OneAnswer 0 is_void_kinds.ps is_void_kinds.r is_void_reads.Learnt
is_void_one κs a x y e g p q = p ∙ sym q

pub meets_one : OneAnswer 0 meets_kinds.ps meets_kinds.r meets_reads.Learnt
meets_one κs a x y e g p q = p ∙ sym q

pub is_under_one : OneAnswer 0 is_under_kinds.ps is_under_kinds.r is_under_reads.Learnt
is_under_one κs a x y e g p q = p ∙ sym q

pub same_ends_one : OneAnswer 0 same_ends_kinds.ps same_ends_kinds.r same_ends_reads.Learnt
same_ends_one κs a x y e g p q = p ∙ sym q

pub prefix_to_range_one : OneAnswer 0 prefix_to_range_kinds.ps prefix_to_range_kinds.r prefix_to_range_reads.Learnt
prefix_to_range_one κs a x y e g p q = p ∙ sym q

pub range_to_prefixes_one : OneAnswer 1 range_to_prefixes_kinds.ps range_to_prefixes_kinds.r range_to_prefixes_reads.Learnt
range_to_prefixes_one κs a x y e g p q = p.0 ∙ sym q.0

-- the run afterwards is one too
pub range_to_prefixes_run_one : OneRun 1 range_to_prefixes_kinds.ps range_to_prefixes_kinds.r range_to_prefixes_reads.Learnt (λ κs e. e.1.1.1.0.now)
range_to_prefixes_run_one κs a x y e g p q = p.1 ∙ sym q.1
