-- Any two results that the contract of `audit` allows for the same arguments are equal: it is one equation, `r ≡ ..`. `Learnt` is what a
-- caller learns of a call, as the checker reads it off the contract's `ensures`; `ps` and `r` are its parameters' and its result's types.
-- Assumes nothing.
use mathlib.Core.Path.{sym, ◌∙◌}
use Rattle.ranges.proofs.OneAnswer.{OneAnswer}
use Rattle.auditing.proofs.audit.audit.Kinds as audit_kinds
use Rattle.auditing.proofs.audit.audit.Reads as audit_reads

pub audit_one : OneAnswer 3 audit_kinds.ps audit_kinds.r audit_reads.Learnt
audit_one κs a x y e g p q = p ∙ sym q
