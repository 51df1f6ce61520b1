-- Any two results that the contract of the lookup allows for the same arguments are equal. `Learnt` is what a caller learns of a call, as the
-- checker reads it off the contract's `ensures`; `ps` and `r` are its parameters' and its result's types.
-- Assumes nothing.
use mathlib.Core.Path.{sym, ◌∙◌}
use Rattle.ranges.proofs.OneAnswer.{OneAnswer}
use Rattle.lookup.proofs.lookup.lookup.Kinds as lookup_kinds
use Rattle.lookup.proofs.lookup.lookup.Reads as lookup_reads

pub lookup_one : OneAnswer 3 lookup_kinds.ps lookup_kinds.r lookup_reads.Learnt
lookup_one κs a x y e g p q = p ∙ sym q
