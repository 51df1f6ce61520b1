-- The exit status: 0 where the job was done, 1 where it was not, 2 for wrong use. 48 is the digit 0. It is told; the process itself ends with
-- another number, by whether the reader of what it writes has gone away.
-- Assumes nothing: these are definitions.
use Rattle.std.specs.Prelude.{ℕ, Bool, true, false}
use Rattle.programs.specs.declared.status.Ended.{Ended}
use Rattle.programs.specs.declared.status.Ended.TheVariants.{Done, Failed, Misused}

-- a job that was done, or was not
abbrev pub ended_of : Bool → Ended
ended_of true = Done
ended_of false = Failed

-- the digit that is told
abbrev pub digit_of : Ended → ℕ
digit_of Done = 48
digit_of Failed = 49
digit_of Misused = 50

-- what the process ends with: 141 where the reader has gone away, the shell's number for one that the signal of a broken pipe ended, else 0
abbrev pub left_with : Bool → ℕ
left_with true = 141
left_with false = 0
