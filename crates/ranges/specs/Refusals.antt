-- 01, Refusal numbers, and 02: the rows of the table and their numbers, and what an answer says in the paper's words. When a row
-- applies is said where its call is defined, in the order of rows. 13 and 14 are W1's.
-- Assumes nothing: these are definitions.
use Rattle.std.specs.Prelude.{ℕ, Bool, true, false, List, [], ◌∷◌, Result, Ok, Err}
use Rattle.ranges.specs.declared.refusal.Refusal.{Refusal as RefusalOf}
use Rattle.ranges.specs.declared.refusal.Cause.{Cause}
pub use Rattle.ranges.specs.declared.refusal.Cause.TheVariants.{BadFields, BadLength, TooManyRules, LowAboveHigh, BadTableLength, BrokenTable, NoSuchPartition, BadLine, BadWidth, BadPrefix, BadRange, TooLittleRoom, BadRunLength, BadPartitionNumber, EmptyPartition, ClashInPartition}

-- the number of each row, by its cause
abbrev pub number_of : Cause → ℕ
number_of BadFields = 1
number_of BadLength = 2
number_of TooManyRules = 3
number_of LowAboveHigh = 4
number_of BadTableLength = 5
number_of BrokenTable = 6
number_of NoSuchPartition = 7
number_of BadLine = 8
number_of BadWidth = 9
number_of BadPrefix = 10
number_of BadRange = 11
number_of TooLittleRoom = 12
number_of BadRunLength = 15
number_of BadPartitionNumber = 16
number_of EmptyPartition = 17
number_of ClashInPartition = 18

-- a refusal for one of the rows' causes
abbrev pub Refusal : Type 0
Refusal = RefusalOf Cause

-- a refusal for a cause or of a number, at a place of two numbers
abbrev pub refusing : {C : Type 0} → C → ℕ → ℕ → RefusalOf C
refusing c a t = record { cause = c; at = a; then = t }

-- what a test for refusals answers: nothing is refused, or the refusal
abbrev pub Fault : Type 0
Fault = Result (Unit {0}) Refusal

-- nothing is refused
abbrev pub none : Fault
none = Ok tt

-- an answer that is refused for a cause, with place 0
abbrev pub refused : {A : Type 0} → Cause → Result A Refusal
refused cause = Err (refusing cause 0 0)

-- the same at a place of two numbers
abbrev pub refused_at : {A : Type 0} → Cause → ℕ → ℕ → Result A Refusal
refused_at cause a t = Err (refusing cause a t)

-- nothing is refused
abbrev pub stands : {A : Type 0} → Result A Refusal → Bool
stands (Ok a) = true
stands (Err x) = false

-- the first of two answers where it refuses, else the second, which is not looked at where the first refuses
abbrev pub or_else : {A : Type 0} → Fault → Result A Refusal → Result A Refusal
or_else (Ok u) y = y
or_else (Err x) y = Err x

-- the number of what is refused; 0, which no row has, where nothing is
abbrev pub number_in : {A : Type 0} → Result A Refusal → ℕ
number_in (Ok a) = 0
number_in (Err x) = number_of x.cause

-- a, unless something is refused
abbrev pub unless : {A : Type 0} → Fault → A → Result A Refusal
unless x a = or_else x (Ok a)

-- what an answer says in the paper's words: the refusal's number and place (0 and 0, 0 where nothing is
-- refused), and what is answered, which a refusal leaves empty
pub record Said : Type 0 where
  pub number : ℕ
  pub at : ℕ
  pub then : ℕ
  pub answer : List ℕ

-- what an answer says, where f says what is answered
abbrev pub says : {A : Type 0} → (A → List ℕ) → Result A Refusal → Said
says f (Ok a) = record { number = 0; at = 0; then = 0; answer = f a }
says f (Err x) = record { number = number_of x.cause; at = x.at; then = x.then; answer = [] }

-- an answer that counts
abbrev pub says_count : Result ℕ Refusal → Said
says_count count = says (λ k. k ∷ []) count
