-- Scaffolding: only contracts of private functions cite this; nothing here has to be believed.
-- What the functions that read, hand on and write leave. What a read brings is the system's: so their contracts say that there are
-- pieces, one after the other, from which what they return comes.
-- Assumes nothing: these are definitions.
use Rattle.std.specs.Prelude.{ℕ, ◌≤◌, Bool, true, false, ◌≡◌, Option, None, Some, Result, IfOk, IfSome}
use mathlib.Core.List.{List, [], ◌++◌, flatten}
use Rattle.ranges.specs.Numbers.{same_list}
use Rattle.lists.specs.Rules.{Rules}
use Rattle.text.specs.Texts.{bytes}
use Rattle.text.specs.Cells.{fed}
use Rattle.text.specs.Files.{InFile, in_file}
use Rattle.text.specs.Judging.{judged, Over, over}
use Rattle.rulesfile.specs.Bytes.{no_rules, rules_in_file, rules_end, rules_pieces}
use Rattle.rulesfile.specs.declared.file.RulesSoFar.{RulesSoFar}
use Rattle.rulesfile.specs.declared.file.RulesFile.{RulesFile}
use Rattle.gateway.specs.HeaderBytes.{no_headers, Answered, answered, headers_in_file, headers_step, headers_fed, headers_end}
use Rattle.gateway.specs.declared.input.NoBytes.{NoBytes}
use Rattle.gateway.specs.declared.input.NoBytes.TheVariants.{End, Folder, Failed}
use Rattle.gateway.specs.declared.read_rules.RulesRead.{RulesRead}
use Rattle.answers.specs.declared.count.HeadersSoFar.{HeadersSoFar}
use Rattle.gateway.specs.declared.headers.HeadersFile.{HeadersFile}
use Rattle.gateway.specs.declared.answer_headers.HeadersRead.{HeadersRead}
use Rattle.gateway.specs.declared.answer_headers.HeadersRead.TheVariants.{Are as HeadersAre, Stopped, Failed as NoHeaders}

-- - names standard input
abbrev pub is_stdin : List ℕ → Bool
is_stdin path = same_list path (bytes "-")

-- what was read lies within n bytes
abbrev pub Readied : Result ℕ NoBytes → ℕ → Type 0
Readied got n = IfOk got (λ k. k ≤ n)

-- ---- the rules
-- the file has ended; said: what is wrong with it has been said
abbrev pub RulesOver : RulesFile → List ℕ → Bool → Option RulesRead → List ℕ → Type 0
RulesOver f list said None after = ⊥
RulesOver f list said (Some r) after = (judged r.rules after ≡ rules_end (rules_in_file f list)) × (r.told ≡ said)

-- it can't be read further
abbrev pub RulesLost : List ℕ → Option RulesRead → List ℕ → Type 0
RulesLost list r after = (r ≡ None) × (after ≡ list)

-- either, by why the last read brought no bytes
abbrev pub RulesEnded : NoBytes → RulesFile → List ℕ → Option RulesRead → List ℕ → Type 0
RulesEnded End f list = RulesOver f list false
RulesEnded Folder f list = RulesOver f list true
RulesEnded Failed f list = RulesLost list

-- pieces have been read to the file's end, or to the first flaw
pub record RulesFrom (list : List ℕ) (rules : RulesSoFar) (after : List ℕ) : Type 0 where
  pub pieces : List (List ℕ)
  pub are : judged rules after ≡ rules_pieces (rules_in_file no_rules list) pieces

abbrev pub RulesReadFrom : List ℕ → Option RulesRead → List ℕ → Type 0
RulesReadFrom list r after = IfSome r (λ read. RulesFrom list read.rules after)

-- ---- the headers
-- what has been printed is written, and forgotten
abbrev pub quiet : InFile (Over Answered) → InFile (Over Answered)
quiet s = in_file s.cr (over s.at.now (answered s.at.own.headers []))

-- a first part of the bytes of one read has been answered, all of them where what they print was written
pub record TurnTook (R : Rules) (T : List ℕ) (f : HeadersFile) (bytes header : List ℕ) (r : Option HeadersFile) (left : List ℕ) : Type 0 where
  pub done : List ℕ
  pub rest : List ℕ
  pub cut : done ++ rest ≡ bytes
  pub file : HeadersFile
  pub state : headers_in_file file left [] ≡ quiet (headers_fed R T f header done)
  pub all : IfSome r (λ next. (next ≡ file) × (done ≡ bytes))

-- the file has ended; whether the last answer is written is the system's to say
abbrev pub HeadersOver : Rules → List ℕ → HeadersFile → List ℕ → HeadersRead → Type 0
HeadersOver R T f header (HeadersAre headers) = headers ≡ (headers_end R T (headers_in_file f header [])).headers
HeadersOver R T f header (Stopped headers) = ⊥
HeadersOver R T f header NoHeaders = Unit {0}

-- it can't be read further, or is a folder: a last line that has begun is left
abbrev pub HeadersLost : HeadersFile → HeadersRead → Type 0
HeadersLost f (HeadersAre headers) = ⊥
HeadersLost f (Stopped headers) = headers ≡ f.headers
HeadersLost f NoHeaders = ⊥

-- either, by why the last read brought no bytes
abbrev pub HeadersEnded : NoBytes → Rules → List ℕ → HeadersFile → List ℕ → HeadersRead → Type 0
HeadersEnded End R T f header = HeadersOver R T f header
HeadersEnded Folder R T f header = HeadersLost f
HeadersEnded Failed R T f header = HeadersLost f

-- the state after pieces
abbrev pub headers_after : Rules → List ℕ → List ℕ → List (List ℕ) → InFile (Over Answered)
headers_after R T header ps = fed (headers_step R T) (headers_in_file no_headers header []) (flatten ps)

pub record HeadersFrom (R : Rules) (T header : List ℕ) (headers : HeadersSoFar) : Type 0 where
  pub pieces : List (List ℕ)
  pub are : headers ≡ (headers_end R T (headers_after R T header pieces)).headers

pub record HeadersSome (R : Rules) (T header : List ℕ) (headers : HeadersSoFar) : Type 0 where
  pub pieces : List (List ℕ)
  pub are : headers ≡ (headers_after R T header pieces).at.own.headers

abbrev pub HeadersReadFrom : Rules → List ℕ → List ℕ → HeadersRead → Type 0
HeadersReadFrom R T header (HeadersAre headers) = HeadersFrom R T header headers
HeadersReadFrom R T header (Stopped headers) = HeadersSome R T header headers
HeadersReadFrom R T header NoHeaders = Unit {0}
