-- Scaffolding: only contracts of private functions cite this; nothing here has to be believed.
-- The headers file byte by byte, as the code goes: what has been read of it, held by value, the header that its numbers go
-- to, and what has been printed. Each line is read by the reader of the crate text and answered at its end. That this comes
-- to what `HeaderLines.antt` of the crate answers says of the file's lines is `headers_read` of `proofs/HeadersRead.antt`.
-- Assumes nothing: these are definitions.
use Rattle.std.specs.Prelude.{ℕ, ◌+◌, ◌≤◌, ◌<◌, List, [], ◌++◌, ◌≡◌, length, take, Option}
use Rattle.lists.specs.Rules.{Rules, fields_of}
use Rattle.lists.specs.Headers.{zeros}
use Rattle.text.specs.Cells.{fed}
use Rattle.text.specs.Files.{InFile, line_in}
use Rattle.text.specs.Lines.{no_bytes, LineNow}
use Rattle.text.specs.Puts.{Puts}
use Rattle.text.specs.declared.put.Out.{Out}
use Rattle.text.specs.Judging.{Judged, judged, Over, over_in, over_step, over_end}
use Rattle.text.specs.declared.line.Line.{Line}
use Rattle.answers.specs.HeaderLines.{header_flaw, answer_said}
use Rattle.answers.specs.Counts.{no_lines, counted_by}
use Rattle.answers.specs.declared.answer.HeaderFlaw.{HeaderFlaw}
use Rattle.answers.specs.declared.count.HeadersSoFar.{HeadersSoFar}
use Rattle.gateway.specs.declared.headers.HeadersFile.{HeadersFile}
use Rattle.gateway.specs.declared.headers.Progress.{Progress}

-- nothing has been read
abbrev pub no_headers : HeadersFile
no_headers = record { reader = no_bytes; headers = no_lines }

-- the count of lines, with what has been printed
pub record Answered : Type 0 where
  pub headers : HeadersSoFar
  pub said : List ℕ

abbrev pub answered : HeadersSoFar → List ℕ → Answered
answered h said = record { headers = h; said = said }

-- ---- the file, with the header
-- the flaw of a line that has ended
abbrev pub flaw_here : Rules → Line → Option HeaderFlaw
flaw_here R l = header_flaw (fields_of R) l.feed l.row.bad l.row.cells

-- a line's first number goes to place 0
abbrev pub header_at : Answered → ℕ
header_at y = 0

-- a line that has ended is answered, and the header is cleared
abbrev pub judge_header : Rules → List ℕ → Answered → LineNow → Judged Answered
judge_header R T y l =
    judged (answered (counted_by y.headers (flaw_here R l.line)) (y.said ++ answer_said R T (flaw_here R l.line) l.run)) zeros

abbrev pub headers_in_file : HeadersFile → List ℕ → List ℕ → InFile (Over Answered)
headers_in_file f header said = over_in f.reader header (answered f.headers said)

-- one byte
abbrev pub headers_step : Rules → List ℕ → InFile (Over Answered) → ℕ → InFile (Over Answered)
headers_step R T = over_step header_at (judge_header R T)

-- bytes, where nothing has been printed of late
abbrev pub headers_fed : Rules → List ℕ → HeadersFile → List ℕ → List ℕ → InFile (Over Answered)
headers_fed R T f header bytes = fed (headers_step R T) (headers_in_file f header []) bytes

-- the file's end
abbrev pub headers_end : Rules → List ℕ → InFile (Over Answered) → Answered
headers_end R T s = (over_end header_at (judge_header R T) s).own

-- ---- what is printed
-- bytes put into a run at its place, none left out
pub record Wrote (old : Out) (bs : List ℕ) (new : Out) : Type 0 where
  pub puts : Puts old bs new
  pub fits : old.at + length bs ≤ length old.bytes.now

-- s is what is defined of the bytes read; the code has this file and this header, and has printed the rest of s
pub record Printed (s : InFile (Over Answered)) (f : HeadersFile) (header : List ℕ) (old new : Out) : Type 0 where
  pub reads : headers_in_file f header s.at.own.said ≡ s
  pub prints : Wrote old s.at.own.said new

-- bytes to the end of the present line
pub record HeadersTook (R : Rules) (T : List ℕ) (f : HeadersFile) (bytes header : List ℕ) (old : Out) (r : Progress) (left : List ℕ) (new : Out) : Type 0 where
  pub used : r.used ≡ line_in f.reader.cr bytes
  pub printed : Printed (headers_fed R T f header (take r.used bytes)) r.file left old new

-- a piece: of its bytes no more than there are, and one at least where there are some
pub record HeadersPiece (R : Rules) (T : List ℕ) (f : HeadersFile) (bytes header : List ℕ) (old : Out) (r : Progress) (left : List ℕ) (new : Out) : Type 0 where
  pub most : r.used ≤ length bytes
  pub some : 0 < length bytes → 0 < r.used
  pub printed : Printed (headers_fed R T f header (take r.used bytes)) r.file left old new

-- the file's end
pub record HeadersEnd (R : Rules) (T : List ℕ) (f : HeadersFile) (header : List ℕ) (old : Out) (r : HeadersSoFar) (new : Out) : Type 0 where
  pub headers : r ≡ (headers_end R T (headers_in_file f header [])).headers
  pub prints : Wrote old (headers_end R T (headers_in_file f header [])).said new
