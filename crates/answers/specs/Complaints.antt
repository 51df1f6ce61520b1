-- What is said on standard error of the headers, for a person. `path` is the file's name as given.
-- Assumes nothing: these are definitions.
use Rattle.std.specs.Prelude.{ℕ, List, [], ◌++◌, Option, None, Some}
use Rattle.std.specs.Option.{unwrap_or}
use Rattle.text.specs.Texts.{bytes}
use Rattle.text.specs.Decimals.{decimal_of}
use Rattle.flaws.specs.Said.{plural_said, cells_said, not_number_said, feed_said, named_said}
use Rattle.answers.specs.HeaderLines.{refused_lines}
use Rattle.answers.specs.declared.answer.HeaderFlaw.{HeaderFlaw}
use Rattle.answers.specs.declared.answer.HeaderFlaw.TheVariants.{NotNumber, LoneFeed, OtherWidth}
use Rattle.answers.specs.declared.count.RefusedLines.{RefusedLines}
use Rattle.answers.specs.declared.count.HeadersSoFar.{HeadersSoFar}

-- 1 line, 2 lines
abbrev pub counted_said : ℕ → List ℕ → List ℕ
counted_said n word = decimal_of n ++ plural_said n word

-- why a header line was refused, for rules of d fields; nothing where it was not
abbrev pub why_said : List ℕ → ℕ → Option HeaderFlaw → List ℕ
why_said path d None = []
why_said path d (Some (NotNumber cell)) = bytes ", " ++ not_number_said cell
why_said path d (Some LoneFeed) = bytes ": " ++ feed_said path
why_said path d (Some (OtherWidth cells)) = bytes ": " ++ cells_said cells ++ bytes ", where a rule has " ++ counted_said d (bytes " field")

-- no line was refused, and the first of them is line 0
abbrev pub none_refused : RefusedLines
none_refused = refused_lines 0 0 None

-- lines that were refused, the first of them named
abbrev pub lines_said_refused : List ℕ → ℕ → RefusedLines → List ℕ
lines_said_refused path d r = counted_said r.count (bytes " line") ++ bytes " refused, the first is line " ++ decimal_of r.first ++ why_said path d r.flaw

abbrev pub lines_refused_said : List ℕ → ℕ → Option RefusedLines → List ℕ
lines_refused_said path d refused = lines_said_refused path d (unwrap_or refused none_refused)

-- of the headers
abbrev pub headers_complaint : List ℕ → ℕ → HeadersSoFar → List ℕ
headers_complaint path d h = named_said (bytes "gateway") path ++ bytes ": " ++ lines_refused_said path d h.refused ++ bytes "\n"
