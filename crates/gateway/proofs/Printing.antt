-- Laws of what is printed while the headers file is read (`specs/HeaderBytes.antt`).
--     wrote_none, wrote_then, line_wrote        bytes put into a run at its place, none left out
--     took_open, took_ends                      bytes to the end of the present line
--     Going, going_start, going_more            a piece, line by line
--     piece_full, piece_all                     its end, or no more room
--     end_stays, end_answered                   the file's end
-- Assumes nothing.
use Prim.Native.Nat.{ℕ, ◌+◌, ◌-◌, ◌≤◌, ◌<◌}
use mathlib.Core.Bool.{true, false}
use mathlib.Core.List.{List, [], ◌++◌, append_assoc, append-nil}
use mathlib.Core.Path.{◌≡◌, refl, sym, ap, ◌∙◌, subst}
use native.Mathlib.Omega.{arith}
use lib.ListN.{length, take, drop, length-append}
use Rattle.std.specs.Prelude.{Option}
use Rattle.lists.specs.Rules.{Rules}
use Rattle.lists.specs.Headers.{zeros}
use Rattle.text.specs.Cells.{fed}
use Rattle.text.specs.Files.{InFile, in_file}
use Rattle.text.specs.Lines.{no_bytes, no_line, line_now, TookLine, TookLast}
use Rattle.text.specs.Judging.{Over, over, over_byte, over_close}
use Rattle.text.specs.declared.put.Out.{Out}
use Rattle.text.specs.declared.line.Reader.{Reader}
use Rattle.text.specs.declared.line.LineRead.{LineRead}
use Rattle.text.proofs.Feeding.{fed_on}
use Rattle.text.proofs.Files.{line_on_lem, map_in_file, fed_map}
use Rattle.text.proofs.Judging.{over_open, over_ends, over_stays, over_last}
use Rattle.text.proofs.Puts.{puts_none, puts_then, put_long, put_place}
use Rattle.answers.specs.Said.{line_most, PutLine}
use Rattle.answers.specs.HeaderLines.{answer_said}
use Rattle.answers.specs.Counts.{counted_by}
use Rattle.gateway.specs.HeaderBytes.{Answered, answered, flaw_here, header_at, judge_header, headers_in_file, headers_step, headers_fed, headers_end, Wrote, Printed, HeadersTook, HeadersPiece, HeadersEnd}
use Rattle.answers.specs.declared.answer.HeaderFlaw.{HeaderFlaw}
use Rattle.answers.specs.declared.count.HeadersSoFar.{HeadersSoFar}
use Rattle.gateway.specs.declared.headers.HeadersFile.{HeadersFile}
use Rattle.gateway.specs.declared.headers.Progress.{Progress}

-- ---- bytes put into a run at its place, none left out
pub wrote_none : {old : Out} → old.at ≤ length old.bytes.now → Wrote old [] old
wrote_none within = record { puts = puts_none; fits = omega arith }

-- a line, where there is room for one
pub line_wrote : {old new : Out} {bs : List ℕ} → PutLine old bs new → old.at + line_most ≤ length old.bytes.now → Wrote old bs new
line_wrote line room = record { puts = line.puts; fits = omega (arith, line.short) }

pub wrote_then : {old mid new : Out} {xs ys : List ℕ} → Wrote old xs mid → Wrote mid ys new → Wrote old (xs ++ ys) new
wrote_then {old} {mid} {new} {xs} {ys} first second =
    let place = put_place first.puts.put first.fits in
    let long = put_long first.puts.put in
    record { puts = puts_then first.puts second.puts; fits = omega (arith, second.fits, length-append xs ys) }

-- the run keeps its length
pub wrote_long : {old new : Out} {bs : List ℕ} → Wrote old bs new → length new.bytes.now ≡ length old.bytes.now
wrote_long wrote = put_long wrote.puts.put

-- ---- bytes to the end of the present line
-- nothing is printed
printed_none : {s : InFile (Over Answered)} {f : HeadersFile} {header : List ℕ} {old : Out} → headers_in_file f header [] ≡ s → old.at ≤ length old.bytes.now
    → Printed s f header old old
printed_none {s} {f} {header} {old} is within =
    let none : s.at.own.said ≡ [] = sym (ap (λ r. r.at.own.said) is) in
    record { reads = ap (headers_in_file f header) none ∙ is; prints = rw none (wrote_none within) }

module _ (R : Rules) (T : List ℕ) (f : HeadersFile) (bytes header : List ℕ) (old : Out) {read : LineRead} {left : List ℕ} (took : TookLine 0 f.reader bytes header read left) where
  pub took_open : read.ended ≡ false → old.at + line_most ≤ length old.bytes.now
      → HeadersTook R T f bytes header old (record { file = record { reader = read.reader; headers = f.headers }; used = read.used }) left old
  took_open goes room =
      record {
        used = took.used;
        printed = printed_none (over_open header_at (judge_header R T) (answered f.headers []) f.reader bytes header took goes) (omega arith);
      }

  pub took_ends : read.ended ≡ true → old.at + line_most ≤ length old.bytes.now → {flaw : Option HeaderFlaw} {new : Out} {start : Reader} {headers : HeadersSoFar}
      → flaw ≡ flaw_here R read.reader.line → PutLine old (answer_said R T flaw left) new → start ≡ no_bytes → headers ≡ counted_by f.headers flaw
      → HeadersTook R T f bytes header old (record { file = record { reader = start; headers = headers }; used = read.used }) zeros new
  took_ends ends room {flaw} {new} {start} {headers} why line begins counts =
      record { used = took.used; printed = subst (λ s. Printed s (record { reader = start; headers = headers }) zeros old new) is printed }
    where
      -- the state after the line's end
      anew_here : Option HeaderFlaw → InFile (Over Answered)
      anew_here g = in_file false (over (line_now no_line zeros) (answered (counted_by f.headers g) (answer_said R T g left)))

      is : anew_here flaw ≡ headers_fed R T f header (take read.used bytes)
      is = ap anew_here why ∙ over_ends header_at (judge_header R T) (answered f.headers []) f.reader bytes header took ends

      printed : Printed (anew_here flaw) (record { reader = start; headers = headers }) zeros old new
      printed = record { reads = rw (begins, counts); prints = line_wrote line room }

-- ---- a piece, line by line
-- with p printed before
abbrev pub prefixed : List ℕ → Over Answered → Over Answered
prefixed p x = over x.now (answered x.own.headers (p ++ x.own.said))

pub fed-prefixed : (R : Rules) (T p : List ℕ) (s : InFile (Over Answered)) (bs : List ℕ)
    → fed (headers_step R T) (map_in_file (prefixed p) s) bs ≡ map_in_file (prefixed p) (fed (headers_step R T) s bs)
fed-prefixed R T p s bs = fed_map (over_byte header_at) (over_close header_at (judge_header R T)) (prefixed p) (λ x b. refl) (λ x. rw (append_assoc p x.own.said)) s bs

-- i bytes of a piece have been read
pub record Going (R : Rules) (T : List ℕ) (f : HeadersFile) (bytes header : List ℕ) (old : Out) (present : HeadersFile) (left : List ℕ) (now : Out) (i : ℕ) : Type 0 where
  pub within : i ≤ length bytes
  pub printed : Printed (headers_fed R T f header (take i bytes)) present left old now
  pub room : now.at + line_most ≤ length now.bytes.now

module _ (R : Rules) (T : List ℕ) (f : HeadersFile) (bytes header : List ℕ) (old : Out) where
  pub going_start : old.at + line_most ≤ length old.bytes.now → Going R T f bytes header old f header old 0
  going_start room = record { within = omega arith; printed = printed_none refl (omega arith); room = room }

  -- the bytes of one line more
  pub printed_more : (i used : ℕ) {present next : HeadersFile} {left left' : List ℕ} {mid new : Out}
      → Printed (headers_fed R T f header (take i bytes)) present left old mid
      → Printed (headers_fed R T present left (take used (take (length bytes - i) (drop i bytes)))) next left' mid new
      → Printed (headers_fed R T f header (take (i + used) bytes)) next left' old new
  printed_more i used {present} {next} {left} {left'} {mid} {new} first second =
      let w = (headers_fed R T f header (take i bytes)).at.own.said in
      let part = take used (take (length bytes - i) (drop i bytes)) in
      let t = headers_fed R T present left part in
      let same : headers_in_file present left w ≡ map_in_file (prefixed w) (headers_in_file present left []) = ap (headers_in_file present left) (sym (append-nil w)) in
      let is : headers_fed R T f header (take (i + used) bytes) ≡ map_in_file (prefixed w) t
      = fed_on (headers_step R T) (headers_in_file f header []) bytes i used
      ∙ ap (λ s. fed (headers_step R T) s part) (sym first.reads ∙ same)
      ∙ fed-prefixed R T w (headers_in_file present left []) part in
      subst (λ s. Printed s next left' old new) (sym is) (record { reads = ap (map_in_file (prefixed w)) second.reads; prints = wrote_then first.prints second.prints })

  module _ {present : HeadersFile} {left : List ℕ} {now : Out} {i : ℕ} (going : Going R T f bytes header old present left now i) where
    -- all bytes have been read
    pub piece_all : length bytes ≤ i → HeadersPiece R T f bytes header old (record { file = present; used = i }) left now
    piece_all all = record { most = going.within; some = λ some. omega arith; printed = going.printed }

    module _ (more : i < length bytes) {r : Progress} {left' : List ℕ} {new : Out} (took : HeadersTook R T present (take (length bytes - i) (drop i bytes)) left now r left' new) where
      pub line_taken : (0 < r.used) × (i + r.used ≤ length bytes)
      line_taken = line_on_lem present.reader.cr bytes i more took.used

      -- there is no room for another line
      pub piece_full : HeadersPiece R T f bytes header old (record { file = r.file; used = i + r.used }) left' new
      piece_full =
          record {
            most = line_taken.1;
            some = λ some. omega (arith, line_taken.0);
            printed = printed_more i r.used going.printed took.printed;
          }

      -- there is
      pub going_more : new.at + line_most ≤ length new.bytes.now → Going R T f bytes header old r.file left' new (i + r.used)
      going_more room = record { within = line_taken.1; printed = printed_more i r.used going.printed took.printed; room = room }

-- ---- the file's end
module _ (R : Rules) (T : List ℕ) (f : HeadersFile) (header : List ℕ) (old : Out) {read : LineRead} {left : List ℕ} (took : TookLast 0 f.reader header read left)
    (room : old.at + line_most ≤ length old.bytes.now) where
  pub end_stays : read.ended ≡ false → HeadersEnd R T f header old f.headers old
  end_stays none =
      let is = ap (λ x. x.own) (over_stays header_at (judge_header R T) (answered f.headers []) f.reader header took none) in
      record { headers = ap (λ y. y.headers) is; prints = rw (← ap (λ y. y.said) is) (wrote_none (omega arith)) }

  pub end_answered : read.ended ≡ true → {flaw : Option HeaderFlaw} {new : Out} {headers : HeadersSoFar}
      → flaw ≡ flaw_here R read.reader.line → PutLine old (answer_said R T flaw left) new → headers ≡ counted_by f.headers flaw
      → HeadersEnd R T f header old headers new
  end_answered some {flaw} {new} {headers} why line counts =
      let is : answered (counted_by f.headers flaw) (answer_said R T flaw left) ≡ headers_end R T (headers_in_file f header [])
      = ap (λ g. answered (counted_by f.headers g) (answer_said R T g left)) why
      ∙ ap (λ x. x.own) (over_last header_at (judge_header R T) (answered f.headers []) f.reader header took some) in
      record {
        headers = counts ∙ ap (λ y. y.headers) is;
        prints = subst (λ y. Wrote old y.said new) is (line_wrote line room);
      }
