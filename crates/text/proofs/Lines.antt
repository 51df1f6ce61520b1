-- Laws of a line of CSV cells as its reader holds it (`specs/Lines.antt`), and the statement that its bytes come to it.
--     Going, going_start, going_more, going_ends, going_all               bytes to the end of the present line
--     line_is                             all bytes of a line
-- Assumes nothing.
use Prim.Native.Nat.{ℕ, suc, ◌+◌, ◌≤◌, ◌<◌}
use mathlib.Core.Bool.{Bool, true, false}
use mathlib.Core.List.{List, [], ◌∷◌}
use mathlib.Core.Path.{◌≡◌, refl, sym, ap, ◌∙◌}
use native.Mathlib.Omega.{arith}
use borrow.Author.Tests.{ne_eqb, eqb-true}
use lib.Dec.{eqb}
use lib.ListN.{length, get_or, take, drop, drop_of_length-le}
use lib.Seq.{drop-cons}
use Rattle.ranges.specs.Numbers.{pick}
use Rattle.text.specs.Cells.{fed}
use Rattle.text.specs.Rows.{begin, ended, within, read_byte, read_cells}
use Rattle.text.specs.Files.{ends_line, open_byte, line_in, ends_in}
use Rattle.text.specs.Lines.{feed_in, cells_of, line_of, no_line, LineNow, line_now, in_file_now, reading, has_feed, cell_ended, byte_taken, line_byte, line_step, TookLine, whole_line}
use Rattle.text.specs.declared.line.Line.{Line}
use Rattle.text.specs.declared.line.Reader.{Reader}
use Rattle.text.proofs.Feeding.{fed_more}
use Rattle.text.proofs.Rows.{row_is}
use Rattle.text.proofs.Files.{open_waits, step_ends, step_open, line_empty, line_ends, line_more}

-- ---- one byte
has_feed_lem : (feed : Bool) (b : ℕ) → has_feed feed b ≡ pick (eqb b 10) true feed
unfolding has_feed
has_feed_lem feed b = refl

pub feed_before : (feed : Bool) (b : ℕ) → (b ≡ 10 → ⊥) → has_feed feed b ≡ feed
unfolding has_feed
feed_before feed b other = rw (ne_eqb b 10 other)

-- ---- bytes to the end of the present line
-- i bytes have been read, and the line has not ended in them
pub record Going (from : ℕ) (r : Reader) (bytes run : List ℕ) (present : Reader) (left : List ℕ) (i : ℕ) : Type 0 where
  pub line : in_file_now present left ≡ fed (line_step from) (in_file_now r run) (take i bytes)
  pub used : line_in r.cr bytes ≡ i + line_in present.cr (drop i bytes)
  pub ended : ends_in r.cr bytes ≡ ends_in present.cr (drop i bytes)

module _ (from : ℕ) (r : Reader) (bytes run : List ℕ) where
  pub going_start : Going from r bytes run r run 0
  going_start = record { line = refl; used = omega arith; ended = refl }

  module _ {present : Reader} {left : List ℕ} {i : ℕ} (going : Going from r bytes run present left i) where
    -- all bytes
    pub going_all : i ≡ length bytes → TookLine from r bytes run (record { reader = present; used = length bytes; ended = false }) left
    going_all is =
        let all : length bytes ≤ i = omega arith in
        let rest : drop i bytes ≡ [] = drop_of_length-le bytes all in
        let none = line_empty present.cr in
        record {
          used = let left : line_in present.cr (drop i bytes) ≡ 0 = ap (line_in present.cr) rest ∙ none.0 in omega (arith, going.used);
          ended = sym (going.ended ∙ ap (ends_in present.cr) rest ∙ none.1);
          line = rw (← is) going.line;
        }

    module _ (more : i < length bytes) where
      abbrev here : ℕ
      here = get_or bytes i 0

      next_byte : drop i bytes ≡ here ∷ drop (suc i) bytes
      next_byte = drop-cons bytes i 0 more

      -- the line's end
      pub going_ends : ends_line present.cr here ≡ true → {y : Line} {after : List ℕ} → line_now y after ≡ cell_ended from (line_now present.line left)
          → TookLine from r bytes run (record { reader = record { cr = false; line = y }; used = i + 1; ended = true }) after
      going_ends ends {y} {after} closed =
          let stops = line_ends present.cr here (drop (suc i) bytes) ends in
          record {
            used = let is : line_in present.cr (drop i bytes) ≡ 1 = ap (line_in present.cr) next_byte ∙ stops.0 in omega (arith, going.used);
            ended = sym (going.ended ∙ ap (ends_in present.cr) next_byte ∙ stops.1);
            line =
                sym (fed_more (line_step from) (in_file_now r run) bytes i more
                ∙ ap (λ s. line_step from s here) (sym going.line)
                ∙ step_ends (line_byte from) (in_file_now present left) here (cell_ended from) ends closed);
          }

      -- another byte
      pub going_more : ends_line present.cr here ≡ false → {next : Reader} {after : List ℕ}
          → in_file_now next after ≡ open_byte (line_byte from) (in_file_now present left) here → Going from r bytes run next after (i + 1)
      going_more goes {next} {after} read =
          let on = line_more present.cr here (drop (suc i) bytes) goes in
          let waits : next.cr ≡ eqb here 13 = ap (λ s. s.cr) read ∙ open_waits (line_byte from) (in_file_now present left) here in
          let one : i + 1 ≡ suc i = omega arith in
          let used : line_in present.cr (drop i bytes) ≡ suc (line_in next.cr (drop (i + 1) bytes)) = rw (waits, one) (ap (line_in present.cr) next_byte ∙ on.0) in
          record {
            line =
                sym (fed_more (line_step from) (in_file_now r run) bytes i more
                ∙ ap (λ s. line_step from s here) (sym going.line)
                ∙ step_open (line_byte from) (in_file_now present left) here (cell_ended from) goes
                ∙ sym read);
            used = omega (arith, going.used);
            ended = rw (waits, one) (going.ended ∙ ap (ends_in present.cr) next_byte ∙ on.1);
          }

-- ---- all bytes of a line
-- its cells
byte_reads : (from : ℕ) (s : LineNow) (b : ℕ) → reading (line_byte from s b) ≡ read_byte 44 from (reading s) b
unfolding line_byte cell_ended read_byte
byte_reads from s b = go (eqb b 44)
  where
    go : (t : Bool)
        → reading (pick t (cell_ended from s) (line_now (byte_taken s.line b) s.run))
        ≡ pick t (ended from (reading s)) (within (reading s) b)
    go true = refl
    go false = refl

bytes_read : (from : ℕ) (l : List ℕ) (s : LineNow) → reading (fed (line_byte from) s l) ≡ fed (read_byte 44 from) (reading s) l
bytes_read from [] s = refl
bytes_read from (b ∷ l) s = bytes_read from l (line_byte from s b) ∙ ap (λ r. fed (read_byte 44 from) r l) (byte_reads from s b)

-- whether an LF stands in it: a comma is none
byte_feeds : (from : ℕ) (s : LineNow) (b : ℕ) → (line_byte from s b).line.feed ≡ has_feed s.line.feed b
unfolding line_byte cell_ended
byte_feeds from s b = go (eqb b 44) refl
  where
    go : (t : Bool) → eqb b 44 ≡ t → (pick t (cell_ended from s) (line_now (byte_taken s.line b) s.run)).line.feed ≡ has_feed s.line.feed b
    go true e = let comma = eqb-true b 44 e in let other : b ≡ 10 → ⊥ = λ z. omega arith in sym (feed_before s.line.feed b other)
    go false e = refl

bytes_feed : (from : ℕ) (l : List ℕ) (s : LineNow) → (fed (line_byte from) s l).line.feed ≡ pick s.line.feed true (feed_in l)
bytes_feed from [] s = go s.line.feed
  where
    go : (t : Bool) → t ≡ pick t true false
    go true = refl
    go false = refl
bytes_feed from (b ∷ l) s = bytes_feed from l (line_byte from s b) ∙ ap (λ t. pick t true (feed_in l)) (byte_feeds from s b) ∙ go s.line.feed
  where
    either : (t u : Bool) → pick (pick u true t) true (feed_in l) ≡ pick t true (pick u true (feed_in l))
    either true true = refl
    either true false = refl
    either false true = refl
    either false false = refl

    go : (t : Bool) → pick (has_feed t b) true (feed_in l) ≡ pick t true (pick (eqb b 10) true (feed_in l))
    go t = ap (λ u. pick u true (feed_in l)) (has_feed_lem t b) ∙ either t (eqb b 10)

-- a line read byte by byte from nothing, once its last cell has ended
pub line_is : (from : ℕ) (run l : List ℕ) → cell_ended from (fed (line_byte from) (line_now no_line run) l) ≡ whole_line from run l
unfolding cell_ended
line_is from run l =
    let s = fed (line_byte from) (line_now no_line run) l in
    let cells : ended from (reading s) ≡ read_cells from (begin run) (cells_of l) = ap (ended from) (bytes_read from l (line_now no_line run)) ∙ row_is 44 from run l in
    ap (λ r. line_now (line_of true s.line.feed r.row) r.run) cells
    ∙ ap (λ t. line_now (line_of true t (read_cells from (begin run) (cells_of l)).row) (read_cells from (begin run) (cells_of l)).run) (bytes_feed from l (line_now no_line run))
