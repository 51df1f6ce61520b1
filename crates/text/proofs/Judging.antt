-- A file of CSV lines, each read by the reader and judged at its end (`specs/Judging.antt`).
--     over_open, over_ends          bytes that the reader took: the line goes on, or it ends and is judged
--     over_stays, over_last         the file's end: no line was left, or the last is judged
--     judged_is                     a whole file: its lines, judged one after the other
-- Assumes nothing.
use Prim.Native.Nat.{ℕ}
use mathlib.Core.Bool.{Bool, true, false}
use mathlib.Core.List.{List, [], ◌∷◌}
use mathlib.Core.Path.{◌≡◌, refl, sym, ap, ◌∙◌, subst}
use lib.Dec.{eqb}
use lib.ListN.{take}
use Rattle.ranges.specs.Numbers.{pick}
use Rattle.text.specs.Cells.{fed}
use Rattle.text.specs.Files.{lines_of, InFile, in_file, plain, ends_line, open_byte, line_in, ends_in, last_line, finish, over_lines}
use Rattle.text.specs.Lines.{no_line, LineNow, line_now, in_file_now, cell_ended, byte_taken, line_byte, line_step, line_begun, line_left, line_last, TookLine, TookLast, whole_line}
use Rattle.text.specs.Judging.{Judged, Over, over, over_in, anew, over_byte, over_close, over_begun, over_step, over_end, judged_lines}
use Rattle.text.specs.declared.line.Reader.{Reader}
use Rattle.text.specs.declared.line.LineRead.{LineRead}
use Rattle.text.proofs.Files.{open_waits, step_ends, step_open, line_empty, line_ends, line_more, file_is}
use Rattle.text.proofs.Lines.{line_is}

module _ {Y : Type 0} (from : Y → ℕ) (judge : Y → LineNow → Judged Y) where
  -- a reader's state with y beside it
  abbrev beside : Y → InFile LineNow → InFile (Over Y)
  beside y s = in_file s.cr (over s.at y)

  -- ---- bytes that the reader took
  plain-beside : (y : Y) (l : LineNow) (b : ℕ) → plain (over_byte from) (over l y) b ≡ beside y (plain (line_byte (from y)) l b)
  unfolding plain
  plain-beside y l b = go (eqb b 13)
    where
      go : (t : Bool)
          → pick t (in_file true (over l y)) (in_file false (over (line_byte (from y) l b) y)) ≡ beside y (pick t (in_file true l) (in_file false (line_byte (from y) l b)))
      go true = refl
      go false = refl

  open_beside : (y : Y) (s : InFile LineNow) (b : ℕ) → open_byte (over_byte from) (beside y s) b ≡ beside y (open_byte (line_byte (from y)) s b)
  unfolding open_byte
  open_beside y s b = go s.cr
    where
      go : (t : Bool)
          → pick t (plain (over_byte from) (over (line_byte (from y) s.at 13) y) b) (plain (over_byte from) (over s.at y) b)
          ≡ beside y (pick t (plain (line_byte (from y)) (line_byte (from y) s.at 13) b) (plain (line_byte (from y)) s.at b))
      go true = plain-beside y (line_byte (from y) s.at 13) b
      go false = plain-beside y s.at b

  -- what the reader left, where its line has ended or not
  abbrev afterwards : Y → Bool → InFile LineNow → InFile (Over Y)
  afterwards y t s = pick t (in_file false (anew (judge y s.at))) (beside y s)

  -- what is to be shown of bytes, where a CR waits or not
  abbrev ClaimAt : Y → List ℕ → InFile LineNow → Bool → Type 0
  ClaimAt y bs s t =
      fed (over_step from judge) (beside y s) (take (line_in t bs) bs) ≡ afterwards y (ends_in t bs) (fed (line_step (from y)) s (take (line_in t bs) bs))

  abbrev Claim : Y → List ℕ → InFile LineNow → Type 0
  Claim y bs s = ClaimAt y bs s s.cr

  no_bytes_lem : (y : Y) (s : InFile LineNow) → Claim y [] s
  no_bytes_lem y s = rw ((line_empty s.cr).0, (line_empty s.cr).1)

  one_byte : (y : Y) (b : ℕ) (bs : List ℕ) (s : InFile LineNow) → Claim y bs (line_step (from y) s b) → Claim y (b ∷ bs) s
  one_byte y b bs s follow = go (ends_line s.cr b) refl
    where
      go : (t : Bool) → ends_line s.cr b ≡ t → Claim y (b ∷ bs) s
      go true e =
          let stops = line_ends s.cr b bs e in
          rw (stops.0, stops.1, step_ends (over_byte from) (beside y s) b (over_close from judge) e refl, step_ends (line_byte (from y)) s b (cell_ended (from y)) e refl)
      go false e =
          let on = line_more s.cr b bs e in
          let opened = step_open (line_byte (from y)) s b (cell_ended (from y)) e in
          let waits : (line_step (from y) s b).cr ≡ eqb b 13 = ap (λ r. r.cr) opened ∙ open_waits (line_byte (from y)) s b in
          let same : over_step from judge (beside y s) b ≡ beside y (line_step (from y) s b)
          = step_open (over_byte from) (beside y s) b (over_close from judge) e ∙ open_beside y s b ∙ ap (beside y) (sym opened) in
          rw (on.0, on.1) (ap (λ x. fed (over_step from judge) x (take (line_in (eqb b 13) bs) bs)) same ∙ subst (ClaimAt y bs (line_step (from y) s b)) waits follow)

  took_all : (y : Y) (bs : List ℕ) (s : InFile LineNow) → Claim y bs s
  took_all y [] s = no_bytes_lem y s
  took_all y (b ∷ bs) s = one_byte y b bs s (took_all y bs (line_step (from y) s b))

  module _ (y : Y) (r : Reader) (bytes run : List ℕ) {read : LineRead} {after : List ℕ} (took : TookLine (from y) r bytes run read after) where
    -- y is what the lines before come to
    took_is : fed (over_step from judge) (over_in r run y) (take read.used bytes) ≡ afterwards y read.ended (in_file_now read.reader after)
    took_is =
        ap (λ k. fed (over_step from judge) (over_in r run y) (take k bytes)) took.used
        ∙ took_all y bytes (in_file_now r run)
        ∙ ap (λ k. afterwards y (ends_in r.cr bytes) (fed (line_step (from y)) (in_file_now r run) (take k bytes))) (sym took.used)
        ∙ ap (λ t. afterwards y t (fed (line_step (from y)) (in_file_now r run) (take read.used bytes))) (sym took.ended)
        ∙ ap (afterwards y read.ended) (sym took.line)

    pub over_open : read.ended ≡ false → over_in read.reader after y ≡ fed (over_step from judge) (over_in r run y) (take read.used bytes)
    over_open goes = sym (took_is ∙ ap (λ t. afterwards y t (in_file_now read.reader after)) goes)

    pub over_ends : read.ended ≡ true
        → in_file false (anew (judge y (line_now read.reader.line after))) ≡ fed (over_step from judge) (over_in r run y) (take read.used bytes)
    over_ends ends = sym (took_is ∙ ap (λ t. afterwards y t (in_file_now read.reader after)) ends)

  -- ---- the file's end
  begins : (x : Over Y) (b : ℕ) → (line_byte (from x.own) x.now b).line.begun ≡ true
  unfolding line_byte cell_ended
  begins x b = go (eqb b 44)
    where
      go : (t : Bool) → (pick t (cell_ended (from x.own) x.now) (line_now (byte_taken x.now.line b) x.now.run)).line.begun ≡ true
      go true = refl
      go false = refl

  module _ (y : Y) (r : Reader) (run : List ℕ) {read : LineRead} {after : List ℕ} (took : TookLast (from y) r run read after) where
    left_is : over_end from judge (over_in r run y)
        ≡ pick (line_begun (line_left (from y) (in_file_now r run))) (anew (judge y (cell_ended (from y) (line_left (from y) (in_file_now r run))))) (over (line_left (from y) (in_file_now r run)) y)
    unfolding finish last_line
    left_is = go r.cr
      where
        go : (t : Bool)
            → last_line (over_close from judge) over_begun (pick t (over (line_byte (from y) (line_now r.line run) 13) y) (over (line_now r.line run) y))
            ≡ pick (line_begun (pick t (line_byte (from y) (line_now r.line run) 13) (line_now r.line run)))
            (anew (judge y (cell_ended (from y) (pick t (line_byte (from y) (line_now r.line run) 13) (line_now r.line run)))))
            (over (pick t (line_byte (from y) (line_now r.line run) 13) (line_now r.line run)) y)
        go true = refl
        go false = refl

    last_is : line_now read.reader.line after ≡ line_last (from y) (in_file_now r run)
    last_is = ap (λ s. s.at) took.line

    -- no line is left
    pub over_stays : read.ended ≡ false → over (line_now read.reader.line after) y ≡ over_end from judge (over_in r run y)
    unfolding last_line
    over_stays none =
        let begun : line_begun (line_left (from y) (in_file_now r run)) ≡ false = sym took.ended ∙ none in
        ap (λ l. over l y) last_is ∙ rw (left_is, begun)

    -- the last line is judged
    pub over_last : read.ended ≡ true → anew (judge y (line_now read.reader.line after)) ≡ over_end from judge (over_in r run y)
    unfolding last_line
    over_last some =
        let begun : line_begun (line_left (from y) (in_file_now r run)) ≡ true = sym took.ended ∙ some in
        ap (λ l. anew (judge y l)) last_is ∙ rw (left_is, begun)

  -- ---- a whole file
  closed_stays : (x : Over Y) → last_line (over_close from judge) over_begun (over_close from judge x) ≡ over_close from judge x
  unfolding last_line
  closed_stays x = refl

  begun_closes : (x : Over Y) (b : ℕ) → last_line (over_close from judge) over_begun (over_byte from x b) ≡ over_close from judge (over_byte from x b)
  unfolding last_line
  begun_closes x b = rw (begins x b)

  bytes-beside : (l : List ℕ) (n : LineNow) (y : Y) → fed (over_byte from) (over n y) l ≡ over (fed (line_byte (from y)) n l) y
  bytes-beside [] n y = refl
  bytes-beside (b ∷ l) n y = bytes-beside l (line_byte (from y) n b) y

  line_judged : (run l : List ℕ) (y : Y) → over_close from judge (fed (over_byte from) (over (line_now no_line run) y) l) ≡ anew (judge y (whole_line (from y) run l))
  line_judged run l y = ap (over_close from judge) (bytes-beside l (line_now no_line run) y) ∙ ap (λ w. anew (judge y w)) (line_is (from y) run l)

  lines_judged : (ls : List (List ℕ)) (run : List ℕ) (y : Y)
      → over_lines (over_byte from) (over_close from judge) over_begun (over (line_now no_line run) y) ls ≡ anew (judged_lines from judge y run ls)
  unfolding last_line
  lines_judged [] run y = refl
  lines_judged (l ∷ ls) run y =
      ap (λ x. over_lines (over_byte from) (over_close from judge) over_begun x ls) (line_judged run l y)
      ∙ lines_judged ls (judge y (whole_line (from y) run l)).run (judge y (whole_line (from y) run l)).own

  -- a file's bytes, read one by one from nothing, are its lines judged one after the other
  pub judged_is : (bs run : List ℕ) (y : Y)
      → over_end from judge (fed (over_step from judge) (in_file false (over (line_now no_line run) y)) bs) ≡ anew (judged_lines from judge y run (lines_of bs))
  judged_is bs run y =
      file_is (over_byte from) (over_close from judge) over_begun closed_stays begun_closes bs (over (line_now no_line run) y) ∙ lines_judged (lines_of bs) run y
