-- A line's bytes, heard one by one (`specs/Lines.antt` of the crate hearing), are answered as its words are (`answer_to` of
-- `specs/Answers.antt`). The bytes of the first word go to the name's run until a blank ends it. From then on they are the bytes of a line
-- of numbers parted by blanks, which come to its cells (`row_is` of the crate text), and of the flags of the first (`numbers-heard` and
-- `flags_are` of the crate hearing). A name that its run cuts short is too long for any call, and numbers that have no place in theirs
-- are too many.
--     name_heard          the answer to a line by its words, the first going on in the name's run
--     words_answered      which is the answer to its words, in runs as the program has them
--     line_is             both together
-- Assumes nothing.
use Prim.Native.Nat.{ℕ, suc, ◌+◌, ◌≤◌, ◌<◌}
use mathlib.Core.Bool.{Bool, true, false}
use mathlib.Core.List.{List, [], ◌∷◌}
use mathlib.Core.Path.{◌≡◌, refl, sym, ap, ◌∙◌}
use native.Mathlib.Omega.{arith}
use borrow.Author.Tests.{leb-true, leb-false}
use lib.Dec.{leb, eqb}
use lib.ListN.{length, set, take, drop}
use lib.Seq.{sets, sets-eq, length-sets, take_at, length-take-le}
use Rattle.ranges.specs.Numbers.{pick}
use Rattle.text.specs.Cells.{fed}
use Rattle.text.specs.Puts.{Put, place_after}
use Rattle.text.specs.Rows.{fresh, in_front, cells_in, all_numbers, values_of, Reading, begin, ended, read_byte, read_cells}
use Rattle.text.proofs.Puts.{put_then}
use Rattle.text.proofs.Rows.{row_is}
use Rattle.text.proofs.Counted.{cells_good, cells_count, cells_run, cells_long, many_either, values_length}
use Rattle.words.specs.Limits.{line_room, name_room}
use Rattle.hearing.specs.Flags.{flags_in, number_in}
use Rattle.hearing.specs.Lines.{heard, unheard, line_of, name_ends, name_takes, heard_byte}
use Rattle.hearing.specs.declared.flags.Flags.{Flags}
use Rattle.hearing.specs.declared.flags.Flags.TheVariants.{Without}
use Rattle.hearing.proofs.Dates.{flags_are}
use Rattle.hearing.proofs.FirstNumber.{numbered, numbers-heard, first_of, on_first, stripped, stripped_cells}
use Rattle.calls.specs.Names.{word_of}
use Rattle.words.specs.Words.{bad_said}
use Rattle.calls.specs.Answers.{flagged_said, words_said, answer_to, named_said, answer_said}
use Rattle.words.proofs.Longest.{table_most_lem}
use Rattle.calls.proofs.Names.{name_over}
use Rattle.calls.proofs.Answers.{unnamed, ill_read, crowded, called, call_over}

-- ---- the numbers
-- the answer by what the flags of the first and the numbers' cells come to
abbrev cells_said : ℕ → List ℕ → Flags → Reading → List ℕ
cells_said k name flags e = named_said k name flags e.row e.run

-- a line's first number without its flags, and the others
abbrev number_cells : List (List ℕ) → List (List ℕ)
number_cells cs = on_first number_in cs

-- the answer by a line's cells, where its name has ended at place k of its run
abbrev numbers_said : ℕ → List ℕ → List ℕ → List (List ℕ) → List ℕ
numbers_said k name numbers cs = cells_said k name (flags_in (first_of cs)) (read_cells 0 (begin numbers) (number_cells cs))

numbers_said_lem : (l : List ℕ) (k : ℕ) (name numbers : List ℕ)
    → answer_said (fed heard_byte (numbered k name Without (begin numbers)) l) ≡ numbers_said k name numbers (cells_in 32 l)
unfolding answer_said
numbers_said_lem l k name numbers =
    let first = first_of (cells_in 32 l) in
    ap answer_said (numbers-heard k name l (begin numbers) refl)
    ∙ ap (λ flags. cells_said k name flags (ended 0 (fed (read_byte 32 0) (begin numbers) (stripped l)))) (flags_are first)
    ∙ ap (cells_said k name (flags_in first)) (row_is 32 0 numbers (stripped l))
    ∙ ap (λ cs. cells_said k name (flags_in first) (read_cells 0 (begin numbers) cs)) (stripped_cells l)

-- ---- the name
-- the answer by the words, where the first goes on from place k of the name's run
abbrev words_on : ℕ → List ℕ → List ℕ → List (List ℕ) → List ℕ
words_on k name numbers [] = bad_said
words_on k name numbers (w ∷ []) = bad_said
words_on k name numbers (w ∷ c ∷ cs) = numbers_said (place_after (length name) k (length w)) (sets name k w) numbers (c ∷ cs)

-- a line has a word at least
cells_some : (by : ℕ) (l : List ℕ) → 0 < length (cells_in by l)
cells_some by [] = omega arith
cells_some by (b ∷ l) = go (eqb b by) (cells_in by l)
  where
    go : (t : Bool) (cs : List (List ℕ)) → 0 < length (pick t ([] ∷ cs) (in_front b cs))
    go true cs = omega arith
    go false [] = omega arith
    go false (c ∷ cs) = omega arith

-- a blank ends the name
name_ended : (k : ℕ) (name numbers : List ℕ) (cs : List (List ℕ)) → 0 < length cs
    → numbers_said k name numbers cs ≡ words_on k name numbers ([] ∷ cs)
name_ended k name numbers [] some = absurd (omega arith)
name_ended k name numbers (c ∷ cs) some =
    let same : k ≡ place_after (length name) k 0 = omega arith in
    ap (λ j. numbers_said j name numbers (c ∷ cs)) same

-- the name takes a byte
put_as : (out : List ℕ) (at : ℕ) (bs : List ℕ) → Put out at bs (sets out at bs) (place_after (length out) at (length bs))
put_as out at bs = record { place = refl; bytes = refl }

name_taken : (k b : ℕ) (name numbers : List ℕ) (cs : List (List ℕ))
    → words_on (place_after (length name) k 1) (set name k b) numbers cs ≡ words_on k name numbers (in_front b cs)
name_taken k b name numbers [] = refl
name_taken k b name numbers (w ∷ []) = refl
name_taken k b name numbers (w ∷ c ∷ cs) =
    let put = put_then (put_as name k (b ∷ [])) (put_as (set name k b) (place_after (length name) k 1) w) in
    ap (λ j. numbers_said j (sets (set name k b) (place_after (length name) k 1) w) numbers (c ∷ cs)) put.place
    ∙ ap (λ n. numbers_said (place_after (length name) k (suc (length w))) n numbers (c ∷ cs)) put.bytes

name_heard : (l : List ℕ) (k : ℕ) (name numbers : List ℕ)
    → answer_said (fed heard_byte (heard (line_of false k Without fresh) name numbers) l) ≡ words_on k name numbers (cells_in 32 l)
unfolding heard_byte
name_heard [] k name numbers = unnamed (line_of false k Without fresh) name numbers refl
name_heard (b ∷ l) k name numbers = go (eqb b 32) (name_heard l)
  where
    go : (t : Bool)
        → ((j : ℕ) (n ns : List ℕ) → answer_said (fed heard_byte (heard (line_of false j Without fresh) n ns) l) ≡ words_on j n ns (cells_in 32 l))
        → answer_said (fed heard_byte (pick t (name_ends (heard (line_of false k Without fresh) name numbers)) (name_takes (heard (line_of false k Without fresh) name numbers) b)) l)
        ≡ words_on k name numbers (pick t ([] ∷ cells_in 32 l) (in_front b (cells_in 32 l)))
    go true follow = numbers_said_lem l k name numbers ∙ name_ended k name numbers (cells_in 32 l) (cells_some 32 l)
    go false follow = follow (place_after (length name) k 1) (set name k b) numbers ∙ name_taken k b name numbers (cells_in 32 l)

-- the front of a run, where so many values were put
front-put : (run vs : List ℕ) (k : ℕ) → length vs ≡ k → k ≤ length run → take k (sets run 0 vs) ≡ vs
front-put run vs k is fits = ap (take k) (sets-eq vs run 0 (omega arith)) ∙ take_at vs (drop (0 + length vs) run) k is

-- runs as the program has them, whatever they hold at first
module _ (name numbers : List ℕ) (long : length name ≡ name_room) (many : length numbers ≡ line_room) where
  -- a name that is cut short asks for no call, nor does the whole name
  name_asks : (w : List ℕ) → word_of (take (place_after (length name) 0 (length w)) (sets name 0 w)) ≡ word_of w
  name_asks w = go (leb (length w) name_room) refl
    where
      go : (t : Bool) → leb (length w) name_room ≡ t → word_of (take (place_after (length name) 0 (length w)) (sets name 0 w)) ≡ word_of w
      go true e =
          let few = leb-true (length w) name_room e in
          let whole : place_after (length name) 0 (length w) ≡ length w = omega arith in
          ap (λ j. word_of (take j (sets name 0 w))) whole ∙ ap word_of (front-put name w (length w) refl (omega arith))
      go false e =
          let over = leb-false (length w) name_room e in
          let cut : place_after (length name) 0 (length w) ≡ name_room = omega arith in
          let room : name_room ≤ length (sets name 0 w) = omega (arith, length-sets name 0 w) in
          let size : length (take name_room (sets name 0 w)) ≡ name_room = length-take-le name_room (sets name 0 w) room in
          ap (λ j. word_of (take j (sets name 0 w))) cut ∙ name_over (take name_room (sets name 0 w)) (omega arith) ∙ sym (name_over w (omega arith))

  -- what the cells come to
  abbrev come : List (List ℕ) → Reading
  come cs = read_cells 0 (begin numbers) cs

  come_long : (cs : List (List ℕ)) → length (come cs).run ≡ line_room
  come_long cs = cells_long cs 0 (begin numbers) ∙ many

  come_few : (cs : List (List ℕ)) → length cs ≤ line_room → (come cs).row.cells ≡ length cs
  come_few cs few =
      cells_count 0 (begin numbers) cs
      ∙ many_either cs (λ exact. exact) (λ large past parity. absurd (omega (arith, table_most_lem)))

  come-over : (cs : List (List ℕ)) → line_room < length cs → line_room < (come cs).row.cells
  come-over cs over =
      let count = cells_count 0 (begin numbers) cs in
      many_either cs (λ exact. omega (arith, count)) (λ large past parity. omega (arith, count, table_most_lem))

  -- a name, the flags of the first number, and the cells, each way
  cells_answered : (w : List ℕ) (flags : Flags) (cs : List (List ℕ))
      → cells_said (place_after (length name) 0 (length w)) (sets name 0 w) flags (come cs) ≡ pick (all_numbers cs) (flagged_said (word_of w) flags (values_of cs)) bad_said
  cells_answered w flags cs = go (all_numbers cs) (leb (length cs) line_room) refl refl
    where
      k : ℕ
      k = place_after (length name) 0 (length w)

      go : (s t : Bool) → all_numbers cs ≡ s → leb (length cs) line_room ≡ t
          → cells_said k (sets name 0 w) flags (come cs) ≡ pick s (flagged_said (word_of w) flags (values_of cs)) bad_said
      go false t p q = rw (ill_read k (sets name 0 w) (come cs).row (come cs).run (cells_good 0 numbers cs ∙ p))
      go true false p q =
          let over = leb-false (length cs) line_room q in
          let good = cells_good 0 numbers cs ∙ p in
          let past : length (come cs).run < (come cs).row.cells = omega (arith, come_long cs, come-over cs over) in
          let past' : line_room < length (values_of cs) = omega (arith, values_length cs) in
          rw (crowded k (sets name 0 w) (come cs).row (come cs).run good past) (sym (call_over (word_of w) flags (values_of cs) past'))
      go true true p q =
          let few = leb-true (length cs) line_room q in
          let good = cells_good 0 numbers cs ∙ p in
          let count = come_few cs few in
          let fits : (come cs).row.cells ≤ length (come cs).run = omega (arith, come_long cs) in
          let within : k ≤ length (sets name 0 w) = omega (arith, length-sets name 0 w) in
          let run : (come cs).run ≡ sets numbers 0 (values_of cs) = cells_run cs 0 (begin numbers) p (omega (arith, table_most_lem)) in
          let front : take (length cs) (sets numbers 0 (values_of cs)) ≡ values_of cs = front-put numbers (values_of cs) (length cs) (values_length cs) (omega arith) in
          rw (called k (sets name 0 w) (come cs).row (come cs).run good fits within)
          (ap (λ v. flagged_said v flags (take (come cs).row.cells (come cs).run)) (name_asks w)
          ∙ ap (λ j. flagged_said (word_of w) flags (take j (come cs).run)) count
          ∙ ap (λ r. flagged_said (word_of w) flags (take (length cs) r)) run
          ∙ ap (flagged_said (word_of w) flags) front)

  words_answered : (ws : List (List ℕ)) → words_on 0 name numbers ws ≡ words_said ws
  words_answered [] = refl
  words_answered (w ∷ []) = refl
  words_answered (w ∷ c ∷ cs) = cells_answered w (flags_in c) (number_in c ∷ cs)

-- whatever the runs for its name and its numbers hold at first
pub line_is : (name numbers : List ℕ) → length name ≡ name_room → length numbers ≡ line_room → (line : List ℕ)
    → answer_said (fed heard_byte (heard unheard name numbers) line) ≡ answer_to line
line_is name numbers long many line = name_heard line 0 name numbers ∙ words_answered name numbers long many (cells_in 32 line)
