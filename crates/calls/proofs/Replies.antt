-- Laws of serving line by line (`specs/Replies.antt`).
--     turn_most, came_more                 the first bytes are served: one turn of the loop
--     lines_full, lines_all                serving ends: there is no more room, or all bytes are served; the run is given back
--     served_lines                         no more bytes are served than there are, and some
--     last_none, last_some                 the input's end
-- Assumes nothing.
use Prim.Native.Nat.{ℕ, ◌+◌, ◌-◌, ◌≤◌, ◌<◌}
use mathlib.Core.Bool.{true, false}
use mathlib.Core.List.{List, [], ◌++◌}
use mathlib.Core.Path.{◌≡◌, refl, sym, ap, ◌∙◌}
use native.Mathlib.Omega.{arith}
use borrow.Author.Tests.{leb-true}
use lib.ListN.{length, take, drop, length-append, length-drop}
use lib.Seq.{take-add, drop-drop, drop-length}
use Rattle.ranges.specs.Numbers.{pick}
use Rattle.text.specs.Cells.{fed}
use Rattle.text.specs.Puts.{Puts, place_after}
use Rattle.text.specs.declared.put.Out.{Out}
use Rattle.text.proofs.Feeding.{fed_append}
use Rattle.text.proofs.Puts.{put_no_byte, put_long, puts_then}
use Rattle.words.specs.Limits.{answer_most}
use Rattle.phrases.specs.Few.{PutFew}
use Rattle.words.proofs.Lent.{rest_lent}
use Rattle.phrases.proofs.Few.{all-put, all_few_put}
use Rattle.hearing.specs.Lines.{Heard}
use Rattle.calls.specs.Answers.{answer_left}
use Rattle.calls.specs.Replies.{line_said, served_byte, said_to, room_at, served_to, ServedLines, begun_line, ServedLast}
use Rattle.calls.specs.Serving.{Served}
use Rattle.calls.proofs.Serving.{said_append, end_most, end_some, turn_to, served_turn, served_most, served_some}

-- ---- room
module _ (n at : ℕ) where
  room_told : room_at n at ≡ true → at + answer_most ≤ n
  unfolding room_at
  room_told e = leb-true (at + answer_most) n e

-- ---- the first bytes are served
-- nothing of what is said was left out before a place, and there is room after it
pub record RoomLeft (said : List ℕ) (n at : ℕ) : Type 0 where
  pub none_lost : length said ≤ at
  pub room : at + answer_most ≤ n

-- the first `next` bytes: as many at least are served in all
pub record Came (s : Heard) (bytes : List ℕ) (old : Out) (t : Heard) (next : ℕ) (new : Out) : Type 0 where
  pub few : next ≤ length bytes
  pub left : t ≡ fed served_byte s (take next bytes)
  pub said : Puts old (said_to s (take next bytes)) new
  pub count : served_to (length old.bytes.now) old.at s bytes ≡ next + served_to (length old.bytes.now) new.at t (drop next bytes)
  pub room : old.at ≡ 0 → answer_most ≤ length old.bytes.now → RoomLeft (said_to s (take next bytes)) (length old.bytes.now) new.at

add_again : (a b c : ℕ) → a + (b + c) ≡ a + b + c
add_again a b c = omega arith

-- one turn: what was served before, and then the rest up to a line's end
module _ {s : Heard} {bytes : List ℕ} {old : Out} {t : Heard} {from : ℕ} {mid : Out} (came : Came s bytes old t from mid)
    {u : Heard} {n : ℕ} {new : Out} (served : Served t (take (length bytes - from) (drop from bytes)) mid u n new) where
  abbrev size : ℕ
  size = length old.bytes.now

  rest : Served t (drop from bytes) mid u n new
  rest = rw (rest_lent bytes from) at served

  pub turn_most : from + n ≤ length bytes
  turn_most = omega (arith, rest.count, end_most (drop from bytes), length-drop from bytes, came.few)

  pub turn_some : from < length bytes → 0 < n
  turn_some lt =
      let some : 0 < length (drop from bytes) = omega (arith, length-drop from bytes) in
      omega (arith, rest.count, end_some (drop from bytes) some)

  turn_left : u ≡ fed served_byte s (take (from + n) bytes)
  turn_left =
      rest.left
      ∙ ap (λ h. fed served_byte h (take n (drop from bytes))) came.left
      ∙ sym (fed_append served_byte s (take from bytes) (take n (drop from bytes)))
      ∙ ap (fed served_byte s) (sym (take-add from n bytes))

  turn_is : said_to s (take (from + n) bytes) ≡ said_to s (take from bytes) ++ said_to t (take n (drop from bytes))
  turn_is =
      ap (said_to s) (take-add from n bytes)
      ∙ said_append (take from bytes) (take n (drop from bytes)) s
      ∙ ap (λ h. said_to s (take from bytes) ++ said_to h (take n (drop from bytes))) (sym came.left)

  turn_said : Puts old (said_to s (take (from + n) bytes)) new
  turn_said = rw turn_is (puts_then came.said rest.said.puts)

  mid_size : length mid.bytes.now ≡ size
  mid_size = put_long came.said.put

  new_size : length new.bytes.now ≡ size
  new_size = put_long turn_said.put

  -- an answer fits the room
  turn_fits : old.at ≡ 0 → answer_most ≤ size → length (said_to s (take (from + n) bytes)) ≤ new.at
  turn_fits start enough =
      let left = came.room start enough in
      let before = left.none_lost in
      let room = left.room in
      let place = rest.said.puts.put.place in
      let same = mid_size in
      rw (turn_is, length-append (said_to s (take from bytes)) (said_to t (take n (drop from bytes)))) (omega (arith, rest.said.few))

  -- and then as many as are served where there is room for one more answer
  turn_count : served_to size old.at s bytes ≡ from + n + pick (room_at (length new.bytes.now) new.at) (served_to size new.at u (drop (from + n) bytes)) 0
  turn_count =
      let end_is : new.at ≡ place_after size mid.at (length (said_to t (take n (drop from bytes))))
      = rest.said.puts.put.place ∙ ap (λ k. place_after k mid.at (length (said_to t (take n (drop from bytes))))) mid_size in
      came.count
      ∙ ap (λ k. from + k) (served_turn (drop from bytes) size mid.at t)
      ∙ ap (λ j. from + (j + turn_to size mid.at t (drop from bytes) j)) (sym rest.count)
      ∙ ap (λ e. from + (n + pick (room_at size e) (served_to size e (fed served_byte t (take n (drop from bytes))) (drop n (drop from bytes))) 0)) (sym end_is)
      ∙ ap (λ h. from + (n + pick (room_at size new.at) (served_to size new.at h (drop n (drop from bytes))) 0)) (sym rest.left)
      ∙ ap (λ l. from + (n + pick (room_at size new.at) (served_to size new.at u l) 0)) (drop-drop n from bytes)
      ∙ ap (λ k. from + (n + pick (room_at k new.at) (served_to size new.at u (drop (from + n) bytes)) 0)) (sym new_size)
      ∙ add_again from n (pick (room_at (length new.bytes.now) new.at) (served_to size new.at u (drop (from + n) bytes)) 0)

  -- there is room: the loop goes on
  pub came_more : room_at (length new.bytes.now) new.at ≡ true → Came s bytes old u (from + n) new
  came_more is =
      let same = new_size in
      record {
        few = turn_most;
        left = turn_left;
        said = turn_said;
        count = turn_count ∙ ap (λ r. from + n + pick r (served_to size new.at u (drop (from + n) bytes)) 0) is;
        room = λ start enough. record { none_lost = turn_fits start enough; room = omega (arith, room_told (length new.bytes.now) new.at is) };
      }

  -- there is none
  pub lines_full : {given : List ℕ} → old.at ≡ 0 → room_at (length new.bytes.now) new.at ≡ false → given ≡ new.bytes.now
      → ServedLines s bytes old.bytes.now u (from + n) given new.at
  lines_full start is back =
      let count = turn_count ∙ ap (λ r. from + n + pick r (served_to size new.at u (drop (from + n) bytes)) 0) is in
      let count = rw start at count in
      let said = rw start at turn_said.put in
      record {
        count = omega (arith, count);
        left = turn_left;
        said = rw back said;
        whole = λ enough. rw back (all-put said (turn_fits start enough));
      }

-- all bytes are served
pub lines_all : {s : Heard} {bytes : List ℕ} {old : Out} {t : Heard} {next : ℕ} {new : Out} {given : List ℕ} → old.at ≡ 0 → Came s bytes old t next new → length bytes ≤ next
    → given ≡ new.bytes.now → ServedLines s bytes old.bytes.now t next given new.at
lines_all {s} {bytes} {old} {t} {next} {new} start came past back =
    let end : next ≡ length bytes = omega (arith, came.few) in
    let none : drop next bytes ≡ [] = ap (λ k. drop k bytes) end ∙ drop-length bytes in
    let count = came.count ∙ ap (λ l. next + served_to (length old.bytes.now) new.at t l) none in
    let count = rw start at count in
    let said = rw start at came.said.put in
    record {
      count = omega (arith, count);
      left = came.left;
      said = rw back said;
      whole = λ enough. rw back (all-put said (came.room start enough).none_lost);
    }

-- no more bytes than there are, and some where there are some
pub served_lines : (s : Heard) {bytes out : List ℕ} {t : Heard} {next : ℕ} {after : List ℕ} {end : ℕ} → ServedLines s bytes out t next after end → 0 < length bytes
    → (0 < next) × (next ≤ length bytes)
served_lines s {bytes} {out} served some =
    (omega (arith, served.count, served_some bytes (length out) 0 s some), omega (arith, served.count, served_most bytes (length out) 0 s))

-- ---- the input's end
-- nothing has come of the last line
pub last_none : {s : Heard} {out : List ℕ} → begun_line s.line ≡ false → ServedLast s out s.numbers out 0
last_none none = record { said = rw none put_no_byte; left_is = rw none refl; whole = λ enough. rw none refl }

-- something has; the run is given back
pub last_some : {s : Heard} {old new : Out} {left given : List ℕ} → old.at ≡ 0 → begun_line s.line ≡ true → PutFew answer_most old (line_said s) new → left ≡ answer_left s
    → given ≡ new.bytes.now → ServedLast s old.bytes.now left given new.at
last_some start begun put left_is is =
    record { said = rw (is, begun) (rw start at put.puts.put); left_is = rw begun left_is; whole = λ enough. rw (is, begun) (all_few_put start put enough) }
