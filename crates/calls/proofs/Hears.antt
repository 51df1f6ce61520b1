-- What has come of a line, as bytes: a line that has been heard (`specs/Lines.antt`) is answered as those bytes are.
--     hears_first, hears_more, hears_anew        a first line; one byte more; the line after
--     hears_said                                 the answer to it
--     begun_some                                 a line of which bytes have come has begun
-- Assumes nothing.
use Prim.Native.Nat.{ℕ, ◌<◌}
use mathlib.Core.Bool.{Bool, true, false}
use mathlib.Core.List.{List, [], ◌∷◌, ◌++◌}
use mathlib.Core.Path.{◌≡◌, refl, sym, ap, ◌∙◌}
use native.Mathlib.Omega.{arith}
use borrow.Author.Tests.{lt-ltb, ltb-true}
use lib.Dec.{ltb, eqb}
use lib.ListN.{length, length-set}
use Rattle.ranges.specs.Numbers.{pick}
use Rattle.text.specs.Cells.{fed}
use Rattle.text.specs.Puts.{place_after}
use Rattle.text.proofs.Feeding.{fed_append}
use Rattle.text.proofs.Rows.{kept_long}
use Rattle.words.specs.Limits.{line_room, name_room}
use Rattle.hearing.specs.Lines.{Heard, heard, unheard, number_ends, number_takes, name_ends, name_takes, heard_byte}
use Rattle.hearing.proofs.Lines.{number_named}
use Rattle.calls.specs.Answers.{answer_to, answer_said, answer_left}
use Rattle.calls.specs.Replies.{line_anew, begun_line}
use Rattle.calls.proofs.Answers.{answer_long}
use Rattle.calls.proofs.Hearing.{line_is}

-- ---- the runs' lengths
-- a byte keeps the runs' lengths
record Kept (s t : Heard) : Type 0 where
  pub name : length t.name ≡ length s.name
  pub numbers : length t.numbers ≡ length s.numbers

byte_kept : (s : Heard) (b : ℕ) → Kept s (heard_byte s b)
unfolding heard_byte
byte_kept s b = go s.line.named (eqb b 32)
  where
    go : (t u : Bool) → Kept s (pick t (pick u (number_ends s) (number_takes s b)) (pick u (name_ends s) (name_takes s b)))
    go true true = record { name = refl; numbers = kept_long s.line.row 0 s.numbers }
    go true false = record { name = refl; numbers = refl }
    go false true = record { name = refl; numbers = refl }
    go false false = record { name = length-set s.name s.line.length b; numbers = refl }

bytes_kept : (l : List ℕ) (s : Heard) → Kept s (fed heard_byte s l)
bytes_kept [] s = record { name = refl; numbers = refl }
bytes_kept (b ∷ l) s =
    let first = byte_kept s b in
    let rest = bytes_kept l (heard_byte s b) in
    record { name = rest.name ∙ first.name; numbers = rest.numbers ∙ first.numbers }

-- ---- what has come of a line
-- of the line s these bytes have come, into runs as long as the program's, whatever those held before
pub record Hears (s : Heard) (so_far : List ℕ) : Type 0 where
  pub name : List ℕ
  pub numbers : List ℕ
  pub name_long : length name ≡ name_room
  pub numbers_long : length numbers ≡ line_room
  pub is : s ≡ fed heard_byte (heard unheard name numbers) so_far

-- nothing has come of a new one
pub hears_first : (name numbers : List ℕ) → length name ≡ name_room → length numbers ≡ line_room → Hears (heard unheard name numbers) []
hears_first name numbers long many = record { name = name; numbers = numbers; name_long = long; numbers_long = many; is = refl }

module _ {s : Heard} {so_far : List ℕ} (h : Hears s so_far) where
  -- one byte more
  pub hears_more : (b : ℕ) → Hears (heard_byte s b) (so_far ++ (b ∷ []))
  hears_more b =
      record {
        name = h.name;
        numbers = h.numbers;
        name_long = h.name_long;
        numbers_long = h.numbers_long;
        is = ap (λ t. heard_byte t b) h.is ∙ sym (fed_append heard_byte (heard unheard h.name h.numbers) so_far (b ∷ []));
      }

  -- what is answered to a line as it has been heard
  pub hears_said : answer_said s ≡ answer_to so_far
  hears_said = ap answer_said h.is ∙ line_is h.name h.numbers h.name_long h.numbers_long so_far

  -- the line after it
  pub hears_anew : Hears (line_anew s) []
  hears_anew =
      let kept = bytes_kept so_far (heard unheard h.name h.numbers) in
      hears_first s.name (answer_left s)
      (ap (λ t. length t.name) h.is ∙ kept.name ∙ h.name_long)
      (answer_long s ∙ ap (λ t. length t.numbers) h.is ∙ kept.numbers ∙ h.numbers_long)

-- ---- whether it has begun
-- what has begun stays so
begun_byte : (s : Heard) (b : ℕ) → begun_line s.line ≡ true → begun_line (heard_byte s b).line ≡ true
unfolding heard_byte
begun_byte s b = go s.line.named (eqb b 32)
  where
    go : (t u : Bool) → pick t true (ltb 0 s.line.length) ≡ true
        → begun_line (pick t (pick u (number_ends s) (number_takes s b)) (pick u (name_ends s) (name_takes s b))).line ≡ true
    go true true e = refl
    go true false e = rw (number_named s.line b)
    go false true e = refl
    go false false e =
        let some = ltb-true 0 s.line.length e in
        let on : 0 < place_after (length s.name) s.line.length 1 = omega arith in
        lt-ltb 0 (place_after (length s.name) s.line.length 1) on

begun_bytes : (l : List ℕ) (s : Heard) → begun_line s.line ≡ true → begun_line (fed heard_byte s l).line ≡ true
begun_bytes [] s e = e
begun_bytes (b ∷ l) s e = begun_bytes l (heard_byte s b) (begun_byte s b e)

-- a first byte begins it
begun_first : (name numbers : List ℕ) (b : ℕ) → length name ≡ name_room → begun_line (heard_byte (heard unheard name numbers) b).line ≡ true
unfolding heard_byte
begun_first name numbers b long = go (eqb b 32)
  where
    go : (t : Bool) → begun_line (pick t (name_ends (heard unheard name numbers)) (name_takes (heard unheard name numbers) b)).line ≡ true
    go true = refl
    go false =
        let on : 0 < place_after (length name) 0 1 = omega arith in
        lt-ltb 0 (place_after (length name) 0 1) on

-- a line of which bytes have come has begun
pub begun_some : {s : Heard} {b : ℕ} {bs : List ℕ} → Hears s (b ∷ bs) → begun_line s.line ≡ true
begun_some {b = b} {bs = bs} h =
    ap (λ t. begun_line t.line) h.is
    ∙ begun_bytes bs (heard_byte (heard unheard h.name h.numbers) b) (begun_first h.name h.numbers b h.name_long)
