-- The headline statements about the program.
--
--     line_is          a line's bytes, heard one by one, are answered as its words are
--     answered_is      input in pieces, cut anywhere, is answered line by line
--     flags_in_order   of the eight characters after a colon the first is the flag of field 0, the next that of field 1, and so on
--
-- The contracts tie the code to these definitions. `serve_lines` serves the first bytes of a piece: it puts what they say (`said_to`)
-- and leaves the line that they leave (`fed served_byte`), and `put_last` puts what the input's end says (`last_said`); `pieces_said` is
-- these put together as `serve` does. An answer fits the room that is made for it, so that nothing is left out (`whole` of
-- `specs/Replies.antt`). What is left to testing is that `serve` hands each the bytes that were read, and writes the bytes that were
-- put.
-- Assumes nothing.
use Prim.Native.Nat.{ℕ, ◌+◌, ◌*◌, ◌/◌, ◌%◌, ◌^◌, ◌≤◌, ◌<◌}
use mathlib.Core.Bool.{Bool}
use mathlib.Core.List.{List, [], ◌∷◌, flatten}
use mathlib.Core.Path.{◌≡◌, sym, ap, ◌∙◌}
use native.Mathlib.Omega.{arith}
use lib.Dec.{eqb}
use lib.ListN.{length}
use Rattle.ranges.specs.Numbers.{bit}
use Rattle.ranges.proofs.Numbers.{bit_test}
use Rattle.lists.specs.Limits.{most_fields}
use Rattle.lists.specs.Rules.{flag_of}
use Rattle.lists.specs.declared.shape.Shape.{Shape}
use Rattle.lists.proofs.Dates.{flag_by}
use Rattle.text.specs.Cells.{fed}
use Rattle.words.specs.Limits.{line_room, name_room}
use Rattle.hearing.specs.Lines.{heard, unheard, heard_byte}
use Rattle.hearing.specs.Flags.{one_of, dates_from}
use Rattle.hearing.proofs.Dates.{one_few, eight_flags}
use Rattle.calls.specs.Answers.{answer_to, answer_said}
use Rattle.calls.specs.Input.{input_lines, input_said, pieces_said}
use Rattle.calls.proofs.Hearing as hearing
use Rattle.calls.proofs.Hears.{hears_first}
use Rattle.calls.proofs.Input.{pieces_whole, lines_on_lem, lines_anew}

-- the program's runs, whatever they hold at first, as long as they have 16 and 37,200 places
module _ (name numbers : List ℕ) (long : length name ≡ name_room) (many : length numbers ≡ line_room) where
  pub line_is : (line : List ℕ) → answer_said (fed heard_byte (heard unheard name numbers) line) ≡ answer_to line
  line_is = hearing.line_is name numbers long many

  -- where the pieces are cut changes nothing: not within a word, not before LF
  pub answered_is : (ps : List (List ℕ)) → pieces_said (heard unheard name numbers) ps ≡ input_said (flatten ps)
  answered_is ps =
      pieces_whole ps (heard unheard name numbers)
      ∙ lines_on_lem (flatten ps) (heard unheard name numbers) [] (hears_first name numbers long many)
      ∙ lines_anew (input_lines (flatten ps))

-- ---- the flags of D
-- flag f is set, where the number of the flags has this bit
flag_bit : (s : Shape) (f : ℕ) (t : Bool) → f < most_fields → s.dates / 2 ^ f % 2 ≡ bit t → flag_of s f ≡ t
flag_bit s f t lt is = sym (flag_by s f lt) ∙ ap (λ b. eqb b 1) is ∙ bit_test t

-- the bits of a number that is so put together
record Bits (v a b c d e f g h : ℕ) : Type 0 where
  bit_0 : v / 2 ^ 0 % 2 ≡ a
  bit_1 : v / 2 ^ 1 % 2 ≡ b
  bit_2 : v / 2 ^ 2 % 2 ≡ c
  bit_3 : v / 2 ^ 3 % 2 ≡ d
  bit_4 : v / 2 ^ 4 % 2 ≡ e
  bit_5 : v / 2 ^ 5 % 2 ≡ f
  bit_6 : v / 2 ^ 6 % 2 ≡ g
  bit_7 : v / 2 ^ 7 % 2 ≡ h

eight_bits : (v a b c d e f g h : ℕ) → v ≡ a + b * 2 + c * 4 + d * 8 + e * 16 + f * 32 + g * 64 + h * 128
    → a ≤ 1 → b ≤ 1 → c ≤ 1 → d ≤ 1 → e ≤ 1 → f ≤ 1 → g ≤ 1 → h ≤ 1
    → Bits v a b c d e f g h
eight_bits v a b c d e f g h sum la lb lc ld le lf lg lh =
    record {
      bit_0 = omega arith;
      bit_1 = omega arith;
      bit_2 = omega arith;
      bit_3 = omega arith;
      bit_4 = omega arith;
      bit_5 = omega arith;
      bit_6 = omega arith;
      bit_7 = omega arith;
    }

-- a flag is set exactly where its character is 1, which is 49
pub record InOrder (s : Shape) (a b c d e f g h : ℕ) : Type 0 where
  pub field_0 : flag_of s 0 ≡ eqb a 49
  pub field_1 : flag_of s 1 ≡ eqb b 49
  pub field_2 : flag_of s 2 ≡ eqb c 49
  pub field_3 : flag_of s 3 ≡ eqb d 49
  pub field_4 : flag_of s 4 ≡ eqb e 49
  pub field_5 : flag_of s 5 ≡ eqb f 49
  pub field_6 : flag_of s 6 ≡ eqb g 49
  pub field_7 : flag_of s 7 ≡ eqb h 49

pub flags_in_order : (fields a b c d e f g h : ℕ)
    → InOrder record { d = fields; dates = dates_from 0 (a ∷ b ∷ c ∷ d ∷ e ∷ f ∷ g ∷ h ∷ []) } a b c d e f g h
flags_in_order fields a b c d e f g h =
    let s : Shape = record { d = fields; dates = dates_from 0 (a ∷ b ∷ c ∷ d ∷ e ∷ f ∷ g ∷ h ∷ []) } in
    let bits = eight_bits s.dates (one_of a) (one_of b) (one_of c) (one_of d) (one_of e) (one_of f) (one_of g) (one_of h)
    (eight_flags a b c d e f g h) (one_few a) (one_few b) (one_few c) (one_few d) (one_few e) (one_few f) (one_few g) (one_few h) in
    record {
      field_0 = flag_bit s 0 (eqb a 49) (omega arith) bits.bit_0;
      field_1 = flag_bit s 1 (eqb b 49) (omega arith) bits.bit_1;
      field_2 = flag_bit s 2 (eqb c 49) (omega arith) bits.bit_2;
      field_3 = flag_bit s 3 (eqb d 49) (omega arith) bits.bit_3;
      field_4 = flag_bit s 4 (eqb e 49) (omega arith) bits.bit_4;
      field_5 = flag_bit s 5 (eqb f 49) (omega arith) bits.bit_5;
      field_6 = flag_bit s 6 (eqb g 49) (omega arith) bits.bit_6;
      field_7 = flag_bit s 7 (eqb h 49) (omega arith) bits.bit_7;
    }
