-- Laws of serving bytes, one by one and up to the end of the present line (`specs/Replies.antt`, `specs/Serving.antt`).
--     byte_ends, byte_stays                      one byte
--     said_append                                bytes after bytes
--     anew_is, served-within, served-ended       up to a line's end, way by way
--     end_most, end_some                         no more bytes than there are, and some where there are some
--     served_turn, served_most, served_some      how many bytes are served, line by line
-- Assumes nothing.
use Prim.Native.Nat.{ℕ, suc, ◌+◌, ◌≤◌, ◌<◌}
use mathlib.Core.Bool.{Bool, true, false, not}
use mathlib.Core.List.{List, [], ◌∷◌, ◌++◌, append_assoc, append-nil}
use mathlib.Core.Path.{◌≡◌, refl, sym, ap, ◌∙◌}
use native.Mathlib.Omega.{arith}
use lib.Dec.{eqb}
use lib.ListN.{length, take, drop}
use Rattle.ranges.specs.Numbers.{pick, ◌and◌}
use Rattle.text.specs.Cells.{fed}
use Rattle.text.specs.Puts.{place_after}
use Rattle.text.specs.declared.put.Out.{Out}
use Rattle.text.proofs.Puts.{puts_none}
use Rattle.words.specs.Limits.{answer_most}
use Rattle.phrases.specs.Few.{PutFew}
use Rattle.phrases.proofs.Few.{few_text}
use Rattle.hearing.specs.Lines.{Heard, heard, unheard, heard_byte, line_in}
use Rattle.calls.specs.Answers.{answer_left}
use Rattle.hearing.specs.declared.line.Line.{Line}
use Rattle.calls.specs.Replies.{line_said, line_anew, served_byte, said_byte, said_to, room_at, served_to}
use Rattle.calls.specs.Serving.{line_end, Served}
use Rattle.hearing.proofs.Lines.{line_empty, line_here, line_past, line_within}

-- ---- one byte
-- LF
pub record ByteEnds (s : Heard) (b : ℕ) : Type 0 where
  pub said : said_byte s b ≡ line_said s
  pub left : served_byte s b ≡ line_anew s

pub byte_ends : (s : Heard) (b : ℕ) → eqb b 10 ≡ true → ByteEnds s b
unfolding said_byte served_byte
byte_ends s b e = record { said = rw e; left = rw e }

-- any other
pub record ByteStays (s : Heard) (b : ℕ) : Type 0 where
  pub said : said_byte s b ≡ []
  pub left : served_byte s b ≡ heard_byte s b

pub byte_stays : (s : Heard) (b : ℕ) → eqb b 10 ≡ false → ByteStays s b
unfolding said_byte served_byte
byte_stays s b e = record { said = rw e; left = rw e }

-- ---- bytes after bytes
pub said_append : (xs ys : List ℕ) (s : Heard) → said_to s (xs ++ ys) ≡ said_to s xs ++ said_to (fed served_byte s xs) ys
said_append [] ys s = refl
said_append (x ∷ xs) ys s =
    ap (λ w. said_byte s x ++ w) (said_append xs ys (served_byte s x))
    ∙ sym (append_assoc (said_byte s x) (said_to (served_byte s x) xs) (said_to (fed served_byte (served_byte s x) xs) ys))

-- ---- up to a line's end
-- the bytes before the first LF
record Within (s : Heard) (bs : List ℕ) : Type 0 where
  pub said : said_to s (take (line_in bs) bs) ≡ []
  pub left : fed served_byte s (take (line_in bs) bs) ≡ fed heard_byte s (take (line_in bs) bs)

within : (bs : List ℕ) (s : Heard) → Within s bs
within [] s = record { said = rw line_empty; left = rw line_empty }
within (b ∷ bs) s = go (eqb b 10) refl (within bs)
  where
    go : (t : Bool) → eqb b 10 ≡ t → ((u : Heard) → Within u bs) → Within s (b ∷ bs)
    go true e follow = let here = line_here b bs e in record { said = rw here; left = rw here }
    go false e follow =
        let byte = byte_stays s b e in
        let past = line_past b bs e in
        let rest = follow (heard_byte s b) in
        record {
          said = rw past (ap (λ w. w ++ said_to (served_byte s b) (take (line_in bs) bs)) byte.said ∙ ap (λ t. said_to t (take (line_in bs) bs)) byte.left ∙ rest.said);
          left = rw past (ap (λ t. fed served_byte t (take (line_in bs) bs)) byte.left ∙ rest.left);
        }

-- and LF
record Through (s : Heard) (bs : List ℕ) : Type 0 where
  pub end : line_end bs ≡ line_in bs + 1
  pub said : said_to s (take (line_end bs) bs) ≡ line_said (fed heard_byte s (take (line_in bs) bs))
  pub left : fed served_byte s (take (line_end bs) bs) ≡ line_anew (fed heard_byte s (take (line_in bs) bs))

through : (bs : List ℕ) (s : Heard) → line_in bs < length bs → Through s bs
through [] s lt = absurd (omega arith)
through (b ∷ bs) s lt = go (eqb b 10) refl (through bs)
  where
    go : (t : Bool) → eqb b 10 ≡ t → ((u : Heard) → line_in bs < length bs → Through u bs) → Through s (b ∷ bs)
    go true e follow =
        let byte = byte_ends s b e in
        record {
          end = rw (line_here b bs e, e);
          said = rw (line_here b bs e, e, byte.said) (append-nil (line_said s));
          left = rw (line_here b bs e, e) byte.left;
        }
    go false e follow =
        let byte = byte_stays s b e in
        let past = line_past b bs e in
        let rest = follow (heard_byte s b) (omega arith) in
        record {
          end = rw (past, e) (omega (arith, rest.end));
          said = rw (past, e, byte.said, byte.left) rest.said;
          left = rw (past, e, byte.left) rest.left;
        }

-- no more bytes than there are, and some where there are some
pub end_most : (bs : List ℕ) → line_end bs ≤ length bs
end_most [] = omega arith
end_most (b ∷ bs) = go (eqb b 10) (end_most bs)
  where
    go : (t : Bool) → line_end bs ≤ length bs → suc (pick t 0 (line_end bs)) ≤ suc (length bs)
    go true le = omega arith
    go false le = omega arith

pub end_some : (bs : List ℕ) → 0 < length bs → 0 < line_end bs
end_some [] some = absurd (omega arith)
end_some (b ∷ bs) some = omega arith

-- all, where there is no LF
end_none : (bs : List ℕ) → line_in bs ≡ length bs → line_end bs ≡ line_in bs
end_none [] all = sym all
end_none (b ∷ bs) all = go (eqb b 10) refl (end_none bs)
  where
    go : (t : Bool) → eqb b 10 ≡ t → (line_in bs ≡ length bs → line_end bs ≡ line_in bs) → line_end (b ∷ bs) ≡ line_in (b ∷ bs)
    go true e follow = let here = line_here b bs e in absurd (omega arith)
    go false e follow = let past = line_past b bs e in rw (past, e) (ap suc (follow (omega arith)))

-- a new line, in the runs as the answer left them
pub anew_is : (h : Heard) {line : Line} {numbers : List ℕ} → line ≡ unheard → numbers ≡ answer_left h → heard line h.name numbers ≡ line_anew h
anew_is h anew left = rw (anew, left)

module _ (s : Heard) (bytes : List ℕ) (k : ℕ) (is : k ≡ line_in bytes) {h : Heard} (hears : h ≡ fed heard_byte s (take k bytes)) where
  -- no line ends in these bytes
  pub served-within : {out : Out} → k ≡ length bytes → Served s bytes out h k out
  served-within all =
      let none = within bytes s in
      record {
        count = is ∙ sym (end_none bytes (sym is ∙ all));
        said = rw (is, none.said) (few_text answer_most (omega arith) puts_none);
        left = hears ∙ ap (λ j. fed heard_byte s (take j bytes)) is ∙ sym none.left ∙ ap (λ j. fed served_byte s (take j bytes)) (sym is);
      }

  -- a line ends
  pub served-ended : {old new : Out} {t : Heard} → (k ≡ length bytes → ⊥) → PutFew answer_most old (line_said h) new → t ≡ line_anew h
      → Served s bytes old t (k + 1) new
  served-ended {t = t} not-all put anew =
      let lt : line_in bytes < length bytes = omega (arith, line_within bytes) in
      let line = through bytes s lt in
      let heard-is : h ≡ fed heard_byte s (take (line_in bytes) bytes) = hears ∙ ap (λ j. fed heard_byte s (take j bytes)) is in
      let count : k + 1 ≡ line_end bytes = ap (λ j. j + 1) is ∙ sym line.end in
      record {
        count = count;
        said = rw (count, line.said, ← heard-is) put;
        left = anew ∙ ap line_anew heard-is ∙ sym line.left ∙ ap (λ j. fed served_byte s (take j bytes)) (sym count);
      }

-- ---- how many bytes are served
-- those of the present line, and then as many as are served where there is room for one more answer
abbrev pub turn_to : ℕ → ℕ → Heard → List ℕ → ℕ → ℕ
turn_to n at s bs j =
    let next = place_after n at (length (said_to s (take j bs))) in
    pick (room_at n next) (served_to n next (fed served_byte s (take j bs)) (drop j bs)) 0

pub served_turn : (bs : List ℕ) (n at : ℕ) (s : Heard) → served_to n at s bs ≡ line_end bs + turn_to n at s bs (line_end bs)
served_turn [] n at s = go (room_at n (place_after n at 0))
  where
    go : (t : Bool) → ◌≡◌ {A = ℕ} 0 (0 + pick t 0 0)
    go true = refl
    go false = refl
served_turn (b ∷ bs) n at s = go (eqb b 10) refl (served_turn bs n at)
  where
    next : ℕ
    next = place_after n at (length (said_byte s b))

    stop : (r : Bool) (k : ℕ) → suc (pick (true and not r) 0 k) ≡ 1 + pick r k 0
    stop true k = omega arith
    stop false k = omega arith

    go : (t : Bool) → eqb b 10 ≡ t
        → ((u : Heard) → served_to n at u bs ≡ line_end bs + turn_to n at u bs (line_end bs))
        → served_to n at s (b ∷ bs) ≡ line_end (b ∷ bs) + turn_to n at s (b ∷ bs) (line_end (b ∷ bs))
    go true e follow = rw (e, append-nil (said_byte s b)) (stop (room_at n next) (served_to n next (served_byte s b) bs))
    go false e follow =
        let byte = byte_stays s b e in
        let same : place_after n at 0 ≡ at = omega arith in
        let rest = follow (served_byte s b) in
        rw (e, byte.said, same) (omega (arith, rest))

pub served_most : (bs : List ℕ) (n at : ℕ) (s : Heard) → served_to n at s bs ≤ length bs
served_most [] n at s = omega arith
served_most (b ∷ bs) n at s = go (eqb b 10 and not (room_at n next)) (served_most bs n next (served_byte s b))
  where
    next : ℕ
    next = place_after n at (length (said_byte s b))

    go : (t : Bool) → served_to n next (served_byte s b) bs ≤ length bs → suc (pick t 0 (served_to n next (served_byte s b) bs)) ≤ suc (length bs)
    go true le = omega arith
    go false le = omega arith

pub served_some : (bs : List ℕ) (n at : ℕ) (s : Heard) → 0 < length bs → 0 < served_to n at s bs
served_some [] n at s some = absurd (omega arith)
served_some (b ∷ bs) n at s some = omega arith
