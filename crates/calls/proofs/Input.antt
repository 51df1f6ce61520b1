-- Input that comes in pieces is answered line by line (`specs/Input.antt`), wherever the pieces are cut.
--     pieces_whole          pieces are as all bytes in one
--     lines_on_lem              and those are answered line by line, the first line going on from what has come of it
--     lines_anew            where nothing has come, it is as any other
-- Assumes nothing.
use Prim.Native.Nat.{ℕ}
use mathlib.Core.Bool.{Bool, true, false}
use mathlib.Core.List.{List, [], ◌∷◌, ◌++◌, flatten, append_assoc, append-nil}
use mathlib.Core.Path.{◌≡◌, refl, sym, ap, ◌∙◌}
use lib.Dec.{eqb}
use Rattle.ranges.specs.Numbers.{pick}
use Rattle.text.specs.Cells.{fed}
use Rattle.text.specs.Rows.{in_front}
use Rattle.text.proofs.Feeding.{fed_append}
use Rattle.hearing.specs.Lines.{Heard, heard_byte}
use Rattle.calls.specs.Replies.{line_said, line_anew, served_byte, said_byte, said_to, begun_line, last_said}
use Rattle.calls.specs.Input.{input_lines, answer_line, answers_to, pieces_said}
use Rattle.calls.proofs.Serving.{said_append, byte_ends, byte_stays}
use Rattle.calls.proofs.Hears.{Hears, hears_more, hears_said, hears_anew, begun_some}

-- ---- pieces
-- what bytes say, and then the input's end
abbrev pub whole_said : Heard → List ℕ → List ℕ
whole_said s bs = said_to s bs ++ last_said (fed served_byte s bs)

pub pieces_whole : (ps : List (List ℕ)) (s : Heard) → pieces_said s ps ≡ whole_said s (flatten ps)
unfolding flatten
pieces_whole [] s = refl
pieces_whole (p ∷ ps) s =
    let t = fed served_byte s p in
    ap (λ w. said_to s p ++ w) (pieces_whole ps t)
    ∙ sym (append_assoc (said_to s p) (said_to t (flatten ps)) (last_said (fed served_byte t (flatten ps))))
    ∙ ap (λ w. w ++ last_said (fed served_byte t (flatten ps))) (sym (said_append p (flatten ps) s))
    ∙ ap (λ u. said_to s (p ++ flatten ps) ++ last_said u) (sym (fed_append served_byte s p (flatten ps)))

-- ---- line by line
-- the answers, where these bytes have come of the first line
abbrev last_on : List ℕ → List ℕ
last_on [] = []
last_on (b ∷ bs) = answer_line (b ∷ bs)

abbrev pub lines_on : List ℕ → List (List ℕ) → List ℕ
lines_on so_far [] = last_on so_far
lines_on so_far (l ∷ ls) = answer_line (so_far ++ l) ++ answers_to ls

pub lines_anew : (ls : List (List ℕ)) → lines_on [] ls ≡ answers_to ls
lines_anew [] = refl
lines_anew (l ∷ ls) = refl

-- something has come of the line
last_line : (so_far : List ℕ) (b : ℕ) → last_on (so_far ++ (b ∷ [])) ≡ answer_line (so_far ++ (b ∷ []))
last_line [] b = refl
last_line (x ∷ xs) b = refl

lines_byte : (so_far : List ℕ) (b : ℕ) (ls : List (List ℕ)) → lines_on (so_far ++ (b ∷ [])) ls ≡ lines_on so_far (in_front b ls)
lines_byte so_far b [] = last_line so_far b ∙ sym (append-nil (answer_line (so_far ++ (b ∷ []))))
lines_byte so_far b (l ∷ ls) = ap (λ w. answer_line w ++ answers_to ls) (append_assoc so_far (b ∷ []) l)

line_said_lem : {s : Heard} {so_far : List ℕ} → Hears s so_far → line_said s ≡ answer_line so_far
line_said_lem h = ap (λ w. w ++ (10 ∷ [])) (hears_said h)

last_said_lem : {s : Heard} (so_far : List ℕ) → Hears s so_far → last_said s ≡ last_on so_far
last_said_lem {s} [] h = let none : begun_line s.line ≡ false = ap (λ t. begun_line t.line) h.is in rw none
last_said_lem (b ∷ bs) h = rw (begun_some h) (line_said_lem h)

pub lines_on_lem : (bs : List ℕ) (s : Heard) (so_far : List ℕ) → Hears s so_far → whole_said s bs ≡ lines_on so_far (input_lines bs)
lines_on_lem [] s so_far h = last_said_lem so_far h
lines_on_lem (b ∷ bs) s so_far h = go (eqb b 10) refl (lines_on_lem bs)
  where
    byte_whole : {w : List ℕ} {u : Heard} → said_byte s b ≡ w → served_byte s b ≡ u → whole_said s (b ∷ bs) ≡ (w ++ said_to u bs) ++ last_said (fed served_byte u bs)
    byte_whole {w} {u} said left =
        ap (λ v. (v ++ said_to (served_byte s b) bs) ++ last_said (fed served_byte (served_byte s b) bs)) said
        ∙ ap (λ t. (w ++ said_to t bs) ++ last_said (fed served_byte t bs)) left

    go : (t : Bool) → eqb b 10 ≡ t → ((u : Heard) (l : List ℕ) → Hears u l → whole_said u bs ≡ lines_on l (input_lines bs))
        → whole_said s (b ∷ bs) ≡ lines_on so_far (pick t ([] ∷ input_lines bs) (in_front b (input_lines bs)))
    go true e follow =
        let byte = byte_ends s b e in
        byte_whole byte.said byte.left
        ∙ append_assoc (line_said s) (said_to (line_anew s) bs) (last_said (fed served_byte (line_anew s) bs))
        ∙ ap (λ w. line_said s ++ w) (follow (line_anew s) [] (hears_anew h) ∙ lines_anew (input_lines bs))
        ∙ ap (λ w. w ++ answers_to (input_lines bs)) (line_said_lem h)
        ∙ ap (λ w. answer_line w ++ answers_to (input_lines bs)) (sym (append-nil so_far))
    go false e follow =
        let byte = byte_stays s b e in
        byte_whole byte.said byte.left
        ∙ follow (heard_byte s b) (so_far ++ (b ∷ [])) (hears_more h b)
        ∙ lines_byte so_far b (input_lines bs)
