-- A rules file that comes in pieces, cut anywhere, and of which nothing more is read after a flaw (`rules_pieces` of
-- `specs/Bytes.antt`). Bytes after a flaw change nothing but the reader and the run, so that a reader who stops there knows what
-- one who reads on would know.
--     bytes_kept, end_kept, rest_kept          after a flaw: bytes, the file's end, and both
--     bytes_long, end_long, pieces_long        the run keeps its length
--     Alike, pieces_alike                      who stops at a flaw, and who reads on
--     pieces_read                              the pieces of a file
-- Assumes nothing.
use Prim.Native.Nat.{ℕ}
use mathlib.Core.Bool.{Bool, true, false}
use mathlib.Core.List.{List, [], ◌∷◌, flatten}
use mathlib.Core.Path.{◌≡◌, refl, sym, ap, ◌∙◌, subst}
use lib.Dec.{eqb}
use lib.ListN.{length}
use Rattle.std.specs.Prelude.{Option, None, Some, is_none}
use Rattle.std.proofs.lemmas.Option.{none-some}
use Rattle.ranges.specs.Numbers.{pick}
use Rattle.lists.specs.Limits.{most_numbers}
use Rattle.text.specs.Cells.{fed}
use Rattle.text.specs.Files.{InFile, lines_of}
use Rattle.text.specs.Lines.{LineNow, line_now, byte_taken, cell_ended, line_byte}
use Rattle.text.specs.Judging.{Judged, judged, Over, over_byte, over_close, over_begun}
use Rattle.text.proofs.Rows.{kept_long}
use Rattle.text.proofs.Feeding.{fed_append}
use Rattle.text.proofs.Keeping.{fed_keeps, finish_keeps}
use Rattle.rulesfile.specs.Flaws.{first_flaw}
use Rattle.flaws.specs.declared.flaw.Flaw.{Flaw}
use Rattle.rulesfile.specs.Bytes.{no_rules, line_at, judged_by, judge_rules, rules_in_file, rules_step, rules_end, rules_pieces}
use Rattle.rulesfile.specs.declared.file.RulesSoFar.{RulesSoFar}
use Rattle.rulesfile.proofs.Steps.{judged_kept}
use Rattle.rulesfile.proofs.Come.{end_flaw, Come, Stood, own_fine, rules-read}

-- ---- after a flaw
module _ (r : RulesSoFar) (f : Flaw) (some : r.flaw ≡ Some f) where
  abbrev Stays : Over RulesSoFar → Type 0
  Stays x = x.own ≡ r

  close_stays : (x : Over RulesSoFar) → Stays x → Stays (over_close line_at judge_rules x)
  close_stays x is =
      let line = (cell_ended (line_at x.own) x.now).line in
      ap (λ q. judged_by q line) is ∙ judged_kept r line some

  bytes_stay : (bs : List ℕ) (s : InFile (Over RulesSoFar)) → Stays s.at → Stays (fed rules_step s bs).at
  bytes_stay = fed_keeps (over_byte line_at) (over_close line_at judge_rules) Stays (λ x b is. is) close_stays

  finish_stays : (s : InFile (Over RulesSoFar)) → Stays s.at → (rules_end s).own ≡ r
  finish_stays = finish_keeps (over_byte line_at) (over_close line_at judge_rules) Stays (λ x b is. is) close_stays over_begun

module _ (s : InFile (Over RulesSoFar)) (f : Flaw) (some : s.at.own.flaw ≡ Some f) where
  pub bytes_kept : (bs : List ℕ) → (fed rules_step s bs).at.own ≡ s.at.own
  bytes_kept bs = bytes_stay s.at.own f some bs s refl

  pub end_kept : (rules_end s).own ≡ s.at.own
  end_kept = finish_stays s.at.own f some s refl

  -- both
  pub rest_kept : (bs : List ℕ) → (rules_end (fed rules_step s bs)).own ≡ s.at.own
  rest_kept bs = finish_stays s.at.own f some (fed rules_step s bs) (bytes_kept bs)

-- ---- the run
module _ (n : ℕ) where
  abbrev Long : Over RulesSoFar → Type 0
  Long x = length x.now.run ≡ n

  ended_long : (from : ℕ) (l : LineNow) → length (cell_ended from l).run ≡ length l.run
  unfolding cell_ended
  ended_long from l = kept_long l.line.row from l.run

  byte_long : (x : Over RulesSoFar) (b : ℕ) → Long x → Long (over_byte line_at x b)
  unfolding line_byte
  byte_long x b long = go (eqb b 44)
    where
      go : (t : Bool) → length (pick t (cell_ended (line_at x.own) x.now) (line_now (byte_taken x.now.line b) x.now.run)).run ≡ n
      go true = ended_long (line_at x.own) x.now ∙ long
      go false = long

  close_long : (x : Over RulesSoFar) → Long x → Long (over_close line_at judge_rules x)
  close_long x long = ended_long (line_at x.own) x.now ∙ long

  pub bytes_long : (bs : List ℕ) (s : InFile (Over RulesSoFar)) → length s.at.now.run ≡ n → length (fed rules_step s bs).at.now.run ≡ n
  bytes_long = fed_keeps (over_byte line_at) (over_close line_at judge_rules) Long byte_long close_long

  pub end_long : (s : InFile (Over RulesSoFar)) → length s.at.now.run ≡ n → length (rules_end s).run ≡ n
  end_long = finish_keeps (over_byte line_at) (over_close line_at judge_rules) Long byte_long close_long over_begun

  pub pieces_long : (ps : List (List ℕ)) (s : InFile (Over RulesSoFar)) → length s.at.now.run ≡ n → length (rules_pieces s ps).run ≡ n
  pieces_long [] s long = end_long s long
  pieces_long (p ∷ ps) s long =
      go (is_none (fed rules_step s p).at.own.flaw) (pieces_long ps (fed rules_step s p) (bytes_long p s long)) (end_long (fed rules_step s p) (bytes_long p s long))
    where
      go : (t : Bool) → length (rules_pieces (fed rules_step s p) ps).run ≡ n → length (rules_end (fed rules_step s p)).run ≡ n
          → length (pick t (rules_pieces (fed rules_step s p) ps) (rules_end (fed rules_step s p))).run ≡ n
      go true on stop = on
      go false on stop = stop

-- ---- who stops at a flaw, and who reads on
-- the same lines, width and flaw; and where there is no flaw the same run
pub record Alike (x y : Judged RulesSoFar) : Type 0 where
  pub own : x.own ≡ y.own
  pub run : y.own.flaw ≡ None → x.run ≡ y.run

pub pieces_alike : (ps : List (List ℕ)) (s : InFile (Over RulesSoFar)) → Alike (rules_pieces s ps) (rules_end (fed rules_step s (flatten ps)))
unfolding flatten
pieces_alike [] s = record { own = refl; run = λ e. refl }
pieces_alike (p ∷ ps) s =
    subst (λ z. Alike (rules_pieces s (p ∷ ps)) (rules_end z)) (sym (fed_append rules_step s p (flatten ps)))
    (go (fed rules_step s p).at.own.flaw refl (pieces_alike ps (fed rules_step s p)))
  where
    go : (f : Option Flaw) → (fed rules_step s p).at.own.flaw ≡ f
        → Alike (rules_pieces (fed rules_step s p) ps) (rules_end (fed rules_step (fed rules_step s p) (flatten ps)))
        → Alike (pick (is_none f) (rules_pieces (fed rules_step s p) ps) (rules_end (fed rules_step s p))) (rules_end (fed rules_step (fed rules_step s p) (flatten ps)))
    go None e on = on
    go (Some f) some on =
        let rest = rest_kept (fed rules_step s p) f some (flatten ps) in
        record {
          own = end_kept (fed rules_step s p) f some ∙ sym rest;
          run = λ none. absurd (none-some f (sym none ∙ ap (λ r. r.flaw) rest ∙ some));
        }

-- what one comes to, the other does
come-alike : (ls : List (List ℕ)) (x y : Judged RulesSoFar) → Alike x y → length x.run ≡ most_numbers → Come ls y → Come ls x
come-alike ls x y alike long at =
    record {
      flaw = ap (λ r. first_flaw r.flaw (end_flaw r)) alike.own ∙ at.flaw;
      stood = λ none.
          subst (λ r. Stood ls (judged r x.run)) (sym alike.own) (subst (λ l. Stood ls (judged y.own l)) (sym (alike.run (own_fine at none))) (at.stood none));
      long = long;
    }

-- a rules file in pieces, read into a list of 16,384 numbers to its end or to its first flaw, comes to what its lines say
pub pieces_read : (ps : List (List ℕ)) (list : List ℕ) → length list ≡ most_numbers → Come (lines_of (flatten ps)) (rules_pieces (rules_in_file no_rules list) ps)
pieces_read ps list size =
    let s = rules_in_file no_rules list in
    come-alike (lines_of (flatten ps)) (rules_pieces s ps) (rules_end (fed rules_step s (flatten ps))) (pieces_alike ps s)
    (pieces_long most_numbers ps s size) (rules-read (flatten ps) list size)
