-- Laws of what each word answers and leaves (`specs/Words.antt`), way by way.
-- Assumes nothing.
use Prim.Native.Nat.{ℕ, ◌+◌, ◌-◌, ◌*◌, ◌/◌, ◌≤◌, ◌<◌}
use mathlib.Core.List.{List, ◌++◌}
use mathlib.Core.Bool.{Bool, true, false}
use mathlib.Core.Path.{◌≡◌, refl, ap, ◌∙◌}
use native.Mathlib.Omega.{arith}
use borrow.Author.Tests.{le-leb, lt-leb, eq-eqb, ne_eqb, leb-true, ltb-false}
use lib.Dec.{ltb, leb, eqb}
use Rattle.std.specs.Prelude.{Option, Some, None, Ok, Err}
use Rattle.ranges.specs.Numbers.{pick, ◌and◌}
use Rattle.ranges.specs.Refusals.{Fault, none, refused_at, stands, or_else}
use Rattle.ranges.specs.declared.refusal.Cause.TheVariants.{TooLittleRoom}
use Rattle.ranges.proofs.Numbers.{never, and_fails}
use Rattle.ranges.proofs.Passes.{written-length}
use lib.ListN.{length, get_or, take, drop, length-append, length-take, length-drop}
use borrow.Rule.Slice.PartMut.{put_mid}
use Rattle.ranges.specs.Blocks.{prefixes_of, range_fault, room_fault, written, run_after}
use Rattle.text.specs.Puts.{Puts}
use Rattle.text.specs.declared.put.Out.{Out}
use Rattle.words.specs.Limits.{list_most, choice_most, table_most, run_most, line_room, answer_most}
use Rattle.phrases.specs.Few.{PutFew, PutAll}
use Rattle.words.specs.Parts.{from_to, run_end, RunTo, exactly, on_end, narrow_end}
use Rattle.words.specs.declared.choice_words.ChoiceWord.{ChoiceWord}
use Rattle.words.specs.declared.choice_words.ChoiceWord.TheVariants.{Choose, Layout}
use Rattle.phrases.specs.Said.{all_spaced}
use Rattle.words.specs.Words.{bad_said, choose_from, choose_said, layout_after, layout_from, layout_said, choice_said, expanded_said, r2p_stands, r2p_said, r2p_left}
use Rattle.words.proofs.Lent.{rest_lent, rest_long, rest_back}
use Rattle.words.proofs.Parts.{run_told, narrow_told, last_told}
use Rattle.words.proofs.Longest.{table_most_lem}
use Rattle.phrases.proofs.Few.{few_text, few_then, few_more}

-- ---- choose, layout, build and r2p
-- what is said of the count, a word and the numbers
pub counted_put : (word ns : List ℕ) {said : List ℕ} {o p q r : Out} → PutFew 70 o said p → Puts p word q → PutAll ns q r
    → PutFew (70 + length word + 21 * length ns) o (said ++ word ++ all_spaced ns) r
counted_put word ns count text numbers = few_then (few_then count (few_text (length word) (omega arith) text)) numbers

-- ---- choose and layout
-- more numbers than they take
module _ (ns : List ℕ) (over : line_room < length ns) where
  -- a run that ends at place e cannot be the last part
  last_over : (most at : ℕ) → at + 1 + most < length ns → exactly ns 0 (narrow_end most ns at) ≡ None
  last_over most at short = go (exactly ns 0 (narrow_end most ns at)) refl
    where
      go : (x : Option ℕ) → exactly ns 0 (narrow_end most ns at) ≡ x → x ≡ None
      go (Some e) is = let told = last_told most ns at is in absurd (omega arith)
      go None is = refl

  choose_over : (dates : ℕ) → choose_said dates ns ≡ bad_said
  unfolding choose_said
  choose_over dates = go (run_end list_most ns 1) refl
    where
      go : (x : Option ℕ) → run_end list_most ns 1 ≡ x → on_end x (choose_from dates ns) bad_said ≡ bad_said
      go (Some e) is = let list = run_told list_most ns 1 is in rw (last_over choice_most e (omega arith))
      go None is = refl

  layout_over : (dates : ℕ) → layout_said dates ns ≡ bad_said
  unfolding layout_said
  layout_over dates = go (run_end list_most ns 1) refl
    where
      next : (e t : ℕ) → RunTo list_most ns 1 e → RunTo choice_most ns e t → layout_after dates ns e t ≡ bad_said
      next e t list run = rw (last_over table_most t (omega arith))

      then : (e : ℕ) → RunTo list_most ns 1 e → (x : Option ℕ) → narrow_end choice_most ns e ≡ x → on_end x (layout_after dates ns e) bad_said ≡ bad_said
      then e list (Some t) is = next e t list (narrow_told choice_most ns e is).run
      then e list None is = refl

      go : (x : Option ℕ) → run_end list_most ns 1 ≡ x → on_end x (layout_from dates ns) bad_said ≡ bad_said
      go (Some e) is = then e (run_told list_most ns 1 is) (narrow_end choice_most ns e) refl
      go None is = refl

  pub choice_over : (word : ChoiceWord) (dates : ℕ) → choice_said word dates ns ≡ bad_said
  choice_over Choose dates = choose_over dates
  choice_over Layout dates = layout_over dates

-- ---- side and p2r, whose numbers are exactly so many
module _ (k : ℕ) (ns said : List ℕ) where
  pub exact_bad : (length ns ≡ k → ⊥) → pick (eqb (length ns) k) said bad_said ≡ bad_said
  exact_bad ne = rw (ne_eqb (length ns) k ne)

-- ---- r2p
-- the run keeps its length
room_told : (m : ℕ) (run : List ℕ) → stands (room_fault m run) ≡ true → m * 2 ≤ length run
room_told m run = go (ltb (length run / 2) m) refl
  where
    go : (t : Bool) → ltb (length run / 2) m ≡ t → stands {A = Unit} (pick t (refused_at TooLittleRoom m 0) none) ≡ true → m * 2 ≤ length run
    go true e is = never (cc)
    go false e is = let le = ltb-false (length run / 2) m e in omega arith

pub run_long : (w low high : ℕ) (run : List ℕ) → length (run_after w low high run) ≡ length run
run_long w low high run = go (range_fault w low high) refl
  where
    room : (t : Bool) → stands (room_fault (length (prefixes_of w low high)) run) ≡ t → length (pick t (written (prefixes_of w low high) run) run) ≡ length run
    room true e = written-length (prefixes_of w low high) run (room_told (length (prefixes_of w low high)) run e)
    room false e = refl

    go : (x : Fault) → range_fault w low high ≡ x
        → length (pick (stands (or_else x (room_fault (length (prefixes_of w low high)) run))) (written (prefixes_of w low high) run) run) ≡ length run
    go (Ok u) is = room (stands (room_fault (length (prefixes_of w low high)) run)) refl
    go (Err x) is = refl

-- whether the numbers are as the word wants them
module _ (ns : List ℕ) where
  pub r2p_short : length ns < 4 → r2p_stands ns ≡ false
  unfolding r2p_stands
  r2p_short lt = rw (lt-leb 4 (length ns) lt)

  pub r2p_long : 4 ≤ length ns → run_most < get_or ns 3 0 → r2p_stands ns ≡ false
  unfolding r2p_stands
  r2p_long le lt = rw (le-leb 4 (length ns) le, lt-leb (get_or ns 3 0) run_most lt)

  pub r2p_cut : 4 ≤ length ns → get_or ns 3 0 ≤ run_most → (length ns ≡ 4 + get_or ns 3 0 → ⊥) → r2p_stands ns ≡ false
  unfolding r2p_stands
  r2p_cut le few ne = rw (le-leb 4 (length ns) le, le-leb (get_or ns 3 0) run_most few, ne_eqb (length ns) (4 + get_or ns 3 0) ne)

  pub r2p_call : 4 ≤ length ns → get_or ns 3 0 ≤ run_most → length ns ≡ 4 + get_or ns 3 0 → r2p_stands ns ≡ true
  unfolding r2p_stands
  r2p_call le few e = rw (le-leb 4 (length ns) le, le-leb (get_or ns 3 0) run_most few, eq-eqb (length ns) (4 + get_or ns 3 0) e)

  -- more numbers than the word takes
  pub r2p_over : 204 < length ns → r2p_stands ns ≡ false
  unfolding r2p_stands
  r2p_over over = go (leb (get_or ns 3 0) run_most) refl
    where
      go : (t : Bool) → leb (get_or ns 3 0) run_most ≡ t → leb 4 (length ns) and leb (get_or ns 3 0) run_most and eqb (length ns) (4 + get_or ns 3 0) ≡ false
      go true e =
          let few = leb-true (get_or ns 3 0) run_most e in
          let enough : 4 ≤ length ns = omega arith in
          rw (le-leb 4 (length ns) enough, e, ne_eqb (length ns) (4 + get_or ns 3 0) (λ same. omega arith))
      go false e = rw e (and_fails (leb 4 (length ns)) false refl)

-- what is answered and left, way by way
module _ (ns : List ℕ) where
  pub r2p_bad : r2p_stands ns ≡ false → {o p : Out} → PutFew 70 o bad_said p → PutFew (answer_most - 1) o (r2p_said ns) p × (ns ≡ r2p_left ns)
  r2p_bad e put = (rw e (few_more (omega arith) put), rw e refl)

  pub r2p_made : 4 ≤ length ns → get_or ns 3 0 ≤ run_most → length ns ≡ 4 + get_or ns 3 0 → {left : List ℕ} {o p : Out}
      → PutFew (74 + 21 * length (from_to 4 (length ns) ns)) o (expanded_said (get_or ns 2 0) (get_or ns 0 0) (get_or ns 1 0) (from_to 4 (length ns) ns)) p
      → left ≡ run_after (get_or ns 2 0) (get_or ns 0 0) (get_or ns 1 0) (from_to 4 (length ns) ns)
      → PutFew (answer_most - 1) o (r2p_said ns) p × (put_mid 4 (length ns - 4) ns left ≡ r2p_left ns)
  r2p_made le few all {left} put is =
      let stands = r2p_call ns le few all in
      let size : length (from_to 4 (length ns) ns) ≤ run_most = omega (arith, rest_long ns 4) in
      let short : 74 + 21 * length (from_to 4 (length ns) ns) ≤ answer_most - 1 = omega (arith, table_most_lem) in (
        rw (stands, ← rest_lent ns 4) (few_more short put),
        rw stands (rest_back ns left 4 ∙ ap (λ run. take 4 ns ++ run) (is ∙ ap (run_after (get_or ns 2 0) (get_or ns 0 0) (get_or ns 1 0)) (rest_lent ns 4))),
      )

-- no word changes how many numbers a line has
pub left_long : (ns : List ℕ) → length (r2p_left ns) ≡ length ns
left_long ns = go (r2p_stands ns)
  where
    after : List ℕ
    after = run_after (get_or ns 2 0) (get_or ns 0 0) (get_or ns 1 0) (drop 4 ns)

    go : (t : Bool) → length (pick t (take 4 ns ++ after) ns) ≡ length ns
    go true = omega (arith, length-append (take 4 ns) after, run_long (get_or ns 2 0) (get_or ns 0 0) (get_or ns 1 0) (drop 4 ns), length-take 4 ns, length-drop 4 ns)
    go false = refl
