-- A file read byte by byte is read line by line (`specs/Files.antt`), whatever the reader does for a byte of a line and
-- for a line's end, as long as the file's end after a byte is the line's end, and after a line's end does nothing.
--     open_plain, open_lone, step_ends, step_open                           one byte, way by way
--     line_empty, line_ends, line_more, line_some, line_most_lem, line_on_lem, line_rest       bytes up to the end of the present line
--     file_is                                                               a whole file
--     fed_map, finish_map                                                   a change of state that bytes and line ends do not see
-- Assumes nothing.
use Prim.Native.Nat.{ℕ, suc, ◌+◌, ◌-◌, ◌≤◌, ◌<◌}
use mathlib.Core.Bool.{Bool, true, false}
use mathlib.Core.List.{List, [], ◌∷◌}
use mathlib.Core.Path.{◌≡◌, refl, sym, ap, ◌∙◌}
use native.Mathlib.Omega.{arith}
use borrow.Author.Tests.{eqb-true, eqb-false, eq-eqb, ne_eqb}
use lib.Dec.{eqb}
use lib.ListN.{length, take, drop, length-drop}
use Rattle.ranges.specs.Numbers.{pick, ◌and◌}
use Rattle.text.specs.Cells.{fed}
use Rattle.text.specs.Rows.{in_front}
use Rattle.text.specs.Files.{lines_of, InFile, in_file, plain, open_byte, ends_line, step, line_in, ends_in, settled, last_line, finish, over_lines}
use Rattle.text.proofs.Feeding.{rest_is}

-- ---- one byte; y is what the code has made of it
pub ends_none : (cr : Bool) (b : ℕ) → cr ≡ false → ends_line cr b ≡ false
unfolding ends_line
ends_none cr b none = rw none

pub ends_waited : (cr : Bool) (b : ℕ) → cr ≡ true → ends_line cr b ≡ eqb b 10
unfolding ends_line
ends_waited cr b waits = rw waits

module _ {X : Type 0} (byte : X → ℕ → X) where
  module _ (s : InFile X) (b : ℕ) where
    pub open_plain : s.cr ≡ false → open_byte byte s b ≡ plain byte s.at b
    unfolding open_byte
    open_plain none = rw none

    pub open_lone : s.cr ≡ true → {y : X} → y ≡ byte s.at 13 → open_byte byte s b ≡ plain byte y b
    unfolding open_byte
    open_lone waits read = rw (waits, read)

    -- whether a CR waits then is a matter of the byte alone
    plain_waits : (x : X) → (plain byte x b).cr ≡ eqb b 13
    unfolding plain
    plain_waits x = go (eqb b 13)
      where
        go : (t : Bool) → (pick t (in_file true x) (in_file false (byte x b))).cr ≡ t
        go true = refl
        go false = refl

    pub open_waits : (open_byte byte s b).cr ≡ eqb b 13
    unfolding open_byte
    open_waits = go s.cr
      where
        go : (t : Bool) → (pick t (plain byte (byte s.at 13) b) (plain byte s.at b)).cr ≡ eqb b 13
        go true = plain_waits (byte s.at 13)
        go false = plain_waits s.at

    module _ (close : X → X) where
      pub step_ends : ends_line s.cr b ≡ true → {y : X} → y ≡ close s.at → step byte close s b ≡ in_file false y
      unfolding step
      step_ends ends closed = rw (ends, closed)

      pub step_open : ends_line s.cr b ≡ false → step byte close s b ≡ open_byte byte s b
      unfolding step
      step_open more = rw more

      -- the same way by way
      pub step-plain : s.cr ≡ false → step byte close s b ≡ plain byte s.at b
      step-plain none = step_open (ends_none s.cr b none) ∙ open_plain none

      pub step_crlf : s.cr ≡ true → b ≡ 10 → step byte close s b ≡ in_file false (close s.at)
      step_crlf waits is = step_ends (ends_waited s.cr b waits ∙ eq-eqb b 10 is) refl

      pub step_lone : s.cr ≡ true → (b ≡ 10 → ⊥) → step byte close s b ≡ plain byte (byte s.at 13) b
      step_lone waits other = step_open (ends_waited s.cr b waits ∙ ne_eqb b 10 other) ∙ open_lone waits refl

-- ---- bytes up to the end of the present line
module _ (cr : Bool) (b : ℕ) (bs : List ℕ) where
  pub line_ends : ends_line cr b ≡ true → (line_in cr (b ∷ bs) ≡ 1) × (ends_in cr (b ∷ bs) ≡ true)
  unfolding line_in ends_in
  line_ends ends = (rw ends, rw ends)

  pub line_more : ends_line cr b ≡ false → (line_in cr (b ∷ bs) ≡ suc (line_in (eqb b 13) bs)) × (ends_in cr (b ∷ bs) ≡ ends_in (eqb b 13) bs)
  unfolding line_in ends_in
  line_more more = (rw more, rw more)

pub line_empty : (cr : Bool) → (line_in cr [] ≡ 0) × (ends_in cr [] ≡ false)
unfolding line_in ends_in
line_empty cr = (refl, refl)

-- some where there are some, and no more than there are
pub line_some : (cr : Bool) (bs : List ℕ) → 0 < length bs → 0 < line_in cr bs
line_some cr [] some = absurd (omega arith)
line_some cr (b ∷ bs) some = go (ends_line cr b) refl
  where
    go : (t : Bool) → ends_line cr b ≡ t → 0 < line_in cr (b ∷ bs)
    go true e = omega (arith, (line_ends cr b bs e).0)
    go false e = omega (arith, (line_more cr b bs e).0)

pub line_most_lem : (cr : Bool) (bs : List ℕ) → line_in cr bs ≤ length bs
line_most_lem cr [] = omega (arith, (line_empty cr).0)
line_most_lem cr (b ∷ bs) = go (ends_line cr b) refl (line_most_lem (eqb b 13) bs)
  where
    go : (t : Bool) → ends_line cr b ≡ t → line_in (eqb b 13) bs ≤ length bs → line_in cr (b ∷ bs) ≤ length (b ∷ bs)
    go true e follow = omega (arith, (line_ends cr b bs e).0)
    go false e follow = omega (arith, (line_more cr b bs e).0)

-- the same out of what is lent of a run from a place on
pub line_on_lem : (cr : Bool) (bytes : List ℕ) (i : ℕ) {used : ℕ} → i < length bytes → used ≡ line_in cr (take (length bytes - i) (drop i bytes))
    → (0 < used) × (i + used ≤ length bytes)
line_on_lem cr bytes i lt is =
    let part : List ℕ = take (length bytes - i) (drop i bytes) in
    let size : length part ≡ length bytes - i = ap length (rest_is bytes i) ∙ length-drop i bytes in
    let some : 0 < length part = omega arith in
    (omega (arith, line_some cr part some), omega (arith, line_most_lem cr part))

-- where there are bytes, fewer are left after them
pub line_rest : (cr : Bool) (bs : List ℕ) {used : ℕ} → 0 < length bs → used ≡ line_in cr bs → length (take (length bs - used) (drop used bs)) < length bs
line_rest cr bs {used} some is = omega (arith, ap length (rest_is bs used), length-drop used bs, line_some cr bs some, is)

-- ---- a whole file
module _ {X : Type 0} (byte : X → ℕ → X) (close : X → X) (begun : X → Bool)
    (closed : (x : X) → last_line close begun (close x) ≡ close x) (begins : (x : X) (b : ℕ) → last_line close begun (byte x b) ≡ close (byte x b)) where
  front-over : (x : X) (b : ℕ) (ls : List (List ℕ)) → over_lines byte close begun (byte x b) ls ≡ over_lines byte close begun x (in_front b ls)
  front-over x b [] = begins x b ∙ sym (closed (byte x b))
  front-over x b (l ∷ ls) = refl

  -- what is to be shown of the bytes bs
  abbrev Claim : List ℕ → Type 0
  Claim bs = (x : X) → finish byte close begun (fed (step byte close) (in_file false x) bs) ≡ over_lines byte close begun x (lines_of bs)

  -- one byte alone
  one : (b : ℕ) → Claim (b ∷ [])
  unfolding finish plain
  one b x = rw (step-plain byte (in_file false x) b close refl) (go (eqb b 13) refl)
    where
      go : (t : Bool) → eqb b 13 ≡ t
          → last_line close begun (settled byte (pick t (in_file true x) (in_file false (byte x b)))) ≡ last_line close begun (close (byte x b))
      go true e = rw (eqb-true b 13 e) (begins x 13 ∙ sym (closed (byte x 13)))
      go false e = begins x b ∙ sym (closed (byte x b))

  -- two bytes and what follows
  two : (b c : ℕ) (bs : List ℕ) → Claim bs → Claim (c ∷ bs) → Claim (b ∷ c ∷ bs)
  unfolding plain
  two b c bs after next x = rw (step-plain byte (in_file false x) b close refl) (go (eqb b 13) (eqb c 10) refl refl)
    where
      go : (s t : Bool) → eqb b 13 ≡ s → eqb c 10 ≡ t
          → finish byte close begun (fed (step byte close) (step byte close (pick s (in_file true x) (in_file false (byte x b))) c) bs)
          ≡ over_lines byte close begun x (pick (s and t) ([] ∷ lines_of bs) (in_front b (lines_of (c ∷ bs))))
      go true true p q = rw (step_crlf byte (in_file true x) c close refl (eqb-true c 10 q)) (after (close x))
      go true false p q =
          rw (step_lone byte (in_file true x) c close refl (eqb-false c 10 q), ← step-plain byte (in_file false (byte x 13)) c close refl)
          (next (byte x 13) ∙ front-over x 13 (lines_of (c ∷ bs)) ∙ ap (λ k. over_lines byte close begun x (in_front k (lines_of (c ∷ bs)))) (sym (eqb-true b 13 p)))
      go false t p q = next (byte x b) ∙ front-over x b (lines_of (c ∷ bs))

  -- a file's bytes, read one by one from a line's start, are its lines read one by one
  pub file_is : (bs : List ℕ) (x : X) → finish byte close begun (fed (step byte close) (in_file false x) bs) ≡ over_lines byte close begun x (lines_of bs)
  unfolding finish
  file_is [] x = refl
  file_is (b ∷ []) x = one b x
  file_is (b ∷ c ∷ bs) x = two b c bs (file_is bs) (file_is (c ∷ bs)) x

-- ---- a change of state that bytes and line ends do not see
abbrev pub map_in_file : {X : Type 0} → (X → X) → InFile X → InFile X
map_in_file φ s = in_file s.cr (φ s.at)

module _ {X : Type 0} (byte : X → ℕ → X) (close : X → X) (φ : X → X)
    (byte-same : (x : X) (b : ℕ) → byte (φ x) b ≡ φ (byte x b)) (close-same : (x : X) → close (φ x) ≡ φ (close x)) where
  plain_map : (x : X) (b : ℕ) → plain byte (φ x) b ≡ map_in_file φ (plain byte x b)
  unfolding plain
  plain_map x b = go (eqb b 13)
    where
      go : (t : Bool) → pick t (in_file true (φ x)) (in_file false (byte (φ x) b)) ≡ map_in_file φ (pick t (in_file true x) (in_file false (byte x b)))
      go true = refl
      go false = ap (in_file false) (byte-same x b)

  open_map : (s : InFile X) (b : ℕ) → open_byte byte (map_in_file φ s) b ≡ map_in_file φ (open_byte byte s b)
  unfolding open_byte
  open_map s b = go s.cr
    where
      go : (t : Bool) → pick t (plain byte (byte (φ s.at) 13) b) (plain byte (φ s.at) b) ≡ map_in_file φ (pick t (plain byte (byte s.at 13) b) (plain byte s.at b))
      go true = ap (λ y. plain byte y b) (byte-same s.at 13) ∙ plain_map (byte s.at 13) b
      go false = plain_map s.at b

  step_map : (s : InFile X) (b : ℕ) → step byte close (map_in_file φ s) b ≡ map_in_file φ (step byte close s b)
  unfolding step
  step_map s b = go (ends_line s.cr b)
    where
      go : (t : Bool) → pick t (in_file false (close (φ s.at))) (open_byte byte (map_in_file φ s) b) ≡ map_in_file φ (pick t (in_file false (close s.at)) (open_byte byte s b))
      go true = ap (in_file false) (close-same s.at)
      go false = open_map s b

  pub fed_map : (s : InFile X) (bs : List ℕ) → fed (step byte close) (map_in_file φ s) bs ≡ map_in_file φ (fed (step byte close) s bs)
  fed_map s [] = refl
  fed_map s (b ∷ bs) = ap (λ r. fed (step byte close) r bs) (step_map s b) ∙ fed_map (step byte close s b) bs

  -- where it leaves, too, whether a line has begun
  pub finish_map : (begun : X → Bool) → ((x : X) → begun (φ x) ≡ begun x) → (s : InFile X) → finish byte close begun (map_in_file φ s) ≡ φ (finish byte close begun s)
  unfolding finish last_line
  finish_map begun begun-same s = go s.cr
    where
      last : (x : X) → pick (begun (φ x)) (close (φ x)) (φ x) ≡ φ (pick (begun x) (close x) x)
      last x = rw (begun-same x, close-same x) (at (begun x))
        where
          at : (t : Bool) → pick t (φ (close x)) (φ x) ≡ φ (pick t (close x) x)
          at true = refl
          at false = refl

      go : (t : Bool) → last_line close begun (pick t (byte (φ s.at) 13) (φ s.at)) ≡ φ (last_line close begun (pick t (byte s.at 13) s.at))
      go true = ap (last_line close begun) (byte-same s.at 13) ∙ last (byte s.at 13)
      go false = last s.at
