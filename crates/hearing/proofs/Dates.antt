-- Laws of the flags of D (`specs/Flags.antt`).
--     colon_stays                                   what has begun has begun
--     word_flags, flags_are                          a word's flags, byte by byte, come to what they are
--     one_few, eight_flags                          eight flags as a number: the first stands lowest
-- Assumes nothing.
use Prim.Native.Nat.{ℕ, suc, ◌+◌, ◌*◌, ◌≤◌}
use mathlib.Core.Bool.{Bool, true, false}
use mathlib.Core.List.{List, [], ◌∷◌}
use mathlib.Core.Path.{◌≡◌, refl, ap, ◌∙◌}
use native.Mathlib.Omega.{arith}
use borrow.Author.Tests.{ne_eqb, leb-true, leb-false, eqb-true, eqb-false}
use lib.Dec.{leb, eqb}
use lib.ListN.{length}
use Rattle.ranges.specs.Numbers.{pick, ◌and◌, ◌or◌, bit}
use Rattle.ranges.proofs.Numbers.{and_fails, bit_le}
use Rattle.text.specs.Cells.{fed}
use Rattle.hearing.specs.Flags.{all_flags, one_of, next_flag, dates_from, whole_flags, flags_in, flag_with, flags_with, has_colon, all_read, flags_ended}
use Rattle.hearing.specs.declared.flags.Flags.{Flags}
use Rattle.hearing.specs.declared.flags.Flags.TheVariants.{Without, Read, Bad}

-- ---- what has begun has begun
colon_more : (c v b : ℕ) → has_colon (flag_with c v b) ≡ true
unfolding flag_with
colon_more c v b = go (leb 8 c) (eqb b 48) (eqb b 49)
  where
    go : (s t u : Bool) → has_colon (pick s Bad (pick t (Read (c + 1) (next_flag v 0)) (pick u (Read (c + 1) (next_flag v 1)) Bad))) ≡ true
    go true t u = refl
    go false true u = refl
    go false false true = refl
    go false false false = refl

pub colon_stays : (flags : Flags) (b : ℕ) → has_colon flags ≡ true → has_colon (flags_with flags b) ≡ true
colon_stays Without b e = e
colon_stays (Read c v) b e = colon_more c v b
colon_stays Bad b e = e

-- ---- a word's flags
-- what its bytes come to, one by one
abbrev pub word_flags : List ℕ → Flags
word_flags [] = Without
word_flags (b ∷ bs) = pick (eqb b 58) (fed flags_with (Read 0 0) bs) (word_flags bs)

bad_stays : (bs : List ℕ) → flags_ended (fed flags_with Bad bs) ≡ Bad
bad_stays [] = refl
bad_stays (b ∷ bs) = bad_stays bs

-- the flags where c have come, and these bytes more
abbrev came_to : ℕ → ℕ → List ℕ → Flags
came_to c v bs = pick (eqb (c + length bs) 8 and all_flags bs) (Read 8 (dates_from v bs)) Bad

ended-all : (c v : ℕ) → all_read c v ≡ came_to c v []
unfolding all_read
ended-all c v = go (eqb c 8) refl
  where
    go : (t : Bool) → eqb c 8 ≡ t → pick t (Read c v) Bad ≡ pick (eqb (c + 0) 8 and true) (Read 8 v) Bad
    go true e = let is : c ≡ 8 = eqb-true c 8 e in rw is
    go false e = let ne : c + 0 ≡ 8 → ⊥ = λ z. eqb-false c 8 e (omega arith) in rw (ne_eqb (c + 0) 8 ne)

one_more : (c v : ℕ) (bs : List ℕ) → came_to (c + 1) v bs ≡ pick (eqb (c + suc (length bs)) 8 and all_flags bs) (Read 8 (dates_from v bs)) Bad
one_more c v bs =
    let same : c + 1 + length bs ≡ c + suc (length bs) = omega arith in
    rw same

flags_from : (bs : List ℕ) (c v : ℕ) → c ≤ 8 → flags_ended (fed flags_with (Read c v) bs) ≡ came_to c v bs
unfolding flag_with
flags_from [] c v le = ended-all c v
flags_from (b ∷ bs) c v le = go (leb 8 c) (eqb b 48) (eqb b 49) refl refl refl (flags_from bs (c + 1))
  where
    n : ℕ
    n = length bs

    go : (s t u : Bool) → leb 8 c ≡ s → eqb b 48 ≡ t → eqb b 49 ≡ u
        → ((w : ℕ) → c + 1 ≤ 8 → flags_ended (fed flags_with (Read (c + 1) w) bs) ≡ came_to (c + 1) w bs)
        → flags_ended (fed flags_with (pick s Bad (pick t (Read (c + 1) (next_flag v 0)) (pick u (Read (c + 1) (next_flag v 1)) Bad))) bs)
        ≡ pick (eqb (c + suc n) 8 and (t or u) and all_flags bs) (Read 8 (dates_from (next_flag v (bit u)) bs)) Bad
    go true t u p q r follow =
        let over : c + suc n ≡ 8 → ⊥ = λ z. let many = leb-true 8 c p in omega arith in
        rw (ne_eqb (c + suc n) 8 over) (bad_stays bs)
    go false true true p q r follow = absurd (let z = eqb-true b 48 q in let o = eqb-true b 49 r in omega arith)
    go false true false p q r follow = let few = leb-false 8 c p in follow (next_flag v 0) (omega arith) ∙ one_more c (next_flag v 0) bs
    go false false true p q r follow = let few = leb-false 8 c p in follow (next_flag v 1) (omega arith) ∙ one_more c (next_flag v 1) bs
    go false false false p q r follow = rw (and_fails (eqb (c + suc n) 8) false refl) (bad_stays bs)

pub flags_are : (c : List ℕ) → flags_ended (word_flags c) ≡ flags_in c
unfolding whole_flags
flags_are [] = refl
flags_are (b ∷ bs) = go (eqb b 58) (flags_are bs)
  where
    go : (t : Bool) → flags_ended (word_flags bs) ≡ flags_in bs
        → flags_ended (pick t (fed flags_with (Read 0 0) bs) (word_flags bs))
        ≡ pick t (pick (eqb (length bs) 8 and all_flags bs) (Read 8 (dates_from 0 bs)) Bad) (flags_in bs)
    go true rest = let none : 0 + length bs ≡ length bs = omega arith in rw none at (flags_from bs 0 0 (omega arith))
    go false rest = rest

-- ---- the number that eight flags make
pub one_few : (b : ℕ) → one_of b ≤ 1
one_few b = bit_le (eqb b 49)

-- a flag more
dates_next : (v w b : ℕ) (bs : List ℕ) → next_flag v (one_of b) ≡ w → dates_from v (b ∷ bs) ≡ dates_from w bs
dates_next v w b bs is = ap (λ x. dates_from x bs) is

-- the first stands lowest, and each of the others a bit higher than the one before it
pub eight_flags : (a b c d e f g h : ℕ) → dates_from 0 (a ∷ b ∷ c ∷ d ∷ e ∷ f ∷ g ∷ h ∷ [])
    ≡ one_of a + one_of b * 2 + one_of c * 4 + one_of d * 8 + one_of e * 16 + one_of f * 32 + one_of g * 64 + one_of h * 128
eight_flags a b c d e f g h =
    dates_next 0 (one_of a * 128) a (b ∷ c ∷ d ∷ e ∷ f ∷ g ∷ h ∷ []) (omega arith)
    ∙ dates_next (one_of a * 128) (one_of a * 64 + one_of b * 128) b (c ∷ d ∷ e ∷ f ∷ g ∷ h ∷ []) (omega arith)
    ∙ dates_next (one_of a * 64 + one_of b * 128) (one_of a * 32 + one_of b * 64 + one_of c * 128) c (d ∷ e ∷ f ∷ g ∷ h ∷ []) (omega arith)
    ∙ dates_next (one_of a * 32 + one_of b * 64 + one_of c * 128) (one_of a * 16 + one_of b * 32 + one_of c * 64 + one_of d * 128) d (e ∷ f ∷ g ∷ h ∷ []) (omega arith)
    ∙ dates_next (one_of a * 16 + one_of b * 32 + one_of c * 64 + one_of d * 128) (one_of a * 8 + one_of b * 16 + one_of c * 32 + one_of d * 64 + one_of e * 128) e (f ∷ g ∷ h ∷ []) (omega arith)
    ∙ dates_next (one_of a * 8 + one_of b * 16 + one_of c * 32 + one_of d * 64 + one_of e * 128) (one_of a * 4 + one_of b * 8 + one_of c * 16 + one_of d * 32 + one_of e * 64 + one_of f * 128) f (g ∷ h ∷ []) (omega arith)
    ∙ dates_next (one_of a * 4 + one_of b * 8 + one_of c * 16 + one_of d * 32 + one_of e * 64 + one_of f * 128) (one_of a * 2 + one_of b * 4 + one_of c * 8 + one_of d * 16 + one_of e * 32 + one_of f * 64 + one_of g * 128) g (h ∷ []) (omega arith)
    ∙ dates_next (one_of a * 2 + one_of b * 4 + one_of c * 8 + one_of d * 16 + one_of e * 32 + one_of f * 64 + one_of g * 128) (one_of a + one_of b * 2 + one_of c * 4 + one_of d * 8 + one_of e * 16 + one_of f * 32 + one_of g * 64 + one_of h * 128) h [] (omega arith)
