-- What a test says of the numbers below n: whether all pass, whether one does, how many pass, which is the least; the list
-- of a function's values; and whether two lists are the same. Every layer's definitions are put together from these; proofs use their laws
-- (`proofs/Numbers.antt`) and do not unfold them.
-- Assumes nothing: these are definitions.
use Rattle.std.specs.Prelude.{ℕ, zero, suc, ◌+◌, Bool, true, false, List, [], ◌∷◌, ◌++◌, ltb, eqb}

-- a where the test passed, else b
abbrev pub pick {ℓ} : {A : Type ℓ} → Bool → A → A → A
pick true a b = a
pick false a b = b

-- both tests pass
abbrev pub ◌and◌ : Bool → Bool → Bool
◌and◌ true t = t
◌and◌ false t = false

-- one of the tests passes
abbrev pub ◌or◌ : Bool → Bool → Bool
◌or◌ true t = true
◌or◌ false t = t

infixr 35 ◌and◌
infixr 30 ◌or◌
-- 1 for a test that passed, 0 for one that failed
abbrev pub bit : Bool → ℕ
bit true = 1
bit false = 0

-- every number below n passes
unfoldable pub all : ℕ → (ℕ → Bool) → Bool
all zero P = true
all (suc n) P = all n P and P n

-- some number below n passes
unfoldable pub any : ℕ → (ℕ → Bool) → Bool
any zero P = false
any (suc n) P = any n P or P n

-- how many numbers below n pass
unfoldable pub count : ℕ → (ℕ → Bool) → ℕ
count zero P = 0
count (suc n) P = count n P + bit (P n)

-- the least number below n that passes, and n where none does
unfoldable pub least : ℕ → (ℕ → Bool) → ℕ
least zero P = 0
least (suc n) P = pick (ltb (least n P) n) (least n P) (pick (P n) n (suc n))

-- the greatest number below n that passes, and 0 where none does
unfoldable pub greatest : ℕ → (ℕ → Bool) → ℕ
greatest zero P = 0
greatest (suc n) P = pick (P n) n (greatest n P)

-- f 0, f 1, .. f (n - 1)
unfoldable pub tab : ℕ → (ℕ → ℕ) → List ℕ
tab zero f = []
tab (suc n) f = tab n f ++ (f n ∷ [])

-- the same numbers in the same order
abbrev pub same_list : List ℕ → List ℕ → Bool
same_list [] [] = true
same_list [] (y ∷ ys) = false
same_list (x ∷ xs) [] = false
same_list (x ∷ xs) (y ∷ ys) = eqb x y and same_list xs ys
