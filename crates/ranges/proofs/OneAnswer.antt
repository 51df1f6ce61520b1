-- What it is that a contract allows one result alone, and one run lent to the function to be left. A crate's `Determined.antt` shows it of
-- each of its public functions; where the contract is an equation, `r ≡ ..`, by `p ∙ sym q`.
-- Assumes nothing.
use Prim.Native.Nat.{ℕ}
use mathlib.Core.List.{List}
use mathlib.Core.Path.{◌≡◌}
use borrow.Fn.Kinds.{ParamKind, ResultKind, Dens, res_t, ended_of, Out}
use contract.Lifetimes.{Lfts}
use denote.Triple.Clauses.{AtExit}

-- any two results that `Says`, a function's `ensures` as its callers learn it, allows for the same arguments are equal, whatever the
-- parameters are at exit
abbrev pub OneAnswer : (n : ℕ) (ps : List (ParamKind n)) (r : ResultKind n) → Out n ps r → Type 0
OneAnswer n ps r Says =
    (κs : Lfts n) (a : Dens κs ps) (x y : (res_t r κs).Denot) (e g : AtExit (ended_of n ps r) κs) → Says κs a x e → Says κs a y g → x ≡ y

-- any two runs that `Says`, a function's `ensures` as its callers learn it, allows it to leave are equal, or any two of what else it
-- leaves; `run` finds it among the parameters at exit
abbrev pub OneRun : {A : Type 0} (n : ℕ) (ps : List (ParamKind n)) (r : ResultKind n) → Out n ps r → ((κs : Lfts n) → AtExit (ended_of n ps r) κs → A) → Type 0
OneRun n ps r Says run =
    (κs : Lfts n) (a : Dens κs ps) (x y : (res_t r κs).Denot) (e g : AtExit (ended_of n ps r) κs) → Says κs a x e → Says κs a y g → run κs e ≡ run κs g
