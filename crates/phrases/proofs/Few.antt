-- Laws of bytes put into a run that is lent with its place, of which there are at most so many (`specs/Few.antt`).
--     few_text, few_then, few_more     a text; bytes after bytes; at most as many or more
--     all-put, all_few_put             all that was put is there
--     spaced_few                       a number of 64 bits and its blank have at most 21 bytes
-- Assumes nothing.
use Prim.Native.Nat.{ℕ, ◌+◌, ◌^◌, ◌≤◌, ◌<◌}
use mathlib.Core.List.{List, ◌++◌}
use mathlib.Core.Path.{◌≡◌, ap, ◌∙◌}
use native.Mathlib.Omega.{arith}
use lib.ListN.{length, take, drop, length-append}
use lib.Seq.{take_at}
use Rattle.text.specs.Texts.{bytes}
use Rattle.text.specs.Puts.{Put, Puts}
use Rattle.text.specs.Decimals.{decimal_of}
use Rattle.text.specs.declared.put.Out.{Out}
use Rattle.text.proofs.Puts.{puts_then, put-fits}
use Rattle.text.proofs.Decimals.{decimal_short}
use Rattle.phrases.specs.Said.{spaced}
use Rattle.phrases.specs.Few.{PutFew}

pub few_text : (most : ℕ) {o p : Out} {bs : List ℕ} → length bs ≤ most → Puts o bs p → PutFew most o bs p
few_text most few puts = record { puts = puts; few = few }

pub few_then : {m n : ℕ} {o p q : Out} {xs ys : List ℕ} → PutFew m o xs p → PutFew n p ys q → PutFew (m + n) o (xs ++ ys) q
few_then {xs = xs} {ys = ys} first second =
    record { puts = puts_then first.puts second.puts; few = rw (length-append xs ys) (omega (arith, first.few, second.few)) }

pub few_more : {m n : ℕ} {o p : Out} {bs : List ℕ} → m ≤ n → PutFew m o bs p → PutFew n o bs p
few_more le put = record { puts = put.puts; few = omega (arith, put.few) }

-- where there is room for them, the run's first bytes are all that was put
pub all-put : {out bs after : List ℕ} {end : ℕ} → Put out 0 bs after end → length bs ≤ end → take end after ≡ bs
all-put {out} {bs} {after} {end} put all =
    let fits : 0 + length bs ≤ length out = omega (arith, put.place) in
    let is : length bs ≡ end = omega (arith, put.place) in
    ap (take end) (put-fits put fits) ∙ take_at bs (drop (0 + length bs) out) end is

pub all_few_put : {most : ℕ} {o p : Out} {bs : List ℕ} → o.at ≡ 0 → PutFew most o bs p → most ≤ length o.bytes.now → take p.at p.bytes.now ≡ bs
all_few_put {o = o} {p = p} {bs = bs} start put room = all-put (rw start at put.puts.put) (omega (arith, start, put.few, put.puts.put.place))

pub spaced_few : (n : ℕ) → n < 2 ^ 64 → length (spaced n) ≤ 21
spaced_few n small =
    let few : length (decimal_of n) ≤ 20 = decimal_short 19 n (omega arith) in
    rw (length-append (bytes " ") (decimal_of n)) (omega arith)
