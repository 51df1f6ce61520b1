-- Laws of the working table's layout (`specs/Layout.antt`): each part begins where the one before it ends, and lies within a table of
-- the right length. Proofs of every crate cite these; only this file unfolds an offset.
--     order_next, start_next, start_suc, least_next, from_next, to_next          one place, one partition, one row and field further
--     head_ends, order_ends, starts_end, leasts_end, froms_end, tos_end      each part begins where the one before it ends, and the last ends the table
--     row_first, row_in, row_place, row_field             the first number of a row; one number of all rows, with its place and field
--     row_back, row_split                                 back from a number of all rows to its place and field
--     opening_inside, order_inside, start_inside, least_inside, from_inside, to_inside      every number lies within the table
--     starts_fit, start_within, froms_fit, tos_fit        so do the parts
--     from_row_at, to_row_at                              where a row begins
--     row_few, start_few, start_told_few, least_few, from_few             an offset of numbers of 16 bits is far below a word
--     most_table_lem, table_few                               the length of the longest table
-- Assumes nothing.
use Prim.Native.Nat.{ℕ, zero, suc, ◌+◌, ◌*◌, ◌/◌, ◌%◌, ◌^◌, ◌≤◌, ◌<◌}
use mathlib.Core.List.{List}
use mathlib.Core.Path.{◌≡◌, refl}
use native.Mathlib.Omega.{arith}
use native.Mathlib.Nat.{mul-le-mul, mul-zero, div-add-mod', div-lt_iff_lt-mul, mod-lt}
use Rattle.lists.specs.Limits.{most_fields, most_rules}
use Rattle.lists.proofs.Rules.{row_inside, square_few}
use lib.Arith.{digits_div, digits_mod}
use lib.ListN.{length}
use Rattle.tables.specs.Layout.{head_length, TableFor, row_of, table_length, order_at, start_at, least_at, from_at, to_at, most_table}

-- ---- rows
module _ (d p : ℕ) where
  pub row_first : row_of d p 0 ≡ p * d
  unfolding row_of
  row_first = omega arith

  -- a place and a field among n places of d fields
  pub row_in : (n f : ℕ) → p < n → f < d → row_of d p f < n * d
  unfolding row_of
  row_in n f lt in_row = row_inside d p n f lt in_row

-- rows that hold a number have a field
row_some : (d n c : ℕ) → c < n * d → 0 < d
row_some zero n c lt = absurd (omega (arith, mul-zero n))
row_some (suc d) n c lt = omega arith

-- a number among rows of d, by its place and field
module _ {d : ℕ} (p : ℕ) {f : ℕ} (in_row : f < d) where
  pub row_place : row_of d p f / d ≡ p
  unfolding row_of
  row_place = digits_div p in_row

  pub row_field : row_of d p f % d ≡ f
  unfolding row_of
  row_field = digits_mod p in_row

-- back from a number to its place and field
module _ (d c : ℕ) where
  pub row_back : row_of d (c / d) (c % d) ≡ c
  unfolding row_of
  row_back = div-add-mod' c d

  pub row_split : (n : ℕ) → c < n * d → (c / d < n) × (c % d < d)
  row_split n lt = let some : 0 < d = row_some d n c lt in ((div-lt_iff_lt-mul some).1 lt, mod-lt c some)

-- ---- one further
pub order_next : (p : ℕ) → order_at p ≡ order_at 0 + p
unfolding order_at
order_next p = omega arith

pub start_next : (room q : ℕ) → start_at room q ≡ start_at room 0 + q
unfolding start_at
start_next room q = omega arith

pub start_suc : (room q : ℕ) → start_at room q + 1 ≡ start_at room (suc q)
unfolding start_at
start_suc room q = omega arith

pub least_next : (room q : ℕ) → least_at room q ≡ least_at room 0 + q
unfolding least_at
least_next room q = omega arith

module _ (room d p f : ℕ) where
  pub from_next : from_at room d p f ≡ from_at room d 0 0 + row_of d p f
  unfolding from_at row_of
  from_next = omega arith

  pub to_next : to_at room d p f ≡ to_at room d 0 0 + row_of d p f
  unfolding to_at row_of
  to_next = omega arith

-- ---- each part begins where the one before it ends
pub head_ends : order_at 0 ≡ head_length
unfolding order_at
head_ends = refl

pub order_ends : (room : ℕ) → order_at 0 + room ≡ start_at room 0
unfolding start_at
order_ends room = omega (arith, order_next room)

pub starts_end : (room : ℕ) → start_at room 0 + (room + 1) ≡ least_at room 0
unfolding least_at
starts_end room = omega (arith, start_next room room)

module _ (room d : ℕ) where
  pub leasts_end : least_at room 0 + room ≡ from_at room d 0 0
  unfolding from_at row_of
  leasts_end = omega (arith, least_next room room)

  pub froms_end : from_at room d 0 0 + room * d ≡ to_at room d 0 0
  unfolding to_at row_of
  froms_end = omega (arith, from_next room d room 0, row_first d room)

  pub tos_end : to_at room d 0 0 + room * d ≡ table_length room d
  unfolding table_length
  tos_end = omega (arith, to_next room d room 0, row_first d room)

-- ---- within the table
module _ (room d : ℕ) where
  -- n, d, b and the first start
  pub opening_inside : head_length < table_length room d
  opening_inside = omega (arith, head_ends, order_ends room, starts_end room, leasts_end room d, froms_end room d, tos_end room d)

  pub order_inside : (p : ℕ) → p < room → order_at p < table_length room d
  order_inside p lt = omega (arith, order_next p, order_ends room, starts_end room, leasts_end room d, froms_end room d, tos_end room d)

  pub start_inside : (q : ℕ) → q ≤ room → start_at room q < table_length room d
  start_inside q le = omega (arith, start_next room q, starts_end room, leasts_end room d, froms_end room d, tos_end room d)

  pub least_inside : (q : ℕ) → q < room → least_at room q < table_length room d
  least_inside q lt = omega (arith, least_next room q, leasts_end room d, froms_end room d, tos_end room d)

  pub from_inside : (p f : ℕ) → p < room → f < d → from_at room d p f < table_length room d
  from_inside p f lt in_row = omega (arith, from_next room d p f, row_in d p room f lt in_row, froms_end room d, tos_end room d)

  pub to_inside : (p f : ℕ) → p < room → f < d → to_at room d p f < table_length room d
  to_inside p f lt in_row = omega (arith, to_next room d p f, row_in d p room f lt in_row, tos_end room d)

-- the starts fit a table in which the last one stands
pub starts_fit : (room long : ℕ) → start_at room room < long → start_at room 0 + (room + 1) ≤ long
starts_fit room long lt = omega (arith, start_next room room)

pub start_within : {room q r long : ℕ} → r ≡ start_at room q → q ≤ room → start_at room room < long → r < long
start_within {room} {q} {r} at le lt = omega (arith, at, start_next room room, start_next room q)

module _ (room d p : ℕ) where
  pub from_row_at : from_at room d p 0 ≡ from_at room d 0 0 + p * d
  from_row_at = omega (arith, from_next room d p 0, row_first d p)

  pub to_row_at : to_at room d p 0 ≡ to_at room d 0 0 + p * d
  to_row_at = omega (arith, to_next room d p 0, row_first d p)

-- ---- the rows of runs fit the table
module _ {room d : ℕ} {T : List ℕ} (sized : TableFor room d T) where
  pub froms_fit : from_at room d 0 0 + room * d ≤ length T
  froms_fit = omega (arith, sized.long, froms_end room d, tos_end room d)

  pub tos_fit : to_at room d 0 0 + room * d ≤ length T
  tos_fit = omega (arith, sized.long, tos_end room d)

-- ---- offsets are small
-- numbers of 16 bits
module _ {d p f : ℕ} (few-d : d < 2 ^ 16) (few-p : p < 2 ^ 16) where
  pub row_few : f < 2 ^ 16 → row_of d p f ≤ 4294901760
  unfolding row_of
  row_few few-f = omega (arith, square_few d p few-d few-p)

pub start_few : {room q : ℕ} → room < 2 ^ 16 → q < 2 ^ 16 → start_at room q ≤ 131073
unfolding start_at order_at
start_few few-room few-q = omega arith

-- where a callee told it, of whichever partition, place and field
pub start_told_few : (room q : ℕ) {at : ℕ} → at ≡ start_at room q → room < 2 ^ 16 → q < 2 ^ 16 → at ≤ 131073
start_told_few room q is few-room few-q = omega (arith, is, start_few few-room few-q)

pub least_few : (room q : ℕ) {at : ℕ} → at ≡ least_at room q → room < 2 ^ 16 → q < 2 ^ 16 → at ≤ 196609
unfolding least_at
least_few room q is few-room few-q = omega (arith, is, start_few few-room few-room)

pub from_few : (room d p f : ℕ) {at : ℕ} → at ≡ from_at room d p f → room < 2 ^ 16 → d < 2 ^ 16 → p < 2 ^ 16 → f < 2 ^ 16 → at ≤ 4295098369
unfolding from_at
from_few room d p f is few-room few-d few-p few-f = omega (arith, is, least_few room room refl few-room few-room, row_few few-d few-p few-f)

-- ---- the longest table
pub most_table_lem : most_table ≡ 19460
unfolding table_length to_at from_at least_at start_at order_at row_of
most_table_lem = refl

pub table_few : (room d : ℕ) → room ≤ most_rules → d ≤ most_fields → table_length room d ≤ most_table
table_few room d few_rules few_fields =
    let product : room * d ≤ most_rules * most_fields = mul-le-mul few_rules few_fields in
    omega (
      arith,
      product,
      most_table_lem,
      head_ends,
      order_ends room,
      starts_end room,
      leasts_end room d,
      froms_end room d,
      tos_end room d,
    )
