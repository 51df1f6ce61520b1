-- 01, The working table, and 02, W5: where its parts stand, and the table read as a view. Nothing else knows an offset: each part begins where the one
-- before it ends, and proofs use the laws of `proofs/Offsets.antt`. `room` is how many rules a part has room for, today n.
-- Assumes nothing: these are definitions.
use Rattle.tables.specs.declared.read.Table.{Table}
use Rattle.std.specs.Prelude.{ℕ, ◌+◌, ◌*◌, List, ◌≡◌, length, get_or}
use Rattle.lists.specs.Limits.{most_fields, most_rules}

-- where n, d and b stand
abbrev pub n_at : ℕ
n_at = 0

abbrev pub d_at : ℕ
d_at = 1

abbrev pub b_at : ℕ
b_at = 2

-- how many numbers these are
abbrev pub head_length : ℕ
head_length = 3

-- the number of place p and field f among numbers that stand place by place, field by field
unfoldable pub row_of : ℕ → ℕ → ℕ → ℕ
row_of d p f = p * d + f

-- where the rule number at place p stands
unfoldable pub order_at : ℕ → ℕ
order_at p = head_length + p

-- where the first place of partition q stands: after the order
unfoldable pub start_at : ℕ → ℕ → ℕ
start_at room q = order_at room + q

-- the rule number at place p of a table
abbrev pub order_in : List ℕ → ℕ → ℕ
order_in T p = get_or T (order_at p) 0

-- the start number q of a table with this room
abbrev pub start_in : ℕ → List ℕ → ℕ → ℕ
start_in room T q = get_or T (start_at room q) 0

-- where the smallest rule number of partition q stands: after the last start, of room + 1
unfoldable pub least_at : ℕ → ℕ → ℕ
least_at room q = start_at room room + 1 + q

-- the smallest rule number that a table with this room stores for partition q
abbrev pub least_in : ℕ → List ℕ → ℕ → ℕ
least_in room T q = get_or T (least_at room q) 0

-- where the run-from of place p and field f stands: after the last smallest number, of room
unfoldable pub from_at : ℕ → ℕ → ℕ → ℕ → ℕ
from_at room d p f = least_at room room + row_of d p f

-- where its run-to stands: after the last run-from
unfoldable pub to_at : ℕ → ℕ → ℕ → ℕ → ℕ
to_at room d p f = from_at room d room 0 + row_of d p f

-- the length of a table: after the last run-to
-- (of n = 5, d = 2, 01's bench list: 39)
unfoldable pub table_length : ℕ → ℕ → ℕ
table_length room d = to_at room d room 0

-- the length of the longest table
abbrev pub most_table : ℕ
most_table = table_length most_rules most_fields

-- a table of the right length for a room and d fields
pub record TableFor (room d : ℕ) (T : List ℕ) : Type 0 where
  pub long : length T ≡ table_length room d

-- what a table says: how many rules, fields and partitions; the rule at a place; the first place of a partition, and its smallest rule
-- number as it is stored; the first place of a place's run by its first fields up to f, and the place after its last
pub record View : Type 0 where
  pub n : ℕ
  pub d : ℕ
  pub b : ℕ
  pub order : ℕ → ℕ
  pub start : ℕ → ℕ
  pub least : ℕ → ℕ
  pub from : ℕ → ℕ → ℕ
  pub to : ℕ → ℕ → ℕ

-- a table with this room, for rules of d fields, read as a view
abbrev pub view : ℕ → ℕ → List ℕ → View
view room d T =
    record {
      n = get_or T n_at 0;
      d = get_or T d_at 0;
      b = get_or T b_at 0;
      order = order_in T;
      start = start_in room T;
      least = least_in room T;
      from = λ p f. get_or T (from_at room d p f) 0;
      to = λ p f. get_or T (to_at room d p f) 0;
    }

-- what is seen of a table as it is lent
abbrev pub seen : Table → View
seen t = view t.room t.d t.numbers.now
