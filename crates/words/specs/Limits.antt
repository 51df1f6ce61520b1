-- How many numbers a line may bring and how many bytes it is answered with at most, and the runs that have room for them.
-- What depends on a list or a table follows from the longest that the library takes.
-- Assumes nothing: these are definitions.
use Rattle.std.specs.Prelude.{ℕ, ◌+◌, ◌*◌, ◌/◌}
use Rattle.lists.specs.Limits.{most_rules, most_numbers}
use Rattle.tables.specs.Layout.{most_table}

-- the next multiple of k past n
abbrev pub past_in : ℕ → ℕ → ℕ
past_in k n = (n / k + 1) * k

-- the most numbers of LIST, past the longest list
abbrev pub list_most : ℕ
list_most = past_in 500 most_numbers

-- the most numbers of TABLE, past the longest table
unfoldable pub table_most : ℕ
table_most = past_in 500 most_table

-- the most numbers of r2p's RUN
abbrev pub run_most : ℕ
run_most = 200

-- the most numbers of RUN of choose and layout, past the longest choice
abbrev pub choice_most : ℕ
choice_most = past_in 100 most_rules

-- the length of the run for a line's numbers: a list's, a choice's, a table's, and 100 for D, the three lengths and what follows
abbrev pub line_room : ℕ
line_room = list_most + choice_most + table_most + 100

-- the length of the run for a line's first word, past that of the longest name
abbrev pub name_room : ℕ
name_room = 16

-- what an answer has at most, its LF counted: a number with its blank has at most 21 bytes, and all but a table's numbers at
-- most 100; an answer with a run is shorter
abbrev pub answer_most : ℕ
answer_most = table_most * 21 + 100

-- the length of the run for answers, past the longest
abbrev pub out_room : ℕ
out_room = past_in 100000 answer_most
