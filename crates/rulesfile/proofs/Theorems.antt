-- The headline statements about a rules file. `bytes` are a file's bytes, any at all, and ps are the pieces that they come in.
--
--     rules-read        what the code makes of a file's bytes is what its lines say: the first flaw, or every number
--     pieces_read       the same of a file that comes in pieces, cut anywhere, of which nothing more is read after a flaw
--     flaw_number_is    the number of a file's flaw is the one that 01 refuses the file by
--     tabled_is         what is then built is the file's flaw, or the list of its rules and their table
--     file_read         all of it at once, of a file in pieces: its refusal, or its list and table
--
-- The contracts tie the code to these definitions: `rules_start`, `rules_piece`, `rules_end`, `rules_shape`, `rules_length`,
-- `rules_room` and `rules_table`.
-- Assumes nothing.
use Prim.Native.Nat.{ℕ}
use mathlib.Core.List.{List, flatten}
use mathlib.Core.Path.{◌≡◌}
use native.Mathlib.Omega.{arith}
use lib.ListN.{length}
use Rattle.lists.specs.Limits.{most_numbers}
use Rattle.tables.specs.Layout.{most_table}
use Rattle.text.specs.Cells.{fed}
use Rattle.text.specs.Files.{lines_of}
use Rattle.text.specs.Judging.{Judged}
use Rattle.rulesfile.specs.Faults.{rules_fault}
use Rattle.rulesfile.specs.Flaws.{file_flaw}
use Rattle.flaws.specs.Numbered.{number_of_flaw}
use Rattle.rulesfile.specs.Bytes.{no_rules, rules_in_file, rules_step, rules_end, rules_pieces}
use Rattle.rulesfile.specs.declared.file.RulesSoFar.{RulesSoFar}
use Rattle.rulesfile.proofs.Come as come
use Rattle.rulesfile.proofs.Pieces as pieces
use Rattle.rulesfile.proofs.Listing as listing
use Rattle.rulesfile.proofs.Ended as ended

-- ---- reading
-- whatever the list holds at first, as long as it has 16,384 places
pub rules-read : (bytes list : List ℕ) → length list ≡ most_numbers → come.Come (lines_of bytes) (rules_end (fed rules_step (rules_in_file no_rules list) bytes))
rules-read = come.rules-read

-- where the pieces are cut changes nothing of what is read: not between CR and LF, not within a number; nor does the stop after a flaw
pub pieces_read : (ps : List (List ℕ)) (list : List ℕ) → length list ≡ most_numbers
    → come.Come (lines_of (flatten ps)) (rules_pieces (rules_in_file no_rules list) ps)
pieces_read = pieces.pieces_read

-- ---- refusing
-- whoever is told a flaw is told of what 01 refuses, and of nothing else
pub flaw_number_is : (ls : List (List ℕ)) → number_of_flaw (file_flaw ls) ≡ rules_fault ls
flaw_number_is = listing.flaw_number_is

-- ---- building
-- a file that has ended, in a run for the table that has room for the longest
pub tabled_is : (ls : List (List ℕ)) (y : Judged RulesSoFar) (table : List ℕ) → come.Come ls y → length table ≡ most_table → ended.TableStands ls y table
tabled_is ls y table at size = ended.tabled ls y table at (omega arith)

-- a whole file, from its pieces to its table
pub file_read : (ps : List (List ℕ)) (list table : List ℕ) → length list ≡ most_numbers → length table ≡ most_table
    → ended.TableStands (lines_of (flatten ps)) (rules_pieces (rules_in_file no_rules list) ps) table
file_read ps list table long size = tabled_is (lines_of (flatten ps)) (rules_pieces (rules_in_file no_rules list) ps) table (pieces_read ps list long) size
