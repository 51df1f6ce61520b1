-- The laws that proofs of this crate and above cite:
-- Numbers: of `all`, `count`, `least`, `greatest` and `tab`.
-- Counting: more of `count`, up to the pigeonhole.
-- Widths: what shifts and masks do, once for every width.
-- InARow: refusals in a row, of which the first is given.
-- Answers: what an answer says tells it apart from every other.
-- OneAnswer: a contract that allows one result alone.
-- Spots: of the single range test.
-- Sides: of the first number past a range and of the range test.
-- Standings: how two ranges stand to each other.
-- Prefixes: which answer a prefix has.
-- Blocks: the largest aligned block.
-- Expansion: the prefixes of a range, one law for an empty one and one for its first block.
-- Passes: counting and writing the prefixes.
-- RangeFaults: which refusal a range meets, and the whole answer.
-- Cover: what the prefixes of a range are: each number in exactly one, each block the largest.
-- Few: how many prefixes a range has, once for every width.
-- Zeros: what a machine's counts of zeros say, once for every word width; the largest aligned block by them.
-- Theorems: the headline statements, T1 to T5.
-- Determined: any two results that a contract allows are equal.
pub mod Numbers
pub mod Counting
pub mod Widths
pub mod InARow
pub mod Answers
pub mod OneAnswer
pub mod Spots
pub mod Sides
pub mod Standings
pub mod Prefixes
pub mod Blocks
pub mod Expansion
pub mod Passes
pub mod RangeFaults
pub mod Cover
pub mod Few
pub mod Zeros
pub mod Theorems
pub mod Determined
