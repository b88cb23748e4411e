-- The chain, lowest first. One cycle with a struck bit: DataMoves, DataCycles (the cache's data, with clean_lines' lemmas on other bytes),
-- RegisterCycles, on Guards (tests on numbers). Runs: the law of parity, one cycle and many. Decided: the first touch decides, and notes tell it; Said: what a fate says of
-- the flipped run. The table: Grown (rows grow in a cycle), Watching (the walk of the machine), Tabled (what is asked of it). The counts:
-- Ranges, Stretched (a bit in stretches of cycles), Groups (the bits of a group), Passed (from touch to touch), Totals (all bits), OneDue (a structure has one count). Worded: the
-- text.
mod DataCycles
mod DataMoves
mod Decided
mod Groups
mod Guards
pub mod OneDue
mod Passed
mod Ranges
mod RegisterCycles
mod Runs
mod Said
mod Stretched
mod Tabled
mod Totals
mod Watching
mod Worded
