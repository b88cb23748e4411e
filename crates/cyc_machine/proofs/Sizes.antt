-- The sizes that last: a cycle keeps them.
--   CacheKept: the lengths of the cache's lists and of main memory, bytes in both, and tags.
--   Front: what IF, ID and the predictor hold; Widths: EX/MEM, MEM/WB, the register file, the port and the store buffer.
--   Lasting: all of them, at reset and after a cycle; Flipped: after a strike.
pub mod CacheKept
pub mod Front
pub mod Widths
pub mod Lasting
pub mod Flipped
pub mod Words
