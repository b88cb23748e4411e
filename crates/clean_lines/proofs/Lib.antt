-- The chain, lowest first. Lists: one element beside a write and a refill. Moves: two caches that agree on the line that is asked for make
-- the port move alike. OtherCache: then report and next state are the same but for cache and main memory. Stays: what a slot holds after a
-- cycle. Data bits: OtherBytes, BytesRead (what a load takes), DataMoves (what a move makes of the cache), DataCycles, DataRuns. Tag bits:
-- OtherTags, TagMoves, TagCycles, TagRuns. Alike, Law: what it comes to.
mod Alike
pub mod BytesRead
mod DataCycles
pub mod DataMoves
mod DataRuns
pub mod Law
pub mod Lists
pub mod Moves
pub mod OtherBytes
pub mod OtherCache
mod OtherTags
mod Stays
mod TagCycles
mod TagMoves
mod TagRuns
