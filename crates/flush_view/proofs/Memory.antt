-- The memory law: what a cycle does to the view of memory and to the cache's coherence, outside a set X of lines.
-- The cache, slot by slot:
--   FoundByte: the byte that the cache finds, else main memory's.
--   Drain: a store written into the way that holds its line; Fill: a line read into a way, whose old line is written back.
--   MovedSlots: a move of the port as a change of slots and of memory.
-- The pending stores:
--   FourSlots: those of the four slots, the free ones left out; Overlay: what they are over a byte below.
-- The law:
--   SlotLaw: coherence and view after a move, over slots and lists; Loads, Given: what a done action gives its register.
--   MemoryLaw: the machine's cycle. ViewBytes: the bytes of the view are below 256.
pub mod FoundByte
pub mod Drain
pub mod Fill
pub mod MovedSlots
pub mod FourSlots
pub mod Overlay
pub mod SlotLaw
pub mod Loads
pub mod Given
pub mod MemoryLaw
pub mod ViewBytes
