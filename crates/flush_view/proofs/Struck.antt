-- What a strike does to the view, to coherence and to the flush.
--   StoreSlots: a slot of the store buffer replaced by another, over a byte below.
--   LineSlots: a line slot replaced by another, in the cache and main memory.
--   Replacing: which slots may stand in place of which.
--   States: the laws, over states.
pub mod StoreSlots
pub mod LineSlots
pub mod Replacing
pub mod States
