-- The lockstep law: two states that differ in ignored fields alone do the same for ever. Each file shows of what it speaks that it is a
-- function of what is read of the state.
--   Latches: the instruction buffer and the latches; NextLatches: the next ones.
--   Stores, PortMoves: the pending stores, and the move of the port; Lines, NextLines: the cache, and the next cache and main memory.
--   LockstepLaw: the machine's cycle.
pub mod Latches
pub mod NextLatches
pub mod Stores
pub mod PortMoves
pub mod Lines
pub mod NextLines
pub mod LockstepLaw
