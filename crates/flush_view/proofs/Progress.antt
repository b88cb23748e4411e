-- The progress law: whatever the structures hold, an occupied EX/MEM is soon left.
--   PortWait: how long the client that the port serves first has still to wait, a number that falls.
--   Stalled, Waiting: EX/MEM is occupied: what a memory stage that waits tells, and the number that falls meanwhile.
--   Phases: EX/MEM is empty: what becomes of ID/EX, and what the front of the pipeline holds next. ProgressLaw: all phases in turn.
pub mod PortWait
pub mod Stalled
pub mod Waiting
pub mod Phases
pub mod ProgressLaw
