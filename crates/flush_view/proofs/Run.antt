-- The run from reset follows the instruction set's run, and ends as it does.
--   Clients, BusyPort: a busy port works for a client that is there and whose line is missing.
--   Sound: what was fetched and decoded is as the image says; Followed: MEM/WB and EX/MEM stand for two states of the run.
--   OnPath: the flush stands behind the entries that are on path; RunCounts: what the cycles count.
--   Reset: the machine at reset; FromReset: each state of its run follows; RunFacts: the facts of such a state; RunLaw: the whole.
pub mod Clients
pub mod BusyPort
pub mod Sound
pub mod Followed
pub mod OnPath
pub mod RunCounts
pub mod Reset
pub mod FromReset
pub mod RunFacts
pub mod RunLaw
