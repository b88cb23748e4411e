-- Logically masked bits are spared. Known: what more is known of a moment. Stands: the recorded states over other clock values and logs;
-- Reaches: entries on path lead from one to the next. Does: states that do the same as the recorded one are alike. Operations: an operation
-- that does the same; Latches: what the recorded latches leave; Outcomes: struck latches whose outcome agrees. LatchBits, EntryBits: the
-- bits of the latches and of an entry on path. Rule: the rule.
-- What the masks of eval_mask have to do with it: Counts: the machine's count of instructions is that of the run; LatchMasks, WordMasks: a
-- bit of a mask is set exactly where the bit is masked; FetchFaults: the fault bit of an entry.
pub mod Known
mod Stands
pub mod Reaches
mod Does
mod Operations
mod Latches
mod Outcomes
mod LatchBits
pub mod EntryBits
pub mod Rule
pub mod Counts
pub mod LatchMasks
pub mod WordMasks
pub mod FetchFaults
