-- The flush law: a cycle leaves the flush as it is, or moves it on by one instruction, outside a set X of lines.
--   Operands, Path: operands of what stands on the path; completing a path with one more item at its end.
--   Pipes: the pipeline alone, memory any function; PipeLaw: its flush law, by the fate of ID/EX; Counts: how much is completed.
--   MachinePipe: the machine's pipeline as such a one. Masked: the law over the view in which the bytes of X read 0.
--   Avoiding: where what is completed avoids X, the law outside X. FlushLaw: the machine's cycle.
--   Outcome: the flush is the outcome of the latches with the entries completed behind it.
--   AfterLog: the flush after another log, and the clock values that it leaves. Ranges: its numbers are in their ranges.
pub mod Operands
pub mod Path
pub mod Pipes
pub mod PipeLaw
pub mod Counts
pub mod MachinePipe
pub mod Masked
pub mod Avoiding
pub mod FlushLaw
pub mod AfterLog
pub mod Outcome
pub mod Ranges
