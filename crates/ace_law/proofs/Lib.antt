-- The chain, lowest first. Alike: flushes that are bound to give the recorded output and end. Told: what is known of a cycle of the recorded
-- run. AlikeNext: what keeps a flush alike. Lasting and Harmless: a state whose flush is alike ends as the recorded run, within the bound.
-- Spared: strikes after which the flush is alike; SparedSame, LaterSpared, EndsSame: what is proved of them is what the rules use. Stands, Base,
-- Follows: the recorded state over other memory, along a path that follows it; SparedPaths: so it is spared. Then the rules, by subject: timing;
-- entries of the path; registers; masked bits; line slots; data; the store buffer; empty places; clean data and tags. UnAce: the law.
pub mod Alike
pub mod Told
mod Unclocked
mod AlikeNext
mod Lasting
mod Harmless
mod Spared
mod SparedSame
mod LaterSpared
mod EndsSame
mod Stands
mod Base
mod Follows
mod SparedPaths
mod TimingRule
mod PathItems
mod PathStrikes
mod PathRules
mod Registers
mod StruckRegisters
mod OtherRegisters
mod RegisterRule
pub mod Masked
mod RecordedStates
mod CacheRules
mod CacheFlips
mod LineRules
mod DataRules
mod StoreRules
mod EmptyPlaces
mod IgnoredFlips
mod LaterEvents
mod CleanFlips
mod UnAce
