mod Grouped
mod Digits
mod Orders
mod UnAce
mod BitLines
mod StructureLines
mod Searched
mod Reaches
mod MapsWritten
mod FileLines
mod Checked
mod Rounds
mod RoundTrips
pub mod HarmlessLines
pub mod Outcomes
pub mod OneMap
pub mod OwnMaps
