pub mod Arrays
pub mod Lanes
pub mod Laws
pub mod Layouts
pub mod Names
pub mod Shapes
pub mod Slots
