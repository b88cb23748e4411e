pub mod HeldBefore
pub mod Histories
pub mod Notes
