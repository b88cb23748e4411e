pub mod Buffering
mod Growing
mod Reading
