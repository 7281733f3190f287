pub mod Commands
pub mod Heads
pub mod Words
