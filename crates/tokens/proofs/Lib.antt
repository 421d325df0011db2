pub mod Lookups
pub mod Stored
pub mod Parsing
pub mod Stopping
pub mod Spans
