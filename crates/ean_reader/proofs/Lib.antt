pub mod Finds
pub mod Quads
