pub mod Words
pub mod Quads
pub mod Listed
