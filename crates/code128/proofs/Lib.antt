pub mod Encodes
pub mod Words
pub mod Rows
pub mod Joins
pub mod Sums
