pub mod Finds
pub mod Words
pub mod Walks
pub mod Ends
pub mod Judges
