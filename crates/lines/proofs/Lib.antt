pub mod Computes
pub mod Shown
pub mod Newlines
pub mod Splits
pub mod Feeds
pub mod Runs
pub mod Laws
