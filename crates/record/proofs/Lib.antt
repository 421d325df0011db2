pub mod Weighs
pub mod Packs
pub mod Spreads
pub mod Unpacks
pub mod Spares
pub mod Counts
pub mod Tests
pub mod Answering
