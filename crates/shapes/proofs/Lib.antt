pub mod Vets
pub mod Shaping
