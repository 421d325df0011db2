pub mod Walked
pub mod Laws
