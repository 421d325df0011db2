pub mod Lines
pub mod Given
pub mod Run
pub mod Laws
