pub mod Ean13
pub mod Order
pub mod Terms
pub mod Promises
