pub mod Prelude
pub mod Answers
pub mod Owes
pub mod Order
pub mod Modulo10
pub mod Readers
pub mod Numbers
pub mod Terms
