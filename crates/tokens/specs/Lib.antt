pub mod Sets
pub mod Tokens
pub mod Stopped
