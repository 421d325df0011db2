pub mod Decimals
pub mod Texts
pub mod Bounds
pub mod Cut
pub mod Forms
pub mod AnswerLines
pub mod Short
