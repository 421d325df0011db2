pub mod Line
pub mod Form
