pub mod Line
pub mod Keeping
pub mod inside
