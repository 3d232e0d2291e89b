pub mod Tree
pub mod inside
