pub mod Rounds
pub mod inside
