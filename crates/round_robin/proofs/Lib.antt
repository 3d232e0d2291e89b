pub mod Dealing
pub mod Turns
