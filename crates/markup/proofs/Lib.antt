pub mod Inert
pub mod Joined
