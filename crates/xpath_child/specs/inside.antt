pub mod Search
pub mod Shared
