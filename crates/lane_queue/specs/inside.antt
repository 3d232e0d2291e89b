pub mod Passes
pub mod Core
