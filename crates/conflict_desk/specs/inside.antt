pub mod Links
pub mod Settling
pub mod Along
pub mod Kept
