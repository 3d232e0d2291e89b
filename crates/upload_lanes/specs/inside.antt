pub mod Sent
pub mod Recording
pub mod Party
