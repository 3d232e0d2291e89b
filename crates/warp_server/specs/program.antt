pub mod Call
pub mod Callers
pub mod Listen
