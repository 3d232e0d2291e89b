pub mod Call
pub mod Fault
pub mod Rounds
