pub mod Fault
pub mod Lane
pub mod Round
pub mod Taking
pub mod inside
