pub mod Members
pub mod Decision
pub mod Site
pub mod Reading
pub mod Fault
pub mod Refused
pub mod inside
