pub mod Path
pub mod Fault
pub mod Reaches
pub mod Targets
pub mod inside
