pub mod Passing
pub mod InOrder
pub mod Naming
