pub mod Source
pub mod inside
