pub mod Threads
pub mod inside
