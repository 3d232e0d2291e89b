pub mod Counting
pub mod Passed
pub mod Taken
pub mod Unread
pub mod Walked
