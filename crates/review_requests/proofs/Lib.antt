pub mod Visible
pub mod Joined
pub mod Words
pub mod Posted
