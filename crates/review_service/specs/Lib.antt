pub mod Fields
pub mod Statuses
pub mod Answering
pub mod Showing
