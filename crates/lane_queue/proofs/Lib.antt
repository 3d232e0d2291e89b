pub mod Lists
pub mod Steps
pub mod Counts
pub mod CoreLaws
