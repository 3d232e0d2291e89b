pub mod Words
pub mod Visits
pub mod Deciding
pub mod Top
