pub mod Ascending
pub mod Pages
pub mod InText
pub mod Finding
pub mod FoundPages
pub mod AddedFinds
pub mod Levels
pub mod Found
