pub mod Openers
pub mod Depths
pub mod Siblings
pub mod Walks
