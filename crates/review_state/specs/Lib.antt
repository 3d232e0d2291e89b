pub mod Counts
pub mod Fronts
pub mod Branches
pub mod Paging
pub mod Finding
pub mod inside
