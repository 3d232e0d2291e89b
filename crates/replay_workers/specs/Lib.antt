pub mod Fault
pub mod Draws
pub mod Work
pub mod SitePages
pub mod inside
