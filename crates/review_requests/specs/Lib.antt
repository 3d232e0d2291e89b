pub mod Form
pub mod Host
pub mod Origin
pub mod Posting
pub mod Status
pub mod Target
pub mod Verdict
