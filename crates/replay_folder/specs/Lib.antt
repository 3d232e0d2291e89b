pub mod Names
pub mod Ends
pub mod Taking
pub mod FolderReport
pub mod Replays
pub mod Replayed
pub mod inside
