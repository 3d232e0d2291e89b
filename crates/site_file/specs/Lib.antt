pub mod Addition
pub mod SiteFile
pub mod Kept
pub mod Sentence
pub mod inside
