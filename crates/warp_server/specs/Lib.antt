pub mod Answer
pub mod Rounds
pub mod Headline
pub mod program
