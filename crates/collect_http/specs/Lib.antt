pub mod Asking
pub mod Telling
pub mod Answering
pub mod Beginning
