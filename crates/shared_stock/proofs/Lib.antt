pub mod Beginnings
pub mod MadeLaws
