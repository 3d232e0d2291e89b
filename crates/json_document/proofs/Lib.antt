pub mod Spelled
pub mod Stand
pub mod FitLaws
pub mod Numbers
