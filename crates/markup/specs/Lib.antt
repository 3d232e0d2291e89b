pub mod Escaping
pub mod Drawing
pub mod Filling
