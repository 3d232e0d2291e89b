pub mod Visit
pub mod inside
