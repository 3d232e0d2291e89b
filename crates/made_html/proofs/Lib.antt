pub mod Made
pub mod Nothing
