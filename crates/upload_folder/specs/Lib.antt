pub mod Held
pub mod Laws
pub mod Slots
pub mod Standing
pub mod Told
pub mod inside
