pub mod Outline
pub mod Sending
pub mod SameElement
pub mod Counterpart
pub mod Laws
pub mod inside
