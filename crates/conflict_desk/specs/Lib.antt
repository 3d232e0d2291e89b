pub mod Docket
pub mod Book
pub mod Below
pub mod Desk
pub mod Laws
pub mod Fault
pub mod inside
