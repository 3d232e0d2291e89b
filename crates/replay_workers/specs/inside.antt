pub mod Rule
pub mod Seats
pub mod Shares
pub mod Ordered
pub mod Clients
