pub mod Devices
pub mod Heads
pub mod Listing
pub mod Owners
pub mod Places
pub mod Rows
pub mod Seats
