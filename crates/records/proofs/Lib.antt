pub mod Listing
pub mod Places
pub mod Rows
