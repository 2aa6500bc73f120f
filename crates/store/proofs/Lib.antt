pub mod Filters
pub mod Handles
pub mod Searches
pub mod Stores
