pub mod Calls
pub mod Sessions
pub mod Worked
