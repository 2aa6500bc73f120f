pub mod Leaving
pub mod Reading
pub mod Spelling
pub mod Showing
