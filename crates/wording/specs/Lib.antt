pub mod Numbers
pub mod Quoting
pub mod Refusing
pub mod Words
