pub mod Numbers
pub mod Quoting
pub mod ReadBack
pub mod Splits
