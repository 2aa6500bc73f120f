pub mod Devices
pub mod Drain
pub mod History
pub mod Law
pub mod Runs
