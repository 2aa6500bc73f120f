pub mod Calls
pub mod Model
pub mod Outcomes
pub mod Refusal
pub mod Rests
pub mod Rules
pub mod Told
pub mod Parts
