pub mod Capabilities
pub mod Events
pub mod Numbers
pub mod Options
pub mod Refusals
pub mod Says
pub mod Texts
pub mod Told
