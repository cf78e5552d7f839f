pub mod Scanned
pub mod Filled
pub mod Cleared
pub mod Changed
pub mod Rewritten
