pub mod Shares
pub mod Failures
pub mod Kept
pub mod Words
pub mod Bench
pub mod Timing
