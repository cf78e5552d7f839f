pub mod Refusals
pub mod Grounds
pub mod Words
