pub mod Polynomials
pub mod Shares
pub mod Decoding
pub mod Codes
pub mod Calls
pub mod Theorems
pub mod Examples
pub mod Lagrange
