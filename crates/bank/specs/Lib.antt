pub mod Meaning
pub mod Calls
pub mod Layers
pub mod Below
pub mod Theorems
pub mod Joined
pub mod Alike
pub mod Limited
