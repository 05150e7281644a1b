pub mod Nearest
pub mod Units
pub mod Points
pub mod Examples
