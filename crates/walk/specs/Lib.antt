pub mod Walk
pub mod Length
