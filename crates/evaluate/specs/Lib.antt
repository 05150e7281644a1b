pub mod Evaluate
pub mod Output
pub mod Lent
pub mod Delivery
pub mod Writing
