pub mod Cutting
pub mod Finished
