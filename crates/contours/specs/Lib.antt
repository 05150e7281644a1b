pub mod Cutting
pub mod Finished
pub mod Contours
