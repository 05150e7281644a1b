pub mod Flatten
pub mod Answer
