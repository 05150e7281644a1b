pub mod Halves
pub mod Parts
pub mod Alike
pub mod Sums
pub mod Roots
pub mod Nearest
