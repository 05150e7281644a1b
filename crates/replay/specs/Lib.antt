pub mod Checks
pub mod Numbers
pub mod Reading
pub mod Tallies
