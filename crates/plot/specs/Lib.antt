pub mod Text
pub mod Plot
pub mod ReadBack
pub mod Lent
