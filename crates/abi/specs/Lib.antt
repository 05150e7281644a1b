pub mod Reply
pub mod Lent
