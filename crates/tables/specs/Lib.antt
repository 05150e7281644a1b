pub mod Tables
pub mod Numbers
pub mod Past
pub mod Run
pub mod Lent
pub mod Commands
