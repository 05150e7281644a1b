pub mod Laying
pub mod Taken
pub mod Following
mod Failing
