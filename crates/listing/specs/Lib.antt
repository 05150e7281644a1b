pub mod Grammar
pub mod Reading
pub mod Writing
pub mod Program
pub mod Told
pub mod Printing
