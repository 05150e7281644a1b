pub mod Examples
pub mod Shapes
pub mod Opening
pub mod WhereRefused
