pub mod Point
pub mod Angle
pub mod Turning
pub mod Curve
