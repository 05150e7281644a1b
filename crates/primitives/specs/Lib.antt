pub mod Edits
pub mod Quads
pub mod Cubics
pub mod Splines
pub mod Plan
pub mod Shapes
