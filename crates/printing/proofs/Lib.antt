pub mod Lowests
pub mod BaseNames
pub mod Putting
pub mod LinesLeft
pub mod Bounds
