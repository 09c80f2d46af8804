pub mod Marks
pub mod Sweeps
pub mod Making
