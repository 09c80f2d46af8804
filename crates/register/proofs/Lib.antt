pub mod Parts
pub mod Growth
pub mod Going
pub mod Backing
pub mod Asking
