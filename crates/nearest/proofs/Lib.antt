pub mod Nearests
pub mod Gating
