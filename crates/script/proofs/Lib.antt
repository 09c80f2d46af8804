pub mod Digits
pub mod Readings
