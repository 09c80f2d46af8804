pub mod Limits
pub mod BadPlaces
pub mod Claims
