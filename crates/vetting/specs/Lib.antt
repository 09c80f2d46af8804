pub mod Vetting
pub mod Tallies
