pub mod Numbers
pub mod Printouts
