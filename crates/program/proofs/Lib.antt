pub mod Printing
pub mod Fitting
